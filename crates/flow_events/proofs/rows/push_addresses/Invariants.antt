use Rattle.std.proofs.Common.{◌≡◌, ◌++◌, map, length}
use Rattle.stored.specs.Batch.{address_row}
use Rattle.flow_events.proofs.rows.push_addresses.Given as goal

-- the rows so far are those of the entries that are gone
abbrev pub invariant-loop-act : goal.invariant-loop-act
invariant-loop-act l = l.fn.rows ++ map address_row l.fn.addresses.entries ≡ l.rows ++ map address_row l.addresses.entries

abbrev pub decreases-loop-act : goal.decreases-loop-act
decreases-loop-act l = length l.addresses.entries
