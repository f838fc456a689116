use Rattle.std.proofs.Common.{◌≡◌, ◌++◌, map, length}
use Rattle.stored.specs.Batch.{held_row}
use Rattle.flow_events.proofs.rows.push_held.Given as goal

-- the rows so far are those of the entries that are gone
abbrev pub invariant-loop-pid : goal.invariant-loop-pid
invariant-loop-pid l = l.fn.rows ++ map held_row l.fn.held.entries ≡ l.rows ++ map held_row l.all.entries

abbrev pub decreases-loop-pid : goal.decreases-loop-pid
decreases-loop-pid l = length l.all.entries
