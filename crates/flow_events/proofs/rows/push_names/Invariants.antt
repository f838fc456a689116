use Rattle.std.proofs.Common.{◌≡◌, ◌++◌, map, length, reverse}
use Rattle.entity_names.specs.Known.{pairs_of}
use Rattle.stored.specs.Batch.{name_row}
use Rattle.flow_events.proofs.rows.push_names.Given as goal

-- the rows so far are those of the names that are gone
abbrev pub invariant-loop-key : goal.invariant-loop-key
invariant-loop-key l = l.fn.rows ++ map name_row (pairs_of l.fn.names) ≡ l.rows ++ map name_row (pairs_of (reverse l.names))

abbrev pub decreases-loop-key : goal.decreases-loop-key
decreases-loop-key l = length l.names
