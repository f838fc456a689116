use Rattle.std.proofs.Common.{◌≡◌, ◌++◌, map, length}
use Rattle.stored.specs.Batch.{born_row}
use Rattle.flow_events.proofs.rows.push_births.Given as goal

-- the rows so far are those of the entries that are gone
abbrev pub invariant-loop-file : goal.invariant-loop-file
invariant-loop-file l = l.fn.rows ++ map born_row l.fn.births.entries ≡ l.rows ++ map born_row l.births.entries

abbrev pub decreases-loop-file : goal.decreases-loop-file
decreases-loop-file l = length l.births.entries
