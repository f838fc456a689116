use Rattle.std.proofs.Common.{◌≡◌, ◌++◌, map, length}
use Rattle.stored.specs.Batch.{waiting_row}
use Rattle.ingest.specs.WaitingRows.{as_lines}
use Rattle.ingest.proofs.waiting_rows.put_groups.Given as goal

-- the rows so far and those of the groups that are left are all rows
abbrev pub invariant-loop-group : goal.invariant-loop-group
invariant-loop-group l = l.to ++ map waiting_row (as_lines l.parts) ≡ l.fn.to ++ map waiting_row (as_lines l.fn.parts)

abbrev pub decreases-loop-group : goal.decreases-loop-group
decreases-loop-group l = length l.parts
