use Rattle.std.proofs.Common.{true, take}
use Rattle.stored.specs.Words.{groups_of}
use Rattle.ingest.specs.Waiting.{PutGroups}
use Rattle.ingest.proofs.waiting.put_rows.Given as goal

-- the groups of the rows so far were taken in
abbrev pub invariant-loop-row : goal.invariant-loop-row
invariant-loop-row l = PutGroups true l.limits (groups_of (take l.row-index l.rows)) l.initial.join l.join
