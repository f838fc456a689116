use Rattle.std.proofs.Common.{true, take}
use Rattle.ingest.specs.Waiting.{PutLines}
use Rattle.ingest.proofs.waiting.put_lines.Given as goal

-- the lines so far were taken in
abbrev pub invariant-loop-line : goal.invariant-loop-line
invariant-loop-line l = PutLines true l.limits l.key (take l.line-index l.lines) l.initial.join l.join
