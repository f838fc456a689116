use Rattle.std.proofs.Common.{◌-◌}
use Rattle.query_walk.specs.Marks.{marks_of}
use Rattle.reach_model.proofs.Ascending.{IsListedBelow}
use Rattle.query_walk.proofs.marks.Marks.marked.Given as goal

-- the marked objects below `from` are listed
abbrev pub invariant-loop-place : goal.invariant-loop-place
invariant-loop-place l = IsListedBelow (marks_of l.self-inside.bits l.self-inside.count) l.from l.ids

abbrev pub decreases-loop-place : goal.decreases-loop-place
decreases-loop-place l = l.self-inside.count - l.from
