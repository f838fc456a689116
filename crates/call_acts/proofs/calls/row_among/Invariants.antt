use Rattle.std.proofs.Common.{◌≡◌, true, length}
use Rattle.call_acts.specs.Calls.{ascend, row_with}
use Rattle.call_acts.proofs.calls.row_among.Given as goal

-- what is left of the rows has the number if a row has it, and ascends
abbrev pub invariant-loop-left : goal.invariant-loop-left
invariant-loop-left l = (row_with l.number l.left ≡ row_with l.number l.rows) × (ascend l.left ≡ true)

abbrev pub decreases-loop-left : goal.decreases-loop-left
decreases-loop-left l = length l.left
