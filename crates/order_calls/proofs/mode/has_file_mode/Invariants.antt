use Rattle.std.proofs.Common.{◌≡◌, length}
use Rattle.order_calls.specs.Lines.{has_file_mode}
use Rattle.order_calls.proofs.mode.has_file_mode.Given as goal

-- what is left has the mode if the whole has it
abbrev pub invariant-loop-rest : goal.invariant-loop-rest
invariant-loop-rest l = has_file_mode l.line ≡ has_file_mode l.text

abbrev pub decreases-loop-rest : goal.decreases-loop-rest
decreases-loop-rest l = length l.text
