use Rattle.std.proofs.Common.{◌≡◌, ◌≤◌, ◌-◌, ℕ, List, length, drop, Some}
use Rattle.dialogue.specs.Course.{GoesUp}
use Rattle.dialogue.proofs.log.pass_over.Given as goal

-- the first `passed` bytes were passed over
abbrev pub invariant-loop-passed : goal.invariant-loop-passed
invariant-loop-passed g l =
    let source = g.L.Source in
    record {
      within : l.passed ≤ l.most;
      left : (bytes : List ℕ) → source.left l.initial.log ≡ Some bytes → source.left l.log ≡ Some (drop l.passed bytes);
      part : (bytes : List ℕ) → source.left l.initial.log ≡ Some bytes → l.passed ≤ length bytes;
      counts : GoesUp (source.faults l.initial.log) (source.faults l.log) (source.spent l.initial.log) (source.spent l.log);
    }

abbrev pub decreases-loop-passed : goal.decreases-loop-passed
decreases-loop-passed g l = l.most - l.passed
