use Rattle.std.proofs.Common.{length}
use Rattle.std.specs.Prelude.{⊤}
use Rattle.log_tests.proofs.tables.newest_first.Given as goal

-- each act is turned once
abbrev pub invariant-loop-act : goal.invariant-loop-act
invariant-loop-act l = ⊤

abbrev pub decreases-loop-act : goal.decreases-loop-act
decreases-loop-act l = length l.acts
