use Rattle.std.proofs.Common.{length}
use Rattle.call_acts.proofs.event.empty.Given as goal

abbrev pub decreases-loop-act : goal.decreases-loop-act
decreases-loop-act l = length l.done
