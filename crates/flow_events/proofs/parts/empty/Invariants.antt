use Rattle.std.proofs.Common.{length}
use Rattle.std.specs.Bool.{⊤}
use Rattle.flow_events.proofs.parts.empty.Given as goal

-- nothing needs to be kept
abbrev pub invariant-loop : goal.invariant-loop
invariant-loop g l = ⊤

abbrev pub decreases-loop : goal.decreases-loop
decreases-loop g l = length l.items
