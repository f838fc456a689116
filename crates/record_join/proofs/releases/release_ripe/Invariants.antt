use Rattle.std.proofs.Common.{length}
use Rattle.record_join.specs.Events.{Joining}
use Rattle.record_join.specs.StandsFor.{StandsFor}
use Rattle.flow_base.specs.declared.limits.Limits.{Limits}
use Rattle.record_join.proofs.Drained.{IsUnderWay}
use Rattle.record_join.proofs.releases.release_ripe.Given as goal

-- what was released so far is found, and the joiner stands for the rest
abbrev pub invariant-loop-event : goal.invariant-loop-event
invariant-loop-event l = (limits : Limits) (s : Joining) → StandsFor limits l.initial.join s → IsUnderWay limits s l.join l.found l.initial.found

abbrev pub decreases-loop-event : goal.decreases-loop-event
decreases-loop-event l = length l.join.groups
