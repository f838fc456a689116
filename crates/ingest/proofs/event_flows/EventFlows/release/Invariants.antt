use Rattle.std.proofs.Common.{◌≡◌, ◌≤◌, ◌+◌, ◌^◌, List, length}
use Rattle.flow_base.specs.declared.limits.Limits.{Limits}
use Rattle.record_join.specs.Events.{Joining}
use Rattle.record_join.specs.declared.event.Event.{Event}
use Rattle.ingest.specs.Bounds.{StaysFew}
use Rattle.ingest.specs.StandsFor.{JoinedStandsFor}
use Rattle.ingest.proofs.Releasing.{IsUnderWay}
use Rattle.ingest.proofs.event_flows.EventFlows.release.Given as goal

-- part of what is ripe was released and followed, and the joiner stands for the rest
abbrev pub invariant-loop-self : goal.invariant-loop-self
invariant-loop-self g l = record {
  follows : (limits : Limits) (s : Joining) (released : List Event) → JoinedStandsFor limits l.fn.self s released → length released + length s.waiting ≤ 2 ^ 61 → IsUnderWay limits s released l.self;
  few : StaysFew l.fn.self l.self;
  alike : g.K.Rows.alike l.fn.self.keep l.self.keep;
  marked : l.self.tables.marked ≡ l.fn.self.tables.marked;
}

abbrev pub decreases-loop-self : goal.decreases-loop-self
decreases-loop-self g l = length l.self.join.groups
