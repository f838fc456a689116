use Rattle.std.proofs.Common.{refl}
use Rattle.ingest.proofs.FewActs.{few_at, few_closed}
use Rattle.ingest.proofs.Releasing.{in_time_closed}
use Rattle.ingest.proofs.event_flows.EventFlows.close.Goals as goal

pub invariant_of-self : goal.invariant_of-self
invariant_of-self g c = in_time_closed _ _ _ _ _ c.self.invariant (c.settle.ensures _ c.self.invariant.s c.self.invariant.join_is)

pub returns-clause-few : goal.returns-clause-few
returns-clause-few g c = λ records f. few_closed _ _ records (few_at _ _ records c.self.view_is f) c.settle.ensures refl
