use Rattle.std.proofs.Common.{refl}
use Rattle.ingest.proofs.FewActs.{few_at, few_entered}
use Rattle.ingest.proofs.Releasing.{in_time_entered, joined_at, not_excess, stands_entered}
use Rattle.ingest.proofs.event_flows.EventFlows.take.Goals as goal

pub invariant_of-self-then-eq : goal.invariant_of-self-then-eq
invariant_of-self-then-eq g c =
    in_time_entered _ _ _ _ _ c.self.invariant c.args.item.now (c.in_ok-taken.ensures.stands _ c.self.invariant.s c.self.invariant.join_is)

pub invariant_of-self-else-eq : goal.invariant_of-self-else-eq
invariant_of-self-else-eq g c =
    in_time_entered _ _ _ _ _ c.self.invariant c.args.item.now (c.in_ok-taken.ensures.stands _ c.self.invariant.s c.self.invariant.join_is)

pub returns-then-eq-clause-few : goal.returns-then-eq-clause-few
returns-then-eq-clause-few g c = λ records f.
    few_entered _ _ records c.args.item.now (few_at _ _ records c.self.view_is f) c.in_ok-taken.ensures.stands refl

pub returns-else-eq-clause-few : goal.returns-else-eq-clause-few
returns-else-eq-clause-few g c = λ records f.
    few_entered _ _ records c.args.item.now (few_at _ _ records c.self.view_is f) c.in_ok-taken.ensures.stands refl

pub returns-else-eq-clause-ok : goal.returns-else-eq-clause-ok
returns-else-eq-clause-ok g c = λ limits s released stands few.
    let own = joined_at limits _ _ s released c.self.view_is stands in
    stands_entered limits _ _ s released c.args.item.now c.in_ok-taken.taken own refl
    (c.in_ok-taken.ensures.stands limits s own.join) (c.in_ok-taken.ensures.ok limits s own.join)
    (not_excess c.in_ok-taken.taken c.eq.result c.if-eq.false c.eq.ensures)
