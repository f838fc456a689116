use Rattle.std.proofs.Common.{arith, ◌++◌, ◌∙◌, sym, subst, ap, List}
use Rattle.flow_base.specs.declared.types.Flow.{Flow}
use Rattle.acts.specs.Flows.{flows}
use Rattle.record_join.specs.StandsFor.{event_seen}
use Rattle.kept_flows.specs.KeptFlows.{ComeNext, StandsFor as KeptStandsFor}
use Rattle.ingest.proofs.Following.{come_next}
use Rattle.ingest.proofs.Together.{goes_with, may_take}
use Rattle.ingest.proofs.event_flows.take_event.Goals as goal

pub plan_event-requires-clause-safe : goal.plan_event-requires-clause-safe
plan_event-requires-clause-safe g c = c.requires.together.safe

pub take-requires : goal.take-requires
take-requires g c = record {
  next = may_take _ _ _ c.plan_event.new.plan _ c.flows.ensures c.requires.together c.in-Ok.ensures.flows
      (let same = c.in-Ok.ensures.room.flows in let fit = c.in-Ok.ensures.ready.flows_fit in omega (arith, same, fit));
}

pub returns-in-Ok-take-clause-kept : goal.returns-in-Ok-take-clause-kept
returns-in-Ok-take-clause-kept g c = λ taken may.
    let plan = c.in-Ok.ensures.plan taken may.has in
    let next = come_next c.flows_of_acts_are_lawful.ensures c.args.tables.now.limits (event_seen c.args.event.now) c.plan_event.new.plan taken may.rise may.no_later plan (c.in-Ok.ensures.fits taken may.has) in
    let comes = subst (λ (l : List Flow). ComeNext (flows taken) l) (sym c.flows.ensures) next in
    subst (λ (l : List Flow). KeptStandsFor c.take.new.self.kept l) (ap (λ (l : List Flow). flows taken ++ l) c.flows.ensures ∙ sym plan.flows_are) (c.in-Ok-take.ensures.taken (flows taken) may.kept_are comes)

pub returns-in-Ok-take-clause-goes_on : goal.returns-in-Ok-take-clause-goes_on
returns-in-Ok-take-clause-goes_on g c =
    goes_with _ _ _ _ c.plan_event.new.plan _ c.flows.ensures c.requires.together c.in-Ok.ensures.flows c.in-Ok-take.ensures.objects c.in-Ok-take.ensures.count c.in-Ok-take.ensures.brings
