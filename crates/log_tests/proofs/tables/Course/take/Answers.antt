use Rattle.std.proofs.Common.{rules, ◌≡◌, ◌<◌, ◌+◌, ◌-◌, ◌^◌, ◌++◌, ◌∙◌, ap, subst, sym, length, reverse}
use Rattle.name_text.specs.Addresses.{text_of}
use Rattle.flow_base.specs.declared.limits.Limits.{Limits}
use Rattle.acts.specs.Admitted.{Admitted}
use Rattle.acts.specs.Flows.{acts_of}
use Rattle.call_acts.specs.Acts.{event_acts}
use Rattle.flow_events.specs.Drafts.{turned}
use Rattle.flow_events.specs.Following.{MayFollow, MayComeAfter}
use Rattle.flow_events.proofs.Drafting.{joined}
use Rattle.flow_events.proofs.Planning.{turned_acts}
use Rattle.log_tests.proofs.tables.Course.take.Goals as goal

-- an event may follow what was taken so far
pub prepare-requires : goal.prepare-requires
prepare-requires c =
    let kept = c.self.invariant in
    let event = c.args.event.now in
    let limits = c.self.inside.limits in
    let acts = event_acts limits.path event.records.now in
    let few : c.self.inside.tables.acts + (length acts + 2) < 2 ^ 63 - 1 = search rules in
    record { safe = kept.safe; few = subst (λ (l : Limits). c.self.inside.tables.acts + (length (event_acts l.path event.records.now) + 2) < 2 ^ 63 - 1) (sym kept.limited.limits_are) few }

pub invariant_of-self-2 : goal.invariant_of-self-2
invariant_of-self-2 c =
    let kept = c.self.invariant in
    let before = kept.before in
    let event = c.args.event.now in
    let limits = c.self.inside.limits in
    let acts = event_acts limits.path event.records.now in
    let now = turned event.ms event.key.serial acts in
    let few : length before + (length acts + 2) < 2 ^ 63 - 1 = search rules in
    let may : MayFollow c.self.inside.tables before (length acts) = record { stands = kept.stands; admitted = kept.admitted; few = few } in
    let come : MayComeAfter c.self.inside.tables event limits before = record { limited = kept.limited; follows = may } in
    let order : acts_of (now ++ before) ≡ reverse acts ++ acts_of before =
    joined now before ∙ ap (λ all. all ++ acts_of before) (turned_acts event.ms event.key.serial acts) in
    record {
      before = now ++ before;
      stands = c.apply.ensures.next text_of before now (c.prepare.ensures.same text_of before kept.stands) (c.in_ok-prepare.ensures.plan limits before come);
      admitted = subst Admitted (sym order) (c.event_acts_are_admitted.ensures limits.path event.records.now (acts_of before) kept.admitted);
      limited = c.apply.ensures.limits limits (c.prepare.ensures.limits limits kept.limited);
      safe = c.apply.ensures.safe;
    }
