use Rattle.std.proofs.Common.{◌≡◌, ◌++◌, ◌∙◌, ap, sym, subst, length, Some, None}
use Rattle.name_text.specs.Addresses.{text_of}
use Rattle.flow_base.specs.declared.limits.Limits.{Limits}
use Rattle.acts.specs.LookBack.{full_at}
use Rattle.call_acts.specs.Acts.{event_acts}
use Rattle.flow_events.specs.Drafts.{turned}
use Rattle.flow_events.specs.Following.{MayFollow}
use Rattle.flow_events.specs.Standing.{IsPlanOf}
use Rattle.flow_events.proofs.Resting.{on_ok}
use Rattle.flow_events.proofs.tables.Tables.prepare.Goals as goal

pub returns-clause-plan : goal.returns-clause-plan
returns-clause-plan c = on_ok c.prepare_acts.result (λ is limits before may.
    let event = c.args.event.now in
    let same = c.in_ok-acts.ensures ∙ ap (λ (l : Limits). event_acts l.path event.records.now) may.limited.limits_are in
    subst (λ acts. IsPlanOf text_of c.prepare_acts.new.plan before (turned event.ms event.key.serial acts)) same
    (is before (subst (λ acts. MayFollow c.args.self.now before (length acts)) (sym same) may.follows))) c.prepare_acts.ensures.plan

pub returns-clause-fits : goal.returns-clause-fits
returns-clause-fits c = on_ok c.prepare_acts.result (λ is limits before may.
    let event = c.args.event.now in
    let same = c.in_ok-acts.ensures ∙ ap (λ (l : Limits). event_acts l.path event.records.now) may.limited.limits_are in
    subst (λ acts. full_at limits.entities limits.flows (turned event.ms event.key.serial acts ++ before) ≡ None) same
    (is limits may.limited before (subst (λ acts. MayFollow c.args.self.now before (length acts)) (sym same) may.follows))) c.prepare_acts.ensures.fits

pub returns-clause-full : goal.returns-clause-full
returns-clause-full c = λ full is limits before may.
    let event = c.args.event.now in
    let same = c.in_ok-acts.ensures ∙ ap (λ (l : Limits). event_acts l.path event.records.now) may.limited.limits_are in
    subst (λ acts. full_at limits.entities limits.flows (turned event.ms event.key.serial acts ++ before) ≡ Some full) same
    (c.prepare_acts.ensures.full full is limits may.limited before (subst (λ acts. MayFollow c.args.self.now before (length acts)) (sym same) may.follows))
