use Rattle.std.proofs.Common.{◌++◌, ◌∙◌, ap, sym, subst, length, arith}
use Rattle.std.proofs.lemmas.Result.{err_from_is_err_and}
use Rattle.acts.specs.Flows.{acts_of, objects}
use Rattle.flow_events.specs.Added.{IsPast}
use Rattle.flow_events.proofs.Drafting.{joined}
use Rattle.flow_events.proofs.Past.{error_or}
use Rattle.flow_base.specs.declared.faults.Refused.TheVariants as fault
use Rattle.name_text.specs.Addresses.{text_of}
use Rattle.flow_events.specs.Drafts.{turned}
use Rattle.flow_events.specs.Standing.{IsPlanOf}
use Rattle.call_acts.specs.Events.{IsEvent}
use Rattle.reach_rows.specs.Kept.{GoOn, known_after}
use Rattle.flow_events.specs.Added.{StandFrom}
use Rattle.flow_events.specs.Entering.{entered}
use Rattle.flow_events.proofs.Planning.{planned}
use Rattle.flow_events.proofs.Safety.{few_lives}
use Rattle.flow_events.proofs.tables.Tables.plan.Goals as goal

pub work_event-requires : goal.work_event-requires
work_event-requires c =
    let few = c.requires.few in
    let flows = c.requires.safe.flows_few in
    let slice = ap length c.as_slice.ensures in
    record {
      few = omega (arith, few, slice);
      limit = c.requires.safe.limit_is;
      fits = rw c.requires.safe.limit_is c.requires.safe.objects_fit;
      event = subst IsEvent (sym c.as_slice.ensures) c.requires.event;
      flows = omega (arith, few, flows, slice);
      fresh = c.clear.ensures;
    }

pub returns-clause-plan : goal.returns-clause-plan
returns-clause-plan c = λ before may.
    let stands = may.stands in
    let slice = c.as_slice.ensures in
    let plan = c.turn.new.self in
    let is = c.in_ok-turn.ensures.ok in
    let work = c.in_ok-work_event.ensures in
    subst (λ acts. IsPlanOf text_of plan before (turned c.args.ms c.args.serial acts)) slice
    (planned _ c.work_event.new.worked plan before c.as_slice.result.now
    (work.worked before (record {
      grounded = record {
        lives_are = stands.lives_are;
        held_are = stands.held_are;
        addresses_are = stands.addresses_are;
        births_are = stands.births_are;
        objects_are = stands.objects_are;
        names_are = stands.names_are;
        flows_are = stands.flows_are;
        admitted = may.admitted;
        few = (let few = may.few in omega (arith, few));
        lives_few = few_lives c.args.self.now.procs before (length c.args.plan.now.acts) c.each_beginning_is_an_act.ensures stands.lives_are may.few;
      };
      acts_are = stands.acts_are;
      few = (let few = may.few in let same = ap length slice in omega (arith, few, same));
    }))
    work.new stands.objects_are (c.turn.ensures.acts ∙ sym slice) is.see is.last is.address is.given is.keys is.flows)

pub returns-clause-more : goal.returns-clause-more
returns-clause-more c =
    let fewer = c.in_ok-work_event.ensures.more in
    let slice = ap length c.as_slice.ensures in
    let same = ap length c.in_ok-turn.ensures.ok.flows in
    omega (arith, fewer, slice, same)

pub returns-clause-flows : goal.returns-clause-flows
returns-clause-flows c =
    let is = c.in_ok-turn.ensures.ok in
    let work = c.in_ok-work_event.ensures in
    let known = c.args.self.now.entities.keys in
    record {
      go_on = subst (GoOn (length known)) (sym is.flows) work.numbered.go_on;
      known_are = ap (known_after (length known)) is.flows ∙ work.numbered.known_are ∙ ap length (sym (ap (entered known) is.keys ∙ work.new.enter));
      stand = subst (StandFrom c.args.ms c.args.self.now.flows) (sym is.flows) work.numbered.stand;
    }

pub returns-in_err-work_event-clause-full : goal.returns-in_err-work_event-clause-full
returns-in_err-work_event-clause-full c =
    let p = err_from_is_err_and c.from_residual.result c.from_residual.ensures.1 in
    rw (p.1, p.2) (λ full is before may.
    let stands = may.stands in
    let slice = c.as_slice.ensures in
    let now = turned c.args.ms c.args.serial c.as_slice.result.now in
    subst (λ acts. IsPast c.args.self.now.limits.entities full (objects (acts_of (turned c.args.ms c.args.serial acts ++ before)))) slice
    (subst (λ all. IsPast c.args.self.now.limits.entities full (objects all)) (sym (joined now before))
    ((c.in_err-work_event.ensures.full full (ap (error_or (fault.Full full)) is) before (record {
      grounded = record {
        lives_are = stands.lives_are;
        held_are = stands.held_are;
        addresses_are = stands.addresses_are;
        births_are = stands.births_are;
        objects_are = stands.objects_are;
        names_are = stands.names_are;
        flows_are = stands.flows_are;
        admitted = may.admitted;
        few = (let few = may.few in omega (arith, few));
        lives_few = few_lives c.args.self.now.procs before (length c.args.plan.now.acts) c.each_beginning_is_an_act.ensures stands.lives_are may.few;
      };
      acts_are = stands.acts_are;
      few = (let few = may.few in let same = ap length slice in omega (arith, few, same));
    })).past)))
