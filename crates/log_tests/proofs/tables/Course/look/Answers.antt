use Rattle.std.proofs.Common.{rules, ◌<◌, ◌+◌, ◌-◌, ◌^◌, subst, sym, length}
use Rattle.name_text.specs.Addresses.{text_of}
use Rattle.call_acts.specs.Acts.{event_acts}
use Rattle.flow_base.specs.declared.limits.Limits.{Limits}
use Rattle.log_tests.proofs.tables.Course.look.Goals as goal

-- an event may follow what was taken so far
pub prepare-requires : goal.prepare-requires
prepare-requires c =
    let kept = c.self.invariant in
    let event = c.args.event.now in
    let limits = c.self.inside.limits in
    let acts = event_acts limits.path event.records.now in
    let few : c.self.inside.tables.acts + (length acts + 2) < 2 ^ 63 - 1 = search rules in
    record { safe = kept.safe; few = subst (λ (l : Limits). c.self.inside.tables.acts + (length (event_acts l.path event.records.now) + 2) < 2 ^ 63 - 1) (sym kept.limited.limits_are) few }

-- the tables stand for the same as before
pub invariant_of-self-in_err-flows : goal.invariant_of-self-in_err-flows
invariant_of-self-in_err-flows c =
    let kept = c.self.invariant in
    record {
      before = kept.before;
      stands = c.prepare.ensures.same text_of kept.before kept.stands;
      admitted = kept.admitted;
      limited = c.prepare.ensures.limits c.self.inside.limits kept.limited;
      safe = c.prepare.ensures.safe;
    }

pub invariant_of-self-2 : goal.invariant_of-self-2
invariant_of-self-2 c =
    let kept = c.self.invariant in
    record {
      before = kept.before;
      stands = c.prepare.ensures.same text_of kept.before kept.stands;
      admitted = kept.admitted;
      limited = c.prepare.ensures.limits c.self.inside.limits kept.limited;
      safe = c.prepare.ensures.safe;
    }
