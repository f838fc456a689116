use Rattle.std.proofs.Common.{ap, arith, length}
use Rattle.name_text.specs.Addresses.{text_of}
use Rattle.ingest.proofs.Following.{may_come_after}
use Rattle.ingest.proofs.event_flows.plan_event.Goals as goal

pub returns-in-Err-clause-full : goal.returns-in-Err-clause-full
returns-in-Err-clause-full c = λ full is taken has.
    c.in-Err.ensures.full full is _ taken
    (may_come_after _ taken c.args.event.now c.requires.limits has c.requires.few (c.acts_are_few.ensures _ _))

pub returns-in-Ok-clause-same : goal.returns-in-Ok-clause-same
returns-in-Ok-clause-same c = λ taken has. record { tables_are = c.prepare.ensures.same text_of taken has.tables_are; marked = c.prepare.ensures.marks text_of taken has.marked; admitted = has.admitted }

pub returns-in-Err-clause-same : goal.returns-in-Err-clause-same
returns-in-Err-clause-same c = λ taken has. record { tables_are = c.prepare.ensures.same text_of taken has.tables_are; marked = c.prepare.ensures.marks text_of taken has.marked; admitted = has.admitted }

pub returns-in-Ok-clause-plan : goal.returns-in-Ok-clause-plan
returns-in-Ok-clause-plan c = λ taken has.
    c.in-Ok.ensures.plan _ taken
    (may_come_after _ taken c.args.event.now c.requires.limits has c.requires.few (c.acts_are_few.ensures _ _))

pub returns-in-Ok-clause-fits : goal.returns-in-Ok-clause-fits
returns-in-Ok-clause-fits c = λ taken has.
    c.in-Ok.ensures.fits _ taken
    (may_come_after _ taken c.args.event.now c.requires.limits has c.requires.few (c.acts_are_few.ensures _ _))

pub returns-in-Ok-clause-limits : goal.returns-in-Ok-clause-limits
returns-in-Ok-clause-limits c = c.prepare.ensures.limits _ c.requires.limits

pub returns-in-Err-clause-limits : goal.returns-in-Err-clause-limits
returns-in-Err-clause-limits c = c.prepare.ensures.limits _ c.requires.limits

pub returns-in-Ok-clause-acts : goal.returns-in-Ok-clause-acts
returns-in-Ok-clause-acts c = omega (arith, ap length c.in-Ok.ensures.acts, c.acts_are_few.ensures c.args.tables.now.limits.path c.args.event.now.records.now)

pub prepare-requires : goal.prepare-requires
prepare-requires c = record {
  safe = c.requires.safe;
  few = omega (arith, c.requires.few, c.acts_are_few.ensures c.args.tables.now.limits.path c.args.event.now.records.now);
}
