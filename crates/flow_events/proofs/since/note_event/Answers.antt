use Rattle.std.proofs.Common.{subst, Option}
use Rattle.flow_events.specs.Since.{Memory, Remembers, HasTouched}
use Rattle.flow_events.proofs.SinceLaws.{event_noted}
use Rattle.flow_events.proofs.since.note_event.Goals as goal

pub returns-in-Some : goal.returns-in-Some
returns-in-Some c = λ before now fresh lives held addresses is plan has. event_noted c.in-Some.since c.note_acts.new.self c.note_address.new.self c.args.procs.now c.args.fds.now c.args.acts.now
    before now fresh c.args.address.now lives held addresses is plan c.note_acts.ensures.pids c.note_acts.ensures.files c.note_acts.ensures.rest
    c.note_address.ensures.sockets c.note_address.ensures.rest (subst (λ (o : Option Memory). HasTouched o c.args.fds.now c.args.acts.now) c.in-Some.is c.requires.touched) (subst (λ (o : Option Memory). Remembers o before now) c.in-Some.is has)
