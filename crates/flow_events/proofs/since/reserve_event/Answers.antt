use Rattle.std.proofs.Common.{subst, Option}
use Rattle.flow_events.specs.Since.{Memory, Remembers}
use Rattle.flow_events.proofs.SinceLaws.{since_reserved}
use Rattle.flow_events.proofs.since.reserve_event.Goals as goal

pub returns-in_ok-note_slots-in-Some-clause-same : goal.returns-in_ok-note_slots-in-Some-clause-same
returns-in_ok-note_slots-in-Some-clause-same c = λ before now held has.
    since_reserved c.args.fds.now c.in-Some.since c.note_slots.new.self c.reserve.new.self before now c.note_slots.ensures.adds c.note_slots.ensures.stay c.note_slots.ensures.rest c.reserve.ensures.same held
    (subst (λ (o : Option Memory). Remembers o before now) c.in-Some.is has)
