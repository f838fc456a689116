use Rattle.std.proofs.Common.{take}
use Rattle.flow_events.specs.Since.{AddsHeld, HasThose, any_touches}
use Rattle.flow_events.proofs.slots.Slots.note_acts.Given as goal

-- what the acts so far touch is noted
abbrev pub invariant-loop-act : goal.invariant-loop-act
invariant-loop-act l = record {
  adds : AddsHeld l.fds l.fn.self l.self;
  noted : HasThose l.fds l.self (any_touches (take l.act-index l.acts));
}
