use Rattle.std.proofs.Common.{take}
use Rattle.flow_events.specs.Since.{AddsHeld}
use Rattle.flow_events.proofs.Noting.{HasListed}
use Rattle.flow_events.proofs.slots.Slots.note_marked.Given as goal

-- those so far are noted
abbrev pub invariant-loop-fd : goal.invariant-loop-fd
invariant-loop-fd l = record {
  adds : AddsHeld l.fds l.fn.self l.self;
  listed : HasListed l.fds l.self l.pid (take l.fd-index l.fd-items);
}
