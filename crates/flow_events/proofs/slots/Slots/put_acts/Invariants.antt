use Rattle.std.proofs.Common.{take}
use Rattle.flow_events.specs.Since.{HasEach, StillHas, any_may_put}
use Rattle.flow_events.proofs.slots.Slots.put_acts.Given as goal

-- where the acts so far may put something is noted
abbrev pub invariant-loop-act : goal.invariant-loop-act
invariant-loop-act l = record {
  stay : StillHas l.fn.self l.self;
  noted : HasEach l.self (any_may_put (take l.act-index l.acts));
}
