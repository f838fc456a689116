use Rattle.std.proofs.Common.{◌≡◌, ◌≤◌, take}
use Rattle.flow_events.specs.Births.{births_in}
use Rattle.flow_events.proofs.births.births_in.Given as goal

-- the births among the acts so far
abbrev pub invariant-loop-act : goal.invariant-loop-act
invariant-loop-act l = record {
  births : l.births ≡ births_in (take l.act-index l.acts);
  few : l.births ≤ l.act-index;
}
