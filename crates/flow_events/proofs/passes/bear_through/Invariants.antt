use Rattle.std.proofs.Common.{◌≤◌, ◌<◌, ◌+◌, ◌-◌, ◌^◌, ◌++◌, List, length, reverse, take}
use Rattle.acts.specs.declared.act.Act.{Act}
use Rattle.flow_events.specs.Births.{BornAs}
use Rattle.flow_events.proofs.passes.bear_through.Given as goal

-- the table has the acts so far, and room for the others
abbrev pub invariant-loop-act : goal.invariant-loop-act
invariant-loop-act l = record {
  next : (before : List Act) → length before + length l.acts < 2 ^ 64 - 1 → BornAs l.fn.births before → BornAs l.births (reverse (take l.act-index l.acts) ++ before);
  room : length l.acts ≤ l.births.spare + l.act-index;
}
