use Rattle.std.proofs.Common.{◌-◌, ◌++◌, List, length, reverse, take}
use Rattle.acts.specs.declared.act.Act.{Act}
use Rattle.proc_table.specs.Table.{StandsFor as LivesAs}
use Rattle.flow_events.specs.Since.{ArePids, AreFiles, DiffersInNamed, HasRoom}
use Rattle.flow_events.proofs.since.Since.note_acts.Given as goal

-- the acts so far are remembered, and there is room for the others
abbrev pub invariant-loop-act : goal.invariant-loop-act
invariant-loop-act l = record {
  pids : (before now : List Act) → LivesAs l.procs (now ++ before) → ArePids l.fn.self before now → ArePids l.self before (reverse (take l.act-index l.acts) ++ now);
  files : (before now : List Act) → AreFiles l.fn.self before now → AreFiles l.self before (reverse (take l.act-index l.acts) ++ now);
  rest : DiffersInNamed l.fn.self l.self;
  room : HasRoom l.self (length l.acts - l.act-index);
}
