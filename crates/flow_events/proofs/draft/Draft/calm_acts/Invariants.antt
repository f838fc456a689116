use Rattle.std.proofs.Common.{◌≤◌, ◌+◌, ◌++◌, List, length, take}
use Rattle.acts.specs.declared.act.Taken.{Taken}
use Rattle.flow_events.specs.Added.{AreNew}
use Rattle.flow_events.specs.Births.{births_in}
use Rattle.flow_events.specs.Drafts.{IsNumbered, MayGoOn, UnderWay, turned}
use Rattle.flow_events.proofs.draft.Draft.calm_acts.Given as goal

-- the draft has the acts so far, and room for the others
abbrev pub invariant-loop-act : goal.invariant-loop-act
invariant-loop-act l = record {
  next : (before now : List Taken) → MayGoOn l.ground l.acting l.fn.self before now (length l.acts) → UnderWay l.ground l.acting l.self before (turned l.ground.ms l.ground.serial (take l.act-index l.acts) ++ now);
  new : AreNew l.ground.entities.now.keys l.fn.self.added.keys → AreNew l.ground.entities.now.keys l.self.added.keys;
  numbered : IsNumbered l.ground l.fn.self → IsNumbered l.ground l.self;
  fits : length (l.ground.entities.now.keys ++ l.self.added.keys) ≤ l.ground.most;
  more : length l.self.added.flows ≤ length l.fn.self.added.flows + l.act-index;
  room : l.fn.self.births.spare ≤ l.self.births.spare + births_in (take l.act-index l.acts);
}
