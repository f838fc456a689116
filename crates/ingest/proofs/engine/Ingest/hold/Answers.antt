use Rattle.ingest.proofs.FewActs.{few_either}
use Rattle.ingest.proofs.EngineSteps.{engine_own, room_so, part_held}
use Rattle.ingest.proofs.engine.Ingest.hold.Goals as goal
use Rattle.ingest.proofs.engine.Ingest.hold.Goals.{in-Ok, in-Err}

pub returns-clause-ok : goal.returns-clause-ok
returns-clause-ok g c =
    elim c.match-hold.branch [
      | in-Ok w ↦ rw w.result-is (λ limits h stands.
          let own = engine_own limits _ _ h c.self.view_is stands in
          part_held limits _ h c.args.part.now c.requires.no_feed (room_so limits _ h _ stands.reader c.requires.room) (w.in-Ok.ensures.stands limits h own.reader) own.joined)
      | in-Err w ↦ rw w.result-is tt
    ]

pub invariant_of-self : goal.invariant_of-self
invariant_of-self g c = few_either c.hold.result _ _ _ c.self.invariant c.hold.ensures.lines c.hold.ensures.err
