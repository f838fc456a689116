use Rattle.std.proofs.Common.{◌++◌, ◌∷◌, []}
use Rattle.audit_lex.specs.History.{with_bytes}
use Rattle.ingest.proofs.EngineSteps.{engine_own, owes_own, room_so, at_rest, all_released, still_owes}
use Rattle.ingest.proofs.FewActs.{few_stays}
use Rattle.ingest.proofs.StopLemmas.{stop_ended, halts_ended, halts_memory}
use Rattle.ingest.proofs.engine.Ingest.end_line.Goals as goal
use Rattle.ingest.proofs.engine.Ingest.end_line.Goals.{in-Ok-release, in-Err-release}

pub returns-in-Err-clause-halts : goal.returns-in-Err-clause-halts
returns-in-Err-clause-halts g c = λ limits h stands.
    halts_memory limits _ h (c.args.part.now ++ 10 ∷ []) (at_rest limits _ h (engine_own limits _ _ h c.in-Err.ensures.err stands))

pub returns-clause-ok : goal.returns-clause-ok
returns-clause-ok g c =
    elim c.match-release.branch [
      | in-Ok-release w ↦ rw w.result-is (λ limits h stands.
          let owes = owes_own limits _ _ _ c.self.view_is (c.in-Ok.ensures.ok limits h stands) in
          all_released limits _ _ _ (with_bytes h (c.args.part.now ++ 10 ∷ [])) owes (w.in-Ok-release.ensures.ok limits))
      | in-Err-release w ↦ rw w.result-is tt
    ]

pub returns-clause-stop : goal.returns-clause-stop
returns-clause-stop g c =
    elim c.match-release.branch [
      | in-Ok-release w ↦ rw w.result-is tt
      | in-Err-release w ↦ rw w.result-is (λ limits h stands.
          let owes = owes_own limits _ _ _ c.self.view_is (c.in-Ok.ensures.ok limits h stands) in
          let owed = still_owes limits _ _ _ (with_bytes h (c.args.part.now ++ 10 ∷ [])) w.in-Err-release.why owes (w.in-Err-release.ensures.owed limits) in
          stop_ended limits _ h c.args.part.now w.in-Err-release.why stands.fits (room_so limits _ h _ stands.reader c.requires.room) c.requires.no_feed owed)
    ]

pub returns-clause-halts : goal.returns-clause-halts
returns-clause-halts g c =
    elim c.match-release.branch [
      | in-Ok-release w ↦ rw w.result-is tt
      | in-Err-release w ↦ rw w.result-is (λ limits h stands.
          let owes = owes_own limits _ _ _ c.self.view_is (c.in-Ok.ensures.ok limits h stands) in
          halts_ended limits _ h c.args.part.now w.in-Err-release.why
          (still_owes limits _ _ _ (with_bytes h (c.args.part.now ++ 10 ∷ [])) w.in-Err-release.why owes (w.in-Err-release.ensures.owed limits)))
    ]

pub invariant_of-self : goal.invariant_of-self
invariant_of-self g c = few_stays _ _ _ c.self.invariant c.release.ensures.few
