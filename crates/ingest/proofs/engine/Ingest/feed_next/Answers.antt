use Rattle.ingest.proofs.Answered.{on_ok_so, if_err_so, by_err}
use Rattle.ingest.proofs.EngineSteps.{owes_own, at_rest, all_released, still_owes, engine_of, Takes, StopsIn, HaltsIn}
use Rattle.ingest.proofs.FewActs.{few_stays}
use Rattle.ingest.proofs.StopLemmas.{stop_before, halts_before}
use Rattle.ingest.proofs.engine.Ingest.feed_next.Goals as goal

pub returns-in-Ok-clause-ok : goal.returns-in-Ok-clause-ok
returns-in-Ok-clause-ok g c =
    on_ok_so c.feed_bounded.result (Takes (engine_of c.self.inside.reader c.release.new.self c.self.inside.part) c.feed_bounded.new.self c.args.piece.now) _ (λ takes limits h stands.
    takes limits h (all_released limits _ _ _ h (owes_own limits _ _ h c.self.view_is (at_rest limits _ h stands)) (c.in-Ok.ensures.ok limits)))
    c.feed_bounded.ensures.ok

pub returns-in-Ok-clause-again : goal.returns-in-Ok-clause-again
returns-in-Ok-clause-again g c =
    on_ok_so c.feed_bounded.result (Takes (engine_of c.self.inside.reader c.release.new.self c.self.inside.part) c.feed_bounded.new.self c.args.piece.now) _ (λ takes limits h w.
    takes limits h (all_released limits _ _ _ h (owes_own limits _ _ h c.self.view_is w) (c.in-Ok.ensures.ok limits)))
    c.feed_bounded.ensures.ok

pub returns-in-Ok-clause-stop : goal.returns-in-Ok-clause-stop
returns-in-Ok-clause-stop g c =
    if_err_so c.feed_bounded.result (StopsIn (engine_of c.self.inside.reader c.release.new.self c.self.inside.part) c.args.piece.now) _ (λ stop stops limits h stands.
    stops limits h (all_released limits _ _ _ h (owes_own limits _ _ h c.self.view_is (at_rest limits _ h stands)) (c.in-Ok.ensures.ok limits)))
    c.feed_bounded.ensures.stop

pub returns-in-Ok-clause-halts : goal.returns-in-Ok-clause-halts
returns-in-Ok-clause-halts g c =
    if_err_so c.feed_bounded.result (HaltsIn (engine_of c.self.inside.reader c.release.new.self c.self.inside.part) c.feed_bounded.new.self c.args.piece.now) _ (λ stop halts limits h w.
    halts limits h (all_released limits _ _ _ h (owes_own limits _ _ h c.self.view_is w) (c.in-Ok.ensures.ok limits)))
    c.feed_bounded.ensures.halts

pub returns-in-Ok-clause-owed_first : goal.returns-in-Ok-clause-owed_first
returns-in-Ok-clause-owed_first g c =
    by_err c.feed_bounded.result _ (λ stop limits h w some.
    (all_released limits _ _ _ h (owes_own limits _ _ h c.self.view_is w) (c.in-Ok.ensures.ok limits)).fits)

pub returns-in-Err-clause-stop : goal.returns-in-Err-clause-stop
returns-in-Err-clause-stop g c = λ limits h stands.
    let owes = owes_own limits _ _ h c.self.view_is (at_rest limits _ h stands) in
    stop_before limits _ h c.args.piece.now c.in-Err.why stands.fits (still_owes limits _ _ _ h c.in-Err.why owes (c.in-Err.ensures.owed limits))

pub returns-in-Err-clause-halts : goal.returns-in-Err-clause-halts
returns-in-Err-clause-halts g c = λ limits h w.
    let owes = owes_own limits _ _ h c.self.view_is w in
    halts_before limits _ h c.args.piece.now c.in-Err.why (still_owes limits _ _ _ h c.in-Err.why owes (c.in-Err.ensures.owed limits))

pub invariant_of-self : goal.invariant_of-self
invariant_of-self g c = few_stays _ _ _ c.self.invariant c.release.ensures.few

pub invariant_of-self-in-Err : goal.invariant_of-self-in-Err
invariant_of-self-in-Err g c = few_stays _ _ _ c.self.invariant c.release.ensures.few
