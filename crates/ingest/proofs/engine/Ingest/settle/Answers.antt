use Rattle.std.proofs.Common.{◌++◌, ◌∷◌, [], inl, inr}
use Rattle.audit_lex.specs.History.{Settle}
use Rattle.ingest.proofs.Answered.{on_ok_so, if_err_so, if_err, one_why}
use Rattle.ingest.proofs.FewActs.{bounded_of, few_stays}
use Rattle.ingest.proofs.EngineSteps.{engine_own, owes_own, ends_own, at_rest, all_released, still_owes, owed_some, tail_own, closed_owes, never_full, settle_full, Releases, OwesSome}
use Rattle.ingest.proofs.engine.Ingest.settle.Goals as goal

pub returns-in-Err-clause-full : goal.returns-in-Err-clause-full
returns-in-Err-clause-full g c = λ full is limits h stands.
    let owes = owes_own limits _ _ h c.self.view_is (at_rest limits _ h stands) in
    absurd (never_full limits _ h c.in-Err.why full (one_why _ _ is) stands.fits (still_owes limits _ _ _ h c.in-Err.why owes (c.in-Err.ensures.owed limits)))

pub returns-in-Err-clause-halts : goal.returns-in-Err-clause-halts
returns-in-Err-clause-halts g c = λ limits h w.
    inl (
      inl (owed_some limits _ _ _ h c.in-Err.why w c.self.view_is (c.in-Err.ensures.owed limits)),
      still_owes limits _ _ _ h c.in-Err.why (owes_own limits _ _ h c.self.view_is w) (c.in-Err.ensures.owed limits),
    )

pub returns-in-Err-end_last-clause-halts : goal.returns-in-Err-end_last-clause-halts
returns-in-Err-end_last-clause-halts g c = λ limits h w.
    let released = all_released limits _ _ _ h (owes_own limits _ _ h c.self.view_is w) (c.in-Ok.ensures.ok limits) in
    inl (
      inr (tail_own _ _ c.self.view_is c.in-Err-end_last.ensures.begun),
      record { stands = at_rest limits _ h (engine_own limits _ _ h c.in-Err-end_last.ensures.err released); by = tt },
    )

pub returns-clause-ok : goal.returns-clause-ok
returns-clause-ok g c =
    on_ok_so c.release-2.result (Releases c.close.new.self c.release-2.new.self) _ (λ releases limits h stands.
    let released = all_released limits _ _ _ h (owes_own limits _ _ h c.self.view_is (at_rest limits _ h stands)) (c.in-Ok.ensures.ok limits) in
    let last = ends_own limits _ _ h c.self-2.view_is (c.in-Ok-end_last.ensures.ok limits h released) in
    all_released limits _ _ _ (h ++ Settle ∷ []) (closed_owes limits _ _ _ h released.fits.input last (c.close.ensures.closed limits)) (releases limits))
    c.release-2.ensures.ok

pub returns-clause-again : goal.returns-clause-again
returns-clause-again g c =
    on_ok_so c.release-2.result (Releases c.close.new.self c.release-2.new.self) _ (λ releases limits h w.
    let released = all_released limits _ _ _ h (owes_own limits _ _ h c.self.view_is w) (c.in-Ok.ensures.ok limits) in
    let last = ends_own limits _ _ h c.self-2.view_is (c.in-Ok-end_last.ensures.ok limits h released) in
    all_released limits _ _ _ (h ++ Settle ∷ []) (closed_owes limits _ _ _ h released.fits.input last (c.close.ensures.closed limits)) (releases limits))
    c.release-2.ensures.ok

pub returns-clause-full : goal.returns-clause-full
returns-clause-full g c = λ full is limits h stands.
    let released = all_released limits _ _ _ h (owes_own limits _ _ h c.self.view_is (at_rest limits _ h stands)) (c.in-Ok.ensures.ok limits) in
    let last = ends_own limits _ _ h c.self-2.view_is (c.in-Ok-end_last.ensures.ok limits h released) in
    let owes = closed_owes limits _ _ _ h released.fits.input last (c.close.ensures.closed limits) in
    let owed = if_err c.release-2.result _ (OwesSome c.close.new.self c.release-2.new.self) is c.release-2.ensures.owed in
    settle_full limits _ h full released.fits (still_owes limits _ _ c.release-2.new.self (h ++ Settle ∷ []) _ owes (owed limits))

pub returns-clause-halts : goal.returns-clause-halts
returns-clause-halts g c =
    if_err_so c.release-2.result (OwesSome c.close.new.self c.release-2.new.self) _ (λ cause owed limits h w.
    let released = all_released limits _ _ _ h (owes_own limits _ _ h c.self.view_is w) (c.in-Ok.ensures.ok limits) in
    let last = ends_own limits _ _ h c.self-2.view_is (c.in-Ok-end_last.ensures.ok limits h released) in
    let owes = closed_owes limits _ _ _ h released.fits.input last (c.close.ensures.closed limits) in
    inr (released.fits, still_owes limits _ _ _ (h ++ Settle ∷ []) cause owes (owed limits)))
    c.release-2.ensures.owed

pub release-requires-2 : goal.release-requires-2
release-requires-2 g c = record { few = bounded_of _ _ (few_stays _ _ _ c.self-2.invariant c.close.ensures.few) }

pub invariant_of-self : goal.invariant_of-self
invariant_of-self g c = few_stays _ _ _ c.self.invariant c.release.ensures.few

pub invariant_of-self-2 : goal.invariant_of-self-2
invariant_of-self-2 g c = few_stays _ _ _ c.self.invariant c.release.ensures.few

pub invariant_of-self-3 : goal.invariant_of-self-3
invariant_of-self-3 g c = few_stays _ _ _ (few_stays _ _ _ c.self-2.invariant c.close.ensures.few) c.release-2.ensures.few
