use Rattle.std.proofs.Common.{◌≢◌, Result, Ok, Err, [], ◌∷◌, ◌++◌, refl, sym, ap, subst, ◌∙◌}
use Rattle.std.specs.Result.{OnErr}
use Rattle.reach_model.specs.Flows.{source, target}
use Rattle.reach_model.specs.Rows.{firsts}
use Rattle.reach_model.specs.SourceSets.{IsLater}
use Rattle.reach_rows.specs.Kept.{row_of_kept}
use Rattle.reduce_source.specs.Sets.{StandsFor as HasSets}
use Rattle.reduce_source.specs.declared.sources.Sources.{Sources}
use Rattle.reduce_source.proofs.Adding.{stands_push, holds_push}
use Rattle.reduce_source.proofs.sources.SourcesReducer.recall.Goals as goal

pub returns-clause-rows : goal.returns-clause-rows
returns-clause-rows c = λ R s n.
    let r = row_of_kept c.args.row.now in
    let e = c.first_flow-flow.ensures in
    let middle : Sources = record { sets = c.reserve.new.self } in
    let new : Sources = record { sets = c.union.new.self } in
    let sets = c.reserve.ensures.same (firsts R) s.sets in
    stands_push middle new R r (record { sets = sets; reached = s.reached }) n.after n.differ
    (λ later. subst (λ g. HasSets c.union.new.self (firsts R ++ g ∷ [])) e
    (c.union.ensures.next (firsts R) c.first_flow-flow.result (refl, refl) (subst (λ g. source g ≢ target g) (sym e) n.differ) (subst (IsLater (firsts R)) (sym e) later) sets))

pub returns-clause-holds : goal.returns-clause-holds
returns-clause-holds c = λ R h few.
    let r = row_of_kept c.args.row.now in
    let e = c.first_flow-flow.ensures in
    let middle : Sources = record { sets = c.reserve.new.self } in
    let new : Sources = record { sets = c.union.new.self } in
    holds_push middle new R r (source c.first_flow-flow.result) (target c.first_flow-flow.result) (λ x n. h x (λ o. n (c.reserve.ensures.standings x ∙ o)))
    (ap source (sym e)) (ap target (sym e)) c.union.ensures.others

pub returns-in_err-reserve-clause-stands_err : goal.returns-in_err-reserve-clause-stands_err
returns-in_err-reserve-clause-stands_err c = on_err c.from_residual.result (λ R s. record { sets = c.reserve.ensures.same (firsts R) s.sets; reached = s.reached })
  where
    on_err : {T E P : Type 0} (r : Result T E) → P → OnErr r P
    on_err (Ok x) p = tt
    on_err (Err e) p = p
