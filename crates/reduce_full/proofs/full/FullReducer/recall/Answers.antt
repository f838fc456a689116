use Rattle.std.proofs.Common.{[], ◌∷◌, ◌++◌, refl, subst}
use Rattle.reach_model.specs.Rows.{firsts}
use Rattle.reach_rows.specs.Kept.{row_of_kept}
use Rattle.version_graph.specs.Tables.{StandsFor as HasVersions}
use Rattle.reduce_full.proofs.Adding.{ascends_push, ends_push, holds_push, firsts_few}
use Rattle.reduce_full.proofs.full.FullReducer.recall.Goals as goal

pub returns-clause-rows : goal.returns-clause-rows
returns-clause-rows c = λ R s n.
    let r = row_of_kept c.args.row.now in
    let kept = c.keep.ensures.next (firsts R) (c.reserve.ensures.same (firsts R) (s.held).versions) (firsts_few R n.few) in
    record {
      held = holds_push (record { versions = c.keep.new.self }) R r (s.held).pairs (refl, refl)
          (subst (λ g. HasVersions c.keep.new.self (firsts R ++ g ∷ [])) c.first_flow-flow.ensures kept);
      ascends = ascends_push R r s.ascends n.after;
      ends = ends_push R r s.ends n.differ;
    }

pub returns-clause-holds : goal.returns-clause-holds
returns-clause-holds c = λ R h few.
    let r = row_of_kept c.args.row.now in
    let kept = c.keep.ensures.next (firsts R) (c.reserve.ensures.same (firsts R) h.versions) (firsts_few R few) in
    holds_push (record { versions = c.keep.new.self }) R r h.pairs (refl, refl)
    (subst (λ g. HasVersions c.keep.new.self (firsts R ++ g ∷ [])) c.first_flow-flow.ensures kept)
