use Rattle.std.proofs.Common.{◌≡◌, ◌<◌, ◌^◌, ◌∷◌, ◌++◌, [], length, take, sym, ap, subst, ◌∙◌, arith}
use Rattle.std.proofs.lemmas.List.{take_more}
use Rattle.std.proofs.Math.Seq.{take-length}
use Rattle.reach_model.specs.Numbers.{known}
use Rattle.reach_model.specs.Rows.{firsts}
use Rattle.reach_rows.specs.Kept.{AreRows, IsRowAt, row_of_kept}
use Rattle.kept_flows.proofs.Recalled.{counted_more, recalled_at}
use Rattle.kept_flows.proofs.Those.{told, if_told}
use Rattle.kept_flows.specs.KeptFlows.{AreCounted, AreTold}
use Rattle.kept_flows.proofs.restoring.recall_all.Goals as goal

pub loop-index-preserved : goal.loop-index-preserved
loop-index-preserved g c =
    let i = c.loop-index.invariant in
    let at = c.loop-index.index in
    let row = c.in_ok-row.row in
    let r = row_of_kept row in
    let read = c.in_ok-row.ensures in
    let few : at < 2 ^ 63 = omega (arith, c.loop-index-test.true, c.count-index-end.ensures.count, c.requires.few) in
    let h = i.held in
    let less : length h.0 < 2 ^ 63 = let n = h.1.counted in omega (arith, few, n) in
    record {
      held = (
        h.0 ++ r ∷ [],
        counted_more h.0 at (g.W.Rows.known c.args.rows.now) r (omega (arith, read.ends.0, i.same.2), omega (arith, read.ends.1, i.same.2)) h.1,
        c.in_ok-recall.ensures.holds h.0 h.2 less,
      );
      stands = λ R e.
          let counted : length R ≡ c.count-index-end.result = told (λ R. length R ≡ g.W.Rows.count c.args.rows.now) _ c.count-index-end.ensures.told R e ∙ sym c.count-index-end.ensures.count in
          let within : at < length R = omega (arith, counted, c.loop-index-test.true) in
          let are = told AreRows _ c.count-index-end.ensures.lawful R e in
          let is = (told (λ R. IsRowAt R at row) _ read.exact R (i.same.0 ∙ e)).is r in
          subst (g.M.Reducer.stands_for c.recall.new.self) (ap (λ x. take at R ++ x ∷ []) (sym is) ∙ sym (take_more R at r within))
          (c.in_ok-recall.ensures.rows (take at R) (i.stands R e) (recalled_at R are at r within is few));
      holds = λ R e.
          let counted : length R ≡ c.count-index-end.result = told (λ R. length R ≡ g.W.Rows.count c.args.rows.now) _ c.count-index-end.ensures.told R e ∙ sym c.count-index-end.ensures.count in
          let within : at < length R = omega (arith, counted, c.loop-index-test.true) in
          let are = told AreRows _ c.count-index-end.ensures.lawful R e in
          let is = (told (λ R. IsRowAt R at row) _ read.exact R (i.same.0 ∙ e)).is r in
          subst (g.M.Reducer.holds c.recall.new.self) (ap (λ x. take at R ++ x ∷ []) (sym is) ∙ sym (take_more R at r within))
          (c.in_ok-recall.ensures.holds (take at R) (i.holds R e) (recalled_at R are at r within is few).few);
      same = (read.same.0 ∙ i.same.0, read.same.1 ∙ i.same.1, read.same.2 ∙ i.same.2);
      later = omega (arith, i.later, read.cause.later);
      stays = λ s. read.cause.stays (i.stays s);
      alike = g.met.W.Rows.goes_along.next c.args.rows.now c.loop-index.rows c.row.new.self i.alike read.alike;
    }

pub returns-clause-tied : goal.returns-clause-tied
returns-clause-tied g c =
    let i = c.loop-index.invariant in
    let rows = g.W.Rows.rows c.loop-index.rows in
    let h = i.held in
    let last : c.loop-index.index ≡ g.W.Rows.count c.args.rows.now = omega (arith, c.count-index-end.ensures.count, c.loop-index-test.false, c.loop-index.auto) in
    record {
      rows = h.0;
      counted = subst (λ n. AreCounted h.0 n (g.W.Rows.known c.loop-index.rows)) (last ∙ sym i.same.1) (subst (AreCounted h.0 c.loop-index.index) (sym i.same.2) h.1);
      held = h.2;
      theirs = if_told (λ R. AreTold rows (g.W.Rows.count c.loop-index.rows) (g.W.Rows.known c.loop-index.rows) R × g.M.Reducer.stands_for c.loop-index.reducer R × g.M.Reducer.holds c.loop-index.reducer R) rows (λ R e.
          let first = sym i.same.0 ∙ e in
          let counted = told (λ R. length R ≡ g.W.Rows.count c.args.rows.now) _ c.count-index-end.ensures.told R first in
          let objects = told (λ R. known (firsts R) ≡ g.W.Rows.known c.args.rows.now) _ c.known.ensures.told R first in
          let end : c.loop-index.index ≡ length R = omega (arith, counted, c.count-index-end.ensures.count, c.loop-index-test.false, c.loop-index.auto) in
          let whole : take c.loop-index.index R ≡ R = ap (λ n. take n R) end ∙ take-length R in (
            record { rows = e; counted = counted ∙ sym i.same.1; objects_known = objects ∙ sym i.same.2 },
            subst (g.M.Reducer.stands_for c.loop-index.reducer) whole (i.stands R first),
            subst (g.M.Reducer.holds c.loop-index.reducer) whole (i.holds R first),
          ));
    }
