use Rattle.std.proofs.Common.{◌≡◌, ◌+◌, ◌<◌, ◌≤◌, ◌↔◌, ◌⊎◌, length, get_or, take, sym, ap, subst, ◌∙◌, refl, arith, inl, inr}
use Rattle.std.specs.List.{Contains, count_by}
use Rattle.std.specs.Option.{IfSome}
use Rattle.std.proofs.lemmas.List.{length-map, get_or-map, take_all}
use Rattle.flow_base.specs.declared.types.Flow.{Flow}
use Rattle.reach_model.specs.Flows.{source}
use Rattle.reach_model.specs.Rows.{Row, firsts, lasts}
use Rattle.reach_rows.specs.Kept.{AreRows, IsLastOf, IsRowAt, Leaves, row_of_kept}
use Rattle.query_walk.specs.Links.{link_below, leaves}
use Rattle.query_walk.specs.Arrivals.{Arrival, IsDue, LeadsOn, at_object, place_after}
use Rattle.query_walk.proofs.Told.{told, if_told}
use Rattle.query_walk.proofs.Counts.{no_flow}
use Rattle.query_walk.proofs.LinkLemmas.{link_right, link_is_below, below_weaker, leaves_yes, leaves_no}
use Rattle.query_walk.proofs.Leaving.{IsLeftAt, left_none, left_source, left_more, left_all, left_count}
use Rattle.query_walk.proofs.way_fore.leave.Goals as goal

pub loop-link-init : goal.loop-link-init
loop-link-init g c =
    let marks = c.args.marks.now in
    let x = c.args.of.0 in
    let low = place_after c.args.after in
    let rows = g.W.Rows.rows c.args.rows.now in
    let link = c.link_below-link.result in
    let is : link ≡ link_below c.last_from.result c.count.result = c.link_below-link.ensures in
    record {
      inside = subst (λ o. IfSome o (λ i. i < g.W.Rows.count c.args.rows.now)) (sym is) (subst (λ n. IfSome (link_below c.last_from.result c.count.result) (λ i. i < n)) c.count.ensures.count (link_is_below c.last_from.result c.count.result));
      lawful = λ R e. told AreRows rows c.count.ensures.lawful R e;
      counted = λ R e. told (λ R. length R ≡ g.W.Rows.count c.args.rows.now) rows c.count.ensures.told R e;
      below = λ h. h;
      told = λ R e.
          let F = firsts R in
          let lawful = told AreRows rows c.count.ensures.lawful R e in
          let counted : length R ≡ g.W.Rows.count c.args.rows.now = told (λ R. length R ≡ g.W.Rows.count c.args.rows.now) rows c.count.ensures.told R e in
          let all : length F ≡ c.count.result = simp length-map (omega (arith, counted, c.count.ensures.count)) in
          let last : IsLastOf F (Leaves x) c.last_from.result = told (λ R. IsLastOf (firsts R) (Leaves x) c.last_from.result) rows c.last_from.ensures R e in
          let at : IsLastOf (take (length F) F) (Leaves x) c.last_from.result = subst (λ L. IsLastOf L (Leaves x) c.last_from.result) (sym (take_all (length F) F (omega arith))) last in
          let same : link ≡ c.last_from.result = is ∙ ap (link_below c.last_from.result) (sym all) ∙ link_right (Leaves x) (leaves x) (leaves_yes x) (leaves_no x) F (length F) c.last_from.result (omega arith) at in
          left_none R lawful marks x low c.args.since link (IsDue c.args.waiting.now) c.args.steps.now (subst (IsLastOf F (Leaves x)) (sym same) last);
      same = (refl, refl, refl);
      later = omega arith;
      stays = λ s. s;
      alike = g.met.W.Rows.goes_along.same c.args.rows.now;
    }

pub loop-link-preserved : goal.loop-link-preserved
loop-link-preserved g c =
    let marks = c.args.marks.now in
    let x = c.args.of.0 in
    let low = place_after c.args.after in
    let s = c.args.since in
    let i = c.loop-link.invariant in
    let at = c.in-Some.index in
    let row = c.in_ok-row.row in
    let read = c.in_ok-row.ensures in
    let n = g.W.Rows.known c.args.rows.now in
    let link = c.link_below-link-in-Some.result in
    let is : link ≡ link_below row.before_from at = c.link_below-link-in-Some.ensures in
    let high : at < g.W.Rows.count c.args.rows.now = subst (λ o. IfSome o (λ i. i < g.W.Rows.count c.args.rows.now)) c.in-Some.is i.inside in
    record {
      inside = subst (λ o. IfSome o (λ i. i < g.W.Rows.count c.args.rows.now)) (sym is) (below_weaker (link_below row.before_from at) at (g.W.Rows.count c.args.rows.now) (omega arith) (link_is_below row.before_from at));
      lawful = i.lawful;
      counted = i.counted;
      below = λ h a m. elim ((c.in_ok-wait.ensures a).0 m) [
        | inl old ↦ i.below h a old
        | inr new ↦ omega (arith, ap at_object (new.leads).is, read.ends.1, i.same.2)
      ];
      told = λ R e.
          let F = firsts R in
          let lawful = i.lawful R e in
          let l = subst (λ o. IsLeftAt R marks x low s o (IsDue c.args.waiting.now) (IsDue c.loop-link.waiting) c.args.steps.now c.loop-link.steps) c.in-Some.is (i.told R e) in
          let inside : at < length R = omega (arith, high, i.counted R e) in
          let here = told (λ R. IsRowAt R at row) _ read.exact R (i.same.0 ∙ e) in
          let first : get_or F at no_flow ≡ (row_of_kept row).first = get_or-map (λ (r : Row). r.first) R at (row_of_kept row) no_flow inside ∙ ap (λ (r : Row). r.first) (here.is (row_of_kept row)) in
          let last : get_or (lasts R) at no_flow ≡ (row_of_kept row).last = get_or-map (λ (r : Row). r.last) R at (row_of_kept row) no_flow inside ∙ ap (λ (r : Row). r.last) (here.is (row_of_kept row)) in
          let from : row.from.0 ≡ x = sym (ap source first) ∙ left_source R lawful marks x low s at (IsDue c.args.waiting.now) (IsDue c.loop-link.waiting) c.args.steps.now c.loop-link.steps l no_flow in
          let next : IsLastOf (take at F) (Leaves x) row.before_from = subst (λ y. IsLastOf (take at F) (Leaves y) row.before_from) from here.before_from in
          let short : at ≤ length F = (let long : at < length F = simp length-map inside in omega arith) in
          let same : link ≡ row.before_from = is ∙ link_right (Leaves x) (leaves x) (leaves_yes x) (leaves_no x) F at row.before_from short next in
          subst (λ k. IsLeftAt R marks x low s link (IsDue c.args.waiting.now) (IsDue c.wait.new.waiting) c.args.steps.now k) (sym read.step)
          (left_more R lawful marks x low s at (IsDue c.args.waiting.now) (IsDue c.loop-link.waiting) c.args.steps.now c.loop-link.steps l link (IsDue c.wait.new.waiting) (subst (IsLastOf (take at F) (Leaves x)) (sym same) next)
          (λ a. subst (λ f. IsDue c.wait.new.waiting a ↔ (IsDue c.loop-link.waiting a ⊎ LeadsOn marks x low s f a)) (sym last)
          (subst (λ y. IsDue c.wait.new.waiting a ↔ (IsDue c.loop-link.waiting a ⊎ LeadsOn marks y low s (row_of_kept row).last a)) from (c.in_ok-wait.ensures a))));
      same = (read.same.0 ∙ i.same.0, read.same.1 ∙ i.same.1, read.same.2 ∙ i.same.2);
      later = omega (arith, i.later, read.cause.later);
      stays = λ k. read.cause.stays (i.stays k);
      alike = g.met.W.Rows.goes_along.next c.args.rows.now c.loop-link.rows c.row.new.self i.alike read.alike;
    }

pub returns-clause-exact : goal.returns-clause-exact
returns-clause-exact g c =
    let marks = c.args.marks.now in
    let x = c.args.of.0 in
    let low = place_after c.args.after in
    let s = c.args.since in
    let l = c.loop-link in
    if_told (λ R. (a : Arrival) → IsDue l.waiting a ↔ (IsDue c.args.waiting.now a ⊎ ((f : Flow) × Contains (lasts R) f × LeadsOn marks x low s f a))) (g.W.Rows.rows c.args.rows.now) (λ R e.
    left_all R (l.invariant.lawful R e) marks x low s (IsDue c.args.waiting.now) (IsDue l.waiting) c.args.steps.now l.steps (subst (λ o. IsLeftAt R marks x low s o (IsDue c.args.waiting.now) (IsDue l.waiting) c.args.steps.now l.steps) c.in_default.is (l.invariant.told R e)))

pub returns-clause-steps : goal.returns-clause-steps
returns-clause-steps g c =
    let marks = c.args.marks.now in
    let x = c.args.of.0 in
    let low = place_after c.args.after in
    let s = c.args.since in
    let l = c.loop-link in
    if_told (λ R. l.steps ≡ c.args.steps.now + count_by (leaves x) (firsts R)) (g.W.Rows.rows c.args.rows.now) (λ R e.
    left_count R (l.invariant.lawful R e) marks x low s (IsDue c.args.waiting.now) (IsDue l.waiting) c.args.steps.now l.steps (subst (λ o. IsLeftAt R marks x low s o (IsDue c.args.waiting.now) (IsDue l.waiting) c.args.steps.now l.steps) c.in_default.is (l.invariant.told R e)))
