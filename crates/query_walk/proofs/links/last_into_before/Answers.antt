use Rattle.std.proofs.Common.{◌≡◌, ◌+◌, ◌<◌, length, get_or, take, drop, Some, None, sym, ap, subst, ◌∙◌, refl, arith}
use Rattle.std.specs.List.{count_by}
use Rattle.std.specs.Option.{IfSome}
use Rattle.std.proofs.lemmas.List.{length-map, get_or-map, take_all, drop_all}
use Rattle.reach_model.specs.Flows.{target}
use Rattle.reach_model.specs.Rows.{Row, firsts}
use Rattle.reach_rows.specs.Kept.{IsLastOf, IsRowAt, Enters, row_of_kept}
use Rattle.query_walk.specs.Links.{link_below, enters}
use Rattle.query_walk.proofs.Told.{told, if_told}
use Rattle.query_walk.proofs.Counts.{no_flow}
use Rattle.query_walk.proofs.LinkLemmas.{link_right, link_is_below, below_weaker, last_low, last_meets, last_before, count_last, count_none, enters_yes, enters_no}
use Rattle.query_walk.proofs.links.last_into_before.Goals as goal

pub loop-link-init : goal.loop-link-init
loop-link-init g c =
    let x = c.args.of.0 in
    let link = c.link_below-link.result in
    let is : link ≡ link_below c.last_into.result c.count.result = c.link_below-link.ensures in
    record {
      inside = subst (λ o. IfSome o (λ i. i < g.W.Rows.count c.args.rows.now)) (sym is) (subst (λ n. IfSome (link_below c.last_into.result c.count.result) (λ i. i < n)) c.count.ensures.count (link_is_below c.last_into.result c.count.result));
      told = λ R e.
          let F = firsts R in
          let counted : length R ≡ g.W.Rows.count c.args.rows.now = told (λ R. length R ≡ g.W.Rows.count c.args.rows.now) _ c.count.ensures.told R e in
          let all : length F ≡ c.count.result = simp length-map (omega (arith, counted, c.count.ensures.count)) in
          let last : IsLastOf F (Enters x) c.last_into.result = told (λ R. IsLastOf (firsts R) (Enters x) c.last_into.result) _ c.last_into.ensures R e in
          let whole : take (length F) F ≡ F = take_all (length F) F (omega arith) in
          let at : IsLastOf (take (length F) F) (Enters x) c.last_into.result = subst (λ L. IsLastOf L (Enters x) c.last_into.result) (sym whole) last in
          let same : link ≡ c.last_into.result = is ∙ ap (link_below c.last_into.result) (sym all) ∙ link_right (Enters x) (enters x) (enters_yes x) (enters_no x) F (length F) c.last_into.result (omega arith) at in
          (length F, omega arith, omega (arith, c.requires.before, all, c.count.ensures.count), subst (IsLastOf (take (length F) F) (Enters x)) (sym same) at, (let none : count_by (enters x) (drop (length F) F) ≡ 0 = ap (count_by (enters x)) (drop_all (length F) F (omega arith)) in omega (arith, none)));
      same = (refl, refl, refl);
      later = omega arith;
      stays = λ s. s;
      alike = g.met.W.Rows.goes_along.same c.args.rows.now;
    }

pub loop-link-preserved : goal.loop-link-preserved
loop-link-preserved g c =
    let x = c.args.of.0 in
    let i = c.loop-link.invariant in
    let at = c.in-Some.index in
    let row = c.in_ok-row.row in
    let read = c.in_ok-row.ensures in
    let link = c.link_below-link-in-Some.result in
    let is : link ≡ link_below row.before_to at = c.link_below-link-in-Some.ensures in
    let low : at < g.W.Rows.count c.args.rows.now = subst (λ o. IfSome o (λ i. i < g.W.Rows.count c.args.rows.now)) c.in-Some.is i.inside in
    record {
      inside = subst (λ o. IfSome o (λ i. i < g.W.Rows.count c.args.rows.now)) (sym is) (below_weaker (link_below row.before_to at) at (g.W.Rows.count c.args.rows.now) (omega arith) (link_is_below row.before_to at));
      told = λ R e.
          let F = firsts R in
          let t = i.told R e in
          let n = t.0 in
          let last = subst (IsLastOf (take n F) (Enters x)) c.in-Some.is t.3 in
          let h : at < n = last_low (Enters x) (enters x) (enters_yes x) (enters_no x) F n at t.1 last in
          let here = told (λ R. IsRowAt R at row) _ read.exact R (i.same.0 ∙ e) in
          let inside : at < length R = (let long : at < length F = omega arith in simp length-map at long) in
          let flow : get_or F at no_flow ≡ (row_of_kept row).first = get_or-map (λ (r : Row). r.first) R at (row_of_kept row) no_flow inside ∙ ap (λ (r : Row). r.first) (here.is (row_of_kept row)) in
          let to : row.to.0 ≡ x = sym (ap target flow) ∙ last_meets (Enters x) (enters x) (enters_yes x) (enters_no x) F n at no_flow t.1 last in
          let next : IsLastOf (take at F) (Enters x) row.before_to = subst (λ y. IsLastOf (take at F) (Enters y) row.before_to) to here.before_to in
          let same : link ≡ row.before_to = is ∙ link_right (Enters x) (enters x) (enters_yes x) (enters_no x) F at row.before_to (omega arith) next in
          (at, omega arith, c.if-index-before.false, subst (IsLastOf (take at F) (Enters x)) (sym same) next, (let k = count_last (Enters x) (enters x) (enters_yes x) (enters_no x) F n at t.1 last in let s = t.4 in omega (arith, k, s, read.step)));
      same = (read.same.0 ∙ i.same.0, read.same.1 ∙ i.same.1, read.same.2 ∙ i.same.2);
      later = omega (arith, i.later, read.cause.later);
      stays = λ s. read.cause.stays (i.stays s);
      alike = g.met.W.Rows.goes_along.next c.args.rows.now c.loop-link.rows c.row.new.self i.alike read.alike;
    }

pub returns-then-index-before-clause-exact : goal.returns-then-index-before-clause-exact
returns-then-index-before-clause-exact g c =
    let x = c.args.of.0 in
    let m = c.args.before in
    if_told (λ R. IsLastOf (take m (firsts R)) (Enters x) (Some c.in-Some.index)) (g.W.Rows.rows c.args.rows.now) (λ R e.
    let t = c.loop-link.invariant.told R e in
    last_before (Enters x) (enters x) (enters_yes x) (enters_no x) (firsts R) m t.0 (Some c.in-Some.index) t.2 t.1 c.if-index-before.true (subst (IsLastOf (take t.0 (firsts R)) (Enters x)) c.in-Some.is t.3))

pub returns-then-index-before-clause-steps : goal.returns-then-index-before-clause-steps
returns-then-index-before-clause-steps g c =
    let x = c.args.of.0 in
    let m = c.args.before in
    if_told (λ R. c.loop-link.steps ≡ c.args.steps.now + count_by (enters x) (drop m (firsts R))) (g.W.Rows.rows c.args.rows.now) (λ R e.
    let t = c.loop-link.invariant.told R e in
    let k = count_none (Enters x) (enters x) (enters_yes x) (enters_no x) (firsts R) m t.0 (Some c.in-Some.index) t.2 t.1 c.if-index-before.true (subst (IsLastOf (take t.0 (firsts R)) (Enters x)) c.in-Some.is t.3) in
    let s = t.4 in omega (arith, k, s))

pub returns-clause-exact : goal.returns-clause-exact
returns-clause-exact g c =
    let x = c.args.of.0 in
    let m = c.args.before in
    if_told (λ R. IsLastOf (take m (firsts R)) (Enters x) None) (g.W.Rows.rows c.args.rows.now) (λ R e.
    let t = c.loop-link.invariant.told R e in
    last_before (Enters x) (enters x) (enters_yes x) (enters_no x) (firsts R) m t.0 None t.2 t.1 tt (subst (IsLastOf (take t.0 (firsts R)) (Enters x)) c.in_default.is t.3))

pub returns-clause-steps : goal.returns-clause-steps
returns-clause-steps g c =
    let x = c.args.of.0 in
    let m = c.args.before in
    if_told (λ R. c.loop-link.steps ≡ c.args.steps.now + count_by (enters x) (drop m (firsts R))) (g.W.Rows.rows c.args.rows.now) (λ R e.
    let t = c.loop-link.invariant.told R e in
    let k = count_none (Enters x) (enters x) (enters_yes x) (enters_no x) (firsts R) m t.0 None t.2 t.1 tt (subst (IsLastOf (take t.0 (firsts R)) (Enters x)) c.in_default.is t.3) in
    let s = t.4 in omega (arith, k, s))
