use Rattle.std.proofs.Common.{◌≡◌, ℕ, ◌+◌, List, get_or, length, drop, Some, sym, ap, subst, ◌∙◌, arith, refl}
use Rattle.std.specs.List.{count_by}
use Rattle.std.proofs.lemmas.List.{drop_all}
use Rattle.flow_base.specs.declared.types.Flow.{Flow}
use Rattle.reach_model.specs.Flows.{target}
use Rattle.reach_model.specs.Marks.{IsMarked}
use Rattle.reach_model.specs.Numbers.{known}
use Rattle.reach_model.specs.Rows.{Row, firsts}
use Rattle.reach_rows.specs.Kept.{AreRows, IsLastOf, Enters}
use Rattle.query_walk.specs.Links.{enters_marked}
use Rattle.query_walk.specs.Waiting.{IsNext, Waits}
use Rattle.query_walk.specs.WayBack.{IsBack, IsBackAt}
use Rattle.query_walk.proofs.Told.{told, if_told}
use Rattle.query_walk.proofs.Observed.{AreObserved, are_observed}
use Rattle.query_walk.proofs.WayBackLemmas.{begun, advanced, advanced_count, ended, ended_count}
use Rattle.query_walk.proofs.way_back.walk_back.Goals as goal

pub loop-index-init : goal.loop-index-init
loop-index-init g c =
    let back = c.in_ok-back.back in
    let made = c.in_ok-back.ensures in
    let x = c.args.of.0 in
    let rows = g.W.Rows.rows c.args.rows.now in
    let n = g.W.Rows.known c.args.rows.now in
    let observed : (R : List Row) → rows ≡ Some R → AreObserved R (g.W.Rows.count c.args.rows.now) n = λ R e.
    are_observed R (g.W.Rows.count c.args.rows.now) n (told AreRows rows c.count-below.ensures.lawful R e) (told (λ R. length R ≡ g.W.Rows.count c.args.rows.now) rows c.count-below.ensures.told R e) (told (λ R. known (firsts R) ≡ n) rows made.told R e) in
    let all : (R : List Row) → rows ≡ Some R → length (firsts R) ≡ c.count-below.result = λ R e. (observed R e).all ∙ sym c.count-below.ensures.count in
    record {
      room = made.room;
      len = omega (arith, made.len);
      itself = (made.marks x).1 refl;
      observed = observed;
      low = omega (arith, c.count-below.ensures.count);
      exact = λ R e.
          let F = firsts R in
          let last = told (λ R. IsLastOf (firsts R) (Enters x) made.waits.0) _ made.waits.1 R e in
          subst (λ n. IsBackAt F (g.W.Rows.known c.args.rows.now) n x c.args.until back.marks (Waits back.waiting) back.hops.items) (all R e)
          (subst (λ hops. IsBackAt F (g.W.Rows.known c.args.rows.now) (length F) x c.args.until back.marks (Waits back.waiting) hops) (sym made.hops)
          (begun F (g.W.Rows.known c.args.rows.now) x c.args.until back.marks (Waits back.waiting) made.waits.0 made.marks last made.waits.2));
      steps = λ R e. let none : count_by (enters_marked back.marks) (drop c.count-below.result (firsts R)) ≡ 0 = ap (count_by (enters_marked back.marks)) (drop_all c.count-below.result (firsts R) (omega (arith, all R e))) in omega (arith, none);
      same = (refl, refl, refl);
      later = omega arith;
      stays = λ s. s;
      alike = g.met.W.Rows.goes_along.same c.args.rows.now;
    }

pub loop-index-preserved : goal.loop-index-preserved
loop-index-preserved g c =
    let i = c.loop-index.invariant in
    let back = c.loop-index.back in
    let k = c.in-Some.index in
    let new = c.take_row.new.back in
    let took = c.in_ok-take_row.ensures in
    let next : IsNext (Waits back.waiting) c.loop-index.below k = c.in-Some.ensures.some in
    let x = c.args.of.0 in
    let n = g.W.Rows.known c.args.rows.now in
    let t = c.args.until in
    record {
      room = took.room ∙ i.room;
      len = omega (arith, i.len, took.len);
      itself = took.marks x i.itself;
      observed = i.observed;
      low = omega (arith, i.low, next.low);
      exact = λ R e.
          let F = firsts R in
          let observed = i.observed R e in
          let b = i.exact R e in
          let m = g.W.Rows.known c.loop-index.rows in
          let taken = told (λ R. (v : ℕ) → Waits back.waiting k → IsBackAt (firsts R) m (k + 1) v t back.marks (Waits back.waiting) back.hops.items → IsBackAt (firsts R) m k v t new.marks (Waits new.waiting) new.hops.items) _ took.exact R (i.same.0 ∙ e) in
          subst (λ m. IsBackAt F m k x t new.marks (Waits new.waiting) new.hops.items) i.same.2 (taken x next.waited (subst (λ m. IsBackAt F m (k + 1) x t back.marks (Waits back.waiting) back.hops.items) (sym i.same.2)
          (advanced F observed.lawful.ascend n x t observed.targets back.marks c.loop-index.below (omega (arith, observed.all, i.low)) (Waits back.waiting) back.hops.items b k next)));
      steps = λ R e.
          let F = firsts R in
          let observed = i.observed R e in
          let b = i.exact R e in
          let taken = told (λ R. ((d : Flow) → IsMarked back.marks (target (get_or (firsts R) k d))) → c.take_row.new.steps + count_by (enters_marked back.marks) (drop (k + 1) (firsts R)) ≡ c.loop-index.steps + count_by (enters_marked new.marks) (drop k (firsts R))) _ took.steps R (i.same.0 ∙ e)
          (λ d. b.only k d next.waited next.low) in
          let same = advanced_count F observed.lawful.ascend n x t observed.targets back.marks c.loop-index.below (omega (arith, observed.all, i.low)) (Waits back.waiting) back.hops.items b k next in
          omega (arith, taken, same, i.steps R e);
      same = (took.same.0 ∙ i.same.0, took.same.1 ∙ i.same.1, took.same.2 ∙ i.same.2);
      later = omega (arith, i.later, took.cause.later);
      stays = λ s. took.cause.stays (i.stays s);
      alike = g.met.W.Rows.goes_along.next c.args.rows.now c.loop-index.rows c.take_row.new.rows i.alike took.alike;
    }

pub returns-clause-exact : goal.returns-clause-exact
returns-clause-exact g c =
    let i = c.loop-index.invariant in
    let back = c.loop-index.back in
    let n = g.W.Rows.known c.args.rows.now in
    if_told (λ R. IsBack (firsts R) n c.args.of.0 c.args.until back.marks back.hops.items) (g.W.Rows.rows c.args.rows.now) (λ R e.
    let observed = i.observed R e in
    ended (firsts R) observed.lawful.ascend n c.args.of.0 c.args.until observed.targets back.marks c.loop-index.below (omega (arith, observed.all, i.low)) (Waits back.waiting) back.hops.items (i.exact R e) c.in_default.ensures.none)

pub returns-clause-steps : goal.returns-clause-steps
returns-clause-steps g c =
    let i = c.loop-index.invariant in
    let back = c.loop-index.back in
    let n = g.W.Rows.known c.args.rows.now in
    if_told (λ R. c.loop-index.steps ≡ c.args.steps.now + count_by (enters_marked back.marks) (firsts R)) (g.W.Rows.rows c.args.rows.now) (λ R e.
    let observed = i.observed R e in
    let same = ended_count (firsts R) observed.lawful.ascend n c.args.of.0 c.args.until observed.targets back.marks c.loop-index.below (omega (arith, observed.all, i.low)) (Waits back.waiting) back.hops.items (i.exact R e) c.in_default.ensures.none in
    omega (arith, i.steps R e, same))
