use Rattle.std.proofs.Common.{◌≡◌, ℕ, ◌+◌, ◌<◌, ◌↔◌, ◌⊎◌, List, length, get_or, Bool, false, sym, ap, subst, ◌∙◌, arith, refl, inl, inr}
use Rattle.std.specs.List.{Contains, count_by}
use Rattle.std.proofs.lemmas.List.{length-map}
use Rattle.std.proofs.lemmas.Bool.{cases_Bool, false≢true}
use Rattle.flow_base.specs.declared.types.Flow.{Flow}
use Rattle.reach_model.specs.Marks.{IsMarked}
use Rattle.reach_model.specs.Numbers.{known}
use Rattle.reach_model.specs.Paths.{Fore}
use Rattle.reach_model.specs.Rows.{firsts, lasts}
use Rattle.reach_rows.specs.Kept.{AreRows}
use Rattle.query_walk.specs.declared.way_fore.WayFore.{WayFore}
use Rattle.query_walk.specs.Links.{leaves, leaves_marked}
use Rattle.query_walk.specs.Arrivals.{AreAtBelow, Arrival, IsDue, IsLeastFrom, LeadsOn, StayFrom, arrival, place_after}
use Rattle.query_walk.specs.WayFore.{IsForeAt, IsReached}
use Rattle.query_walk.proofs.Told.{told, if_told}
use Rattle.query_walk.proofs.Observed.{are_observed}
use Rattle.query_walk.proofs.WayForeLemmas.{count_more_out, count_only_out, fore_begun, passed, reached, fore_ended}
use Rattle.query_walk.proofs.way_fore.walk_fore.Goals as goal

pub loop-next-init : goal.loop-next-init
loop-next-init g c =
    let rows = g.W.Rows.rows c.args.rows.now in
    let n = g.W.Rows.known c.args.rows.now in
    let x = c.args.of.0 in
    let s = c.args.since in
    let fore = c.in_ok-fore.fore in
    let made = c.in_ok-fore.ensures in
    record {
      len = omega (arith, made.len);
      itself = (made.marks x).1 refl;
      observed = λ R e. let long : length R ≡ length (firsts R) = simp length-map refl in are_observed R (length (firsts R)) n (told AreRows rows made.lawful R e) long (told (λ R. known (firsts R) ≡ n) rows made.told R e);
      below = made.below;
      exact = λ R e. fore_begun (lasts R) n x s fore.marks (IsDue fore.waiting) made.marks (told (λ R. (a : Arrival) → IsDue fore.waiting a ↔ (⊥ ⊎ ((f : Flow) × Contains (lasts R) f × LeadsOn fore.marks x 0 s f a))) rows made.waits R e);
      steps = λ R e.
          let took = told (λ R. c.begin_fore.new.steps ≡ c.args.steps.now + count_by (leaves x) (firsts R)) rows made.steps R e in
          let same = count_only_out fore.marks x made.marks (firsts R) in
          omega (arith, took, same);
      same = made.same;
      later = made.cause.later;
      stays = made.cause.stays;
      alike = made.alike;
    }

pub arrive-requires-clause-known : goal.arrive-requires-clause-known
arrive-requires-clause-known g c =
    let i = c.loop-next.invariant in
    let next = c.in-Some.next in
    let low = i.below (arrival next.0 next.1) (c.in-Some.ensures.some).waited in
    omega (arith, low, i.same.2)

pub loop-next-preserved : goal.loop-next-preserved
loop-next-preserved g c =
    let i = c.loop-next.invariant in
    let n = g.W.Rows.known c.args.rows.now in
    let x = c.args.of.0 in
    let s = c.args.since in
    let old = c.loop-next.fore in
    let new = c.arrive.new.fore in
    let M = old.marks in
    let b = place_after c.loop-next.after in
    let p = c.in-Some.next.0 in
    let y = c.in-Some.next.1 in
    let left = c.next.new.self in
    let next : IsLeastFrom (IsDue old.waiting) b (arrival p y) = c.in-Some.ensures.some in
    let stay : StayFrom (IsDue old.waiting) b (IsDue left) = c.next.ensures.stay in
    let took = c.in_ok-arrive.ensures in
    let low : y < length M = (let l = i.below (arrival p y) next.waited in omega (arith, l, i.len)) in
    record {
      len = omega (arith, i.len, took.len);
      itself = took.marks x i.itself;
      observed = i.observed;
      below = subst (λ k. AreAtBelow k (IsDue left) → AreAtBelow k (IsDue new.waiting)) i.same.2 took.below (λ a m. i.below a (stay.no_more a m));
      exact = λ R e.
          let F = lasts R in
          let observed = i.observed R e in
          elim (cases_Bool (get_or M y false)) [
            | inl m ↦ subst (λ (w : WayFore). IsForeAt F n (p + 1) x s w.marks (IsDue w.waiting)) (sym (took.again m).0)
                (passed R (length (firsts R)) n observed x s b M (IsDue old.waiting) (i.exact R e) (arrival p y) (IsDue left) next stay m)
            | inr m ↦
                let now = told (λ R. ¬ IsMarked M y → IsReached R p y s M (IsDue left) c.loop-next.steps new.marks (IsDue new.waiting) c.arrive.new.steps) _ took.first R (i.same.0 ∙ e) (λ t. false≢true (sym m ∙ t)) in
                reached R (length (firsts R)) n observed x s b M (IsDue old.waiting) (i.exact R e) (arrival p y) (IsDue left) next stay (IsDue new.waiting) new.marks c.loop-next.steps c.arrive.new.steps low now
          ];
      steps = λ R e. elim (cases_Bool (get_or M y false)) [
        | inl m ↦
            let same = took.again m in
            let all = ap (λ (w : WayFore). count_by (leaves_marked w.marks) (firsts R)) same.0 in
            omega (arith, i.steps R e, same.1, all)
        | inr m ↦
            let not_yet : ¬ IsMarked M y = λ t. false≢true (sym m ∙ t) in
            let now = told (λ R. ¬ IsMarked M y → IsReached R p y s M (IsDue left) c.loop-next.steps new.marks (IsDue new.waiting) c.arrive.new.steps) _ took.first R (i.same.0 ∙ e) not_yet in
            let more = count_more_out M y low not_yet (firsts R) in
            let all = ap (λ (marks : List Bool). count_by (leaves_marked marks) (firsts R)) now.marks_it in
            omega (arith, i.steps R e, now.read, more, all)
      ];
      same = (took.same.0 ∙ i.same.0, took.same.1 ∙ i.same.1, took.same.2 ∙ i.same.2);
      later = omega (arith, i.later, took.cause.later);
      stays = λ k. took.cause.stays (i.stays k);
      alike = g.met.W.Rows.goes_along.next c.args.rows.now c.loop-next.rows c.arrive.new.rows i.alike took.alike;
    }

pub returns-clause-exact : goal.returns-clause-exact
returns-clause-exact g c =
    let i = c.loop-next.invariant in
    let n = g.W.Rows.known c.args.rows.now in
    let fore = c.loop-next.fore in
    if_told (λ R. (v : ℕ) → v < n → IsMarked fore.marks v ↔ Fore (lasts R) c.args.of.0 c.args.since v) (g.W.Rows.rows c.args.rows.now) (λ R e.
    fore_ended R (length (firsts R)) n (i.observed R e) c.args.of.0 c.args.since (place_after c.loop-next.after) fore.marks (IsDue fore.waiting) (i.exact R e) c.in_default.ensures.none)
