-- A walk forward takes one arrival after the other.
use Rattle.std.proofs.Common.{◌≡◌, ℕ, ◌+◌, ◌<◌, ◌≤◌, ◌↔◌, List, [], ◌∷◌, length, get_or, set, Option, Bool, true, false, cond, sym, ap, subst, ◌∙◌, arith, ◌⊎◌, inl, inr, refl}
use Rattle.std.specs.List.{Contains, count_by}
use Rattle.std.proofs.lemmas.List.{get_or_default, get_or-set_same, get_or-set_other}
use Rattle.std.proofs.lemmas.List.Sums.{sum_by-cons}
use Rattle.std.proofs.lemmas.Bool.{cases_eq, cases_order, cases_Bool, false≢true, false_from_ne_true}
use Rattle.flow_base.specs.declared.types.Flow.{Flow}
use Rattle.reach_model.specs.Flows.{source, target, place}
use Rattle.reach_model.specs.Marks.{IsMarked}
use Rattle.reach_model.specs.Numbers.{known as known_of}
use Rattle.reach_model.specs.Paths.{Reaches, IsSince, Fore}
use Rattle.reach_model.specs.Rows.{Row, firsts, lasts}
use Rattle.reach_model.proofs.Members.{Contains-map, from_map}
use Rattle.reach_model.proofs.Numbering.{ends_known}
use Rattle.reach_model.proofs.PathLemmas.{Below}
use Rattle.reach_model.proofs.Within.{Among}
use Rattle.reach_rows.specs.Kept.{AreRows}
use Rattle.query_walk.specs.Links.{leaves, leaves_marked}
use Rattle.query_walk.specs.Arrivals.{Arrival, IsLeastFrom, LeadsOn, NoneFrom, StayFrom, arrival, at_object, at_place}
use Rattle.query_walk.specs.WayFore.{IsForeAt, IsReached}
use Rattle.query_walk.proofs.Observed.{AreObserved}
use Rattle.query_walk.proofs.ForeReach.{reach_more, reach_no_more, reach_step, reach_weaker, reach_within, reach_none}
use Rattle.query_walk.proofs.LinkLemmas.{leaves_yes, leaves_no}
use Rattle.query_walk.proofs.WayBackLemmas.{marked_more}

-- flows out of the marked objects and flows out of one that isn't marked
pub count_more_out : (M : List Bool) (x : ℕ) → x < length M → ¬ IsMarked M x → (L : List Flow) → count_by (leaves_marked (set M x true)) L ≡ count_by (leaves_marked M) L + count_by (leaves x) L
count_more_out M x h new [] = refl
count_more_out M x h new (f ∷ L) =
    let rest = count_more_out M x h new L in
    let r = sum_by-cons (λ g. cond (leaves_marked (set M x true) g) 1 0) f L in
    let p = sum_by-cons (λ g. cond (leaves_marked M g) 1 0) f L in
    let q = sum_by-cons (λ g. cond (leaves x g) 1 0) f L in
    let one : cond (leaves_marked (set M x true) f) 1 0 ≡ cond (leaves_marked M f) 1 0 + cond (leaves x f) 1 0 = elim (cases_eq (source f) x) [
      | inl e ↦
          let a : leaves_marked (set M x true) f ≡ true = subst (IsMarked (set M x true)) (sym e) (get_or-set_same M x true false h) in
          let b : leaves_marked M f ≡ false = false_from_ne_true (leaves_marked M f) (λ m. new (subst (IsMarked M) e m)) in
          rw (a, b, leaves_yes x f e) refl
      | inr n ↦
          let a : leaves_marked (set M x true) f ≡ leaves_marked M f = get_or-set_other M x (source f) true false n in
          rw (a, leaves_no x f n) (omega arith)
    ] in
    omega (arith, rest, r, p, q, one)

-- if x alone is marked, they are the flows out of x
pub count_only_out : (M : List Bool) (x : ℕ) → ((u : ℕ) → IsMarked M u ↔ (u ≡ x)) → (L : List Flow) → count_by (leaves_marked M) L ≡ count_by (leaves x) L
count_only_out M x one [] = refl
count_only_out M x one (f ∷ L) =
    let rest = count_only_out M x one L in
    let p = sum_by-cons (λ g. cond (leaves_marked M g) 1 0) f L in
    let q = sum_by-cons (λ g. cond (leaves x g) 1 0) f L in
    let same : leaves_marked M f ≡ leaves x f = elim (cases_eq (source f) x) [
      | inl e ↦ (one (source f)).1 e ∙ sym (leaves_yes x f e)
      | inr n ↦ false_from_ne_true (leaves_marked M f) (λ m. n ((one (source f)).0 m)) ∙ sym (leaves_no x f n)
    ] in
    let as_many : cond (leaves_marked M f) 1 0 ≡ cond (leaves x f) 1 0 + 0 = rw same (omega arith) in
    omega (arith, rest, p, q, as_many)

pub last_target : (R : List Row) (n : ℕ) → AreRows R → known_of (firsts R) ≡ n → (f : Flow) → Contains (lasts R) f → target f < n
last_target R n lawful all f c =
    let r = from_map (λ (r : Row). r.last) R f c in
    let pair = lawful.pairs r.0 r.1 in
    let low = ends_known (firsts R) (r.0).first (Contains-map (λ (r : Row). r.first) R r.0 r.1) in
    omega (arith, low.1, pair.1, ap target r.2, all)

module _ (R : List Row) (count known : ℕ) (observed : AreObserved R count known) where
  -- what holds of the ends of first flows holds of those of last flows
  last_source : (f : Flow) → Contains (lasts R) f → source f < known
  last_source f c =
      let r = from_map (λ (r : Row). r.last) R f c in
      let pair = (observed.lawful).pairs r.0 r.1 in
      let low = observed.sources (r.0).first (Contains-map (λ (r : Row). r.first) R r.0 r.1) in
      omega (arith, low, pair.0, ap source r.2)

  last_target_known : (f : Flow) → Contains (lasts R) f → target f < known
  last_target_known f c =
      let r = from_map (λ (r : Row). r.last) R f c in
      let pair = (observed.lawful).pairs r.0 r.1 in
      let low = observed.targets (r.0).first (Contains-map (λ (r : Row). r.first) R r.0 r.1) in
      omega (arith, low, pair.1, ap target r.2)

  -- one flow stands at a place
  same_flow : (f g : Flow) → Contains (lasts R) f → Contains (lasts R) g → place f ≡ place g → f ≡ g
  same_flow f g a b e = elim (cases_order a.0 b.0) [
    | inl same ↦ sym a.2 ∙ ap (λ i. get_or (lasts R) i f) same ∙ get_or_default (lasts R) b.0 f g b.1 ∙ b.2
    | inr differ ↦ absurd (elim differ [
      | inl low ↦ (observed.lawful).lasts_apart a.0 b.0 f low b.1 (ap place a.2 ∙ e ∙ sym (ap place (get_or_default (lasts R) b.0 f g b.1 ∙ b.2)))
      | inr high ↦ (observed.lawful).lasts_apart b.0 a.0 g high a.1 (ap place b.2 ∙ sym e ∙ sym (ap place (get_or_default (lasts R) a.0 g f a.1 ∙ a.2)))
    ])
  ]

  module _ (u : ℕ) (s : Option ℕ) (b : ℕ) (M : List Bool) (W : Arrival → Type 0) (i : IsForeAt (lasts R) known b u s M W) where
    abbrev pub S : Flow → Type 0
    S = Among (lasts R) (IsSince s)

    marked_source : (f : Flow) → S f → Reaches (Below S b) 0 u (source f) → IsMarked M (source f)
    marked_source f a r = (i.exact (source f) (last_source f a.0)).1 r

    -- nothing waits any more
    pub fore_ended : NoneFrom W b → (v : ℕ) → v < known → IsMarked M v ↔ Fore (lasts R) u s v
    fore_ended end v low = (
      λ m. reach_within S b u v ((i.exact v low).0 m),
      λ r. (i.exact v low).1 (reach_no_more S S (λ f a. a) b u (λ f a after r. elim (i.waits f a.0 (marked_source f a r) a.1 after) [
        | inl m ↦ (i.exact (target f) (last_target_known f a.0)).0 m
        | inr waits ↦ let e = end (arrival (place f) (target f)) waits in absurd (omega arith)
      ]) v r),
    )

    module _ (a : Arrival) (W' : Arrival → Type 0) (next : IsLeastFrom W b a) (stay : StayFrom W b W') where
      abbrev pub q : ℕ
      q = at_place a

      abbrev pub y : ℕ
      y = at_object a

      stays_between : (f : Flow) → S f → b ≤ place f → place f < q → Reaches (Below S b) 0 u (source f) → Reaches (Below S b) 0 u (target f)
      stays_between f c after before r = elim (i.waits f c.0 (marked_source f c r) c.1 after) [
        | inl m ↦ (i.exact (target f) (last_target_known f c.0)).0 m
        | inr waits ↦ let l : q ≤ place f = next.least (arrival (place f) (target f)) waits after in absurd (omega arith)
      ]

      earlier : (v : ℕ) → Reaches (Below S q) 0 u v → Reaches (Below S b) 0 u v
      earlier v r = reach_no_more S (Below S q) (λ f c. c.0) b u (λ f c after. stays_between f c.0 after c.1) v r

      exact_next : (v : ℕ) → v < known → (IsMarked M v ⊎ (v ≡ y)) ↔ Reaches (Below S (q + 1)) 0 u v
      exact_next v low = (
        λ m. elim m [
          | inl old ↦ reach_weaker S b (q + 1) u v (let high = next.high in omega (arith, high)) ((i.exact v low).0 old)
          | inr e ↦
              let f = i.only a next.waited next.high in
              let leads = f.3 in
              let there : Reaches (Below S b) 0 u (source f.0) = (i.exact (source f.0) (last_source f.0 f.1)).0 f.2 in
              let more : Reaches (Below S (place f.0 + 1)) 0 u (target f.0) = reach_more S b u f.0 there (f.1, leads.since) leads.after in
              let at : place f.0 ≡ q = ap at_place leads.is in
              subst (λ x. Reaches (Below S (q + 1)) 0 u x) (ap at_object leads.is ∙ sym e) (subst (λ p. Reaches (Below S (p + 1)) 0 u (target f.0)) at more)
        ],
        λ r. elim (reach_step S q u v r) [
          | inl old ↦ inl ((i.exact v low).1 (earlier v old))
          | inr new ↦
              let f = i.only a next.waited next.high in
              let same : new.0 ≡ f.0 = same_flow new.0 f.0 (new.1).0 f.1 (new.2 ∙ sym (ap at_place (f.3).is)) in
              inr (sym new.4 ∙ ap target same ∙ ap at_object (f.3).is)
        ],
      )

      pub passed : IsMarked M y → IsForeAt (lasts R) known (q + 1) u s M W'
      passed m = record {
        exact = λ v low. let e = exact_next v low in (λ k. e.0 (inl k), λ r. elim (e.1 r) [ inl old ↦ old | inr new ↦ subst (IsMarked M) (sym new) m ]);
        waits = λ f c k since after. elim (i.waits f c k since (omega (arith, after, next.high))) [
          | inl there ↦ inl there
          | inr waits ↦ inr (stay.rest (arrival (place f) (target f)) waits (omega (arith, after, next.high)))
        ];
        only = λ o c after. let f = i.only o (stay.no_more o c) (omega (arith, after, next.high)) in (f.0, f.1, f.2, record { leaves = refl; after = omega (arith, after, ap at_place (f.3).is); since = (f.3).since; is = (f.3).is });
      }

      pub reached : (W2 : Arrival → Type 0) (M' : List Bool) (n n' : ℕ) → y < length M → IsReached R q y s M W' n M' W2 n' → IsForeAt (lasts R) known (q + 1) u s M' W2
      reached W2 M' n n' len now =
          let more : (v : ℕ) → IsMarked M' v ↔ (IsMarked M v ⊎ (v ≡ y)) = λ v. subst (λ m. IsMarked m v ↔ (IsMarked M v ⊎ (v ≡ y))) (sym now.marks_it) (marked_more M y v len) in
          record {
            exact = λ v low. let e = exact_next v low in (λ k. e.0 ((more v).0 k), λ r. (more v).1 (e.1 r));
            waits = λ f c k since after. elim ((more (source f)).0 k) [
              | inl old ↦ elim (i.waits f c old since (omega (arith, after, next.high))) [
                | inl there ↦ inl ((more (target f)).1 (inl there))
                | inr waits ↦ inr ((now.joins (arrival (place f) (target f))).1 (inl (stay.rest (arrival (place f) (target f)) waits (omega (arith, after, next.high)))))
              ]
              | inr e ↦ elim (cases_Bool (get_or M' (target f) false)) [
                | inl there ↦ inl there
                | inr not_yet ↦ inr ((now.joins (arrival (place f) (target f))).1 (inr (f, c, record { leads = record { leaves = e; after = after; since = since; is = refl }; new = λ t. false≢true (sym not_yet ∙ t) })))
              ]
            ];
            only = λ o c after. elim ((now.joins o).0 c) [
              | inl old ↦ let f = i.only o (stay.no_more o old) (omega (arith, after, next.high)) in (f.0, f.1, (more (source f.0)).1 (inl f.2), record { leaves = refl; after = omega (arith, after, ap at_place (f.3).is); since = (f.3).since; is = (f.3).is })
              | inr f ↦ let leads = (f.2).leads in (f.0, f.1, (more (source f.0)).1 (inr leads.leaves), record { leaves = refl; after = leads.after; since = leads.since; is = leads.is })
            ];
          }

-- at first an object alone is marked, and the arrivals of its flows wait
pub fore_begun : (F : List Flow) (known u : ℕ) (s : Option ℕ) (M : List Bool) (W : Arrival → Type 0) → ((v : ℕ) → IsMarked M v ↔ (v ≡ u))
    → ((a : Arrival) → W a ↔ (⊥ ⊎ ((f : Flow) × Contains F f × LeadsOn M u 0 s f a))) → IsForeAt F known 0 u s M W
fore_begun F known u s M W one joins = record {
  exact = λ v low. (λ m. ([], sym ((one v).0 m)), λ r. (one v).1 (sym (reach_none (Among F (IsSince s)) u v r)));
  waits = λ f c m since after. elim (cases_Bool (get_or M (target f) false)) [
    | inl there ↦ inl there
    | inr not_yet ↦ inr ((joins (arrival (place f) (target f))).1 (inr (f, c, record { leads = record { leaves = (one (source f)).0 m; after = after; since = since; is = refl }; new = λ t. false≢true (sym not_yet ∙ t) })))
  ];
  only = λ a c after. elim ((joins a).0 c) [
    | inl none ↦ absurd none
    | inr f ↦ let leads = (f.2).leads in (f.0, f.1, (one (source f.0)).1 leads.leaves, record { leaves = refl; after = leads.after; since = leads.since; is = leads.is })
  ];
}
