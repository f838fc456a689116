-- A walk backward takes one row after the other.
use Rattle.std.proofs.Common.{◌≡◌, ℕ, zero, suc, ◌+◌, ◌-◌, ◌<◌, ◌≤◌, ◌↔◌, List, [], ◌∷◌, ◌++◌, length, get_or, set, take, drop, Option, Some, None, Bool, true, false, cond, sym, ap, subst, ◌∙◌, arith, ◌⊎◌, inl, inr, refl}
use Rattle.std.specs.List.{Contains, count_by}
use Rattle.std.proofs.lemmas.List.{get_or_default, get_or-set_same, get_or-set_other, get_or_append_left, get_or_push, length-append, take-append-le, take_at, take_all, drop_all}
use Rattle.std.proofs.lemmas.List.Elements.{Contains-get_or, Contains-push, Contains-push_cases, Contains-append_left}
use Rattle.std.proofs.lemmas.Bool.{cases_eq, cases_lt, cases_Bool, false≢true, false_from_ne_true}
use Rattle.std.proofs.lemmas.List.Sums.{sum_by-cons}
use Rattle.flow_base.specs.declared.types.Flow.{Flow}
use Rattle.reach_model.specs.Flows.{source, target, time, place}
use Rattle.reach_model.specs.Marks.{IsMarked}
use Rattle.reach_model.specs.Paths.{Back, IsUntil}
use Rattle.reach_rows.specs.Kept.{IsLastOf, Enters}
use Rattle.query_walk.specs.Links.{enters, enters_marked}
use Rattle.query_walk.specs.Waiting.{Joins, IsNext}
use Rattle.query_walk.specs.Walks.{DoAscend}
use Rattle.query_walk.specs.Ways.{IsLed, IsWay}
use Rattle.query_walk.specs.WayBack.{IsBack, IsBackAt, Finds, IsFound}
use Rattle.query_walk.proofs.BackSteps.{back_none, back_more}
use Rattle.query_walk.proofs.Counts.{no_flow, count_skipped}
use Rattle.query_walk.proofs.LinkLemmas.{last_low, last_meets, none_after, none_before, enters_yes, enters_no}

-- a mark more
pub marked_more : (marks : List Bool) (x u : ℕ) → x < length marks → IsMarked (set marks x true) u ↔ (IsMarked marks u ⊎ (u ≡ x))
marked_more marks x u h = (
  λ m. elim (cases_eq u x) [ inl e ↦ inr e | inr n ↦ inl (sym (get_or-set_other marks x u true false n) ∙ m) ],
  λ s. elim s [
    | inl m ↦ elim (cases_eq u x) [ inl e ↦ subst (IsMarked (set marks x true)) (sym e) (get_or-set_same marks x true false h) | inr n ↦ get_or-set_other marks x u true false n ∙ m ]
    | inr e ↦ subst (IsMarked (set marks x true)) (sym e) (get_or-set_same marks x true false h)
  ],
)

-- what a link before n names: the last flow into x, so that none into x is after it
pub covered : (F : List Flow) (n x : ℕ) (o : Option ℕ) → n ≤ length F → IsLastOf (take n F) (Enters x) o → (j : ℕ) (d : Flow) → j < n → target (get_or F j d) ≡ x → (i : ℕ) × (o ≡ Some i) × (j ≤ i) × (i < n) × ((e : Flow) → target (get_or F i e) ≡ x)
covered F n x None h l j d low e = absurd (none_before (Enters x) (enters x) (enters_yes x) (enters_no x) F n h l j d low e)
covered F n x (Some i) h l j d low e = (
  i,
  refl,
  elim (cases_lt i j) [ inl after ↦ absurd (none_after (Enters x) (enters x) (enters_yes x) (enters_no x) F n i h l j d after low e) | inr none ↦ none ],
  last_low (Enters x) (enters x) (enters_yes x) (enters_no x) F n i h l,
  λ g. last_meets (Enters x) (enters x) (enters_yes x) (enters_no x) F n i g h l,
)

-- the flow that a link names enters x
pub linked : (F : List Flow) (n x i : ℕ) (o : Option ℕ) → n ≤ length F → IsLastOf (take n F) (Enters x) o → o ≡ Some i → (d : Flow) → target (get_or F i d) ≡ x
linked F n x i o h l e d = last_meets (Enters x) (enters x) (enters_yes x) (enters_no x) F n i d h (subst (IsLastOf (take n F) (Enters x)) e l)

module _ (S : Flow → Type 0) (v : ℕ) (H : List Flow) (f : Flow) where
  pub led_more : (u : ℕ) → IsLed H v u → IsLed (H ++ f ∷ []) v u
  led_more u l = elim l [ inl e ↦ inl e | inr h ↦ inr (h.0, Contains-append_left H (f ∷ []) h.0 h.1, h.2) ]

  pub way_more : IsWay S v H → S f → ((g : Flow) → Contains H g → place f < place g) → IsLed H v (target f) → IsWay S v (H ++ f ∷ [])
  way_more w s low led = record {
    meets = λ g c. elim (Contains-push_cases H f g c) [ inl old ↦ w.meets g old | inr new ↦ subst S new s ];
    descends = λ j k d jk h. let hk : k < length H + 1 = simp length-append at h in elim (cases_lt k (length H)) [
      | inl old ↦ rw (get_or_append_left H (f ∷ []) d j (omega arith), get_or_append_left H (f ∷ []) d k old) (w.descends j k d jk old)
      | inr new ↦ let hj : j < length H = omega arith in rw (get_or_append_left H (f ∷ []) d j hj, get_or_push H f d k (omega arith)) (low (get_or H j d) (Contains-get_or H j d hj))
    ];
    leads = λ k d h. let hk : k < length H + 1 = simp length-append at h in elim (cases_lt k (length H)) [
      | inl old ↦ rw (get_or_append_left H (f ∷ []) d k old, take-append-le k H (f ∷ []) (omega arith)) (w.leads k d old)
      | inr new ↦ rw (get_or_push H f d k (omega arith), take_at H (f ∷ []) k (omega arith)) led
    ];
  }

pub until_or_not : (t : Option ℕ) (f : Flow) → IsUntil t f ⊎ ¬ IsUntil t f
until_or_not None f = inl tt
until_or_not (Some s) f = elim (cases_lt s (time f)) [ inl late ↦ inr (λ in_time. omega arith) | inr in_time ↦ inl in_time ]

pub finds_or_not : (M : List Bool) (t : Option ℕ) (f : Flow) → Finds M t f ⊎ ¬ Finds M t f
finds_or_not M t f = elim (cases_Bool (get_or M (target f) false)) [
  | inl to ↦ elim (cases_Bool (get_or M (source f) false)) [
    | inl from ↦ inr (λ finds. finds.1 from)
    | inr new ↦ elim (until_or_not t f) [ inl in_time ↦ inl (to, (λ m. false≢true (sym new ∙ m)), in_time) | inr late ↦ inr (λ finds. late finds.2) ]
  ]
  | inr not_to ↦ inr (λ finds. false≢true (sym not_to ∙ finds.0))
]

-- flows into the marked objects and flows into one that isn't marked
pub count_more : (M : List Bool) (x : ℕ) → x < length M → ¬ IsMarked M x → (L : List Flow) → count_by (enters_marked (set M x true)) L ≡ count_by (enters_marked M) L + count_by (enters x) L
count_more M x h new [] = refl
count_more M x h new (f ∷ L) =
    let rest = count_more M x h new L in
    let r = sum_by-cons (λ g. cond (enters_marked (set M x true) g) 1 0) f L in
    let p = sum_by-cons (λ g. cond (enters_marked M g) 1 0) f L in
    let q = sum_by-cons (λ g. cond (enters x g) 1 0) f L in
    let one : cond (enters_marked (set M x true) f) 1 0 ≡ cond (enters_marked M f) 1 0 + cond (enters x f) 1 0 = elim (cases_eq (target f) x) [
      | inl e ↦
          let a : enters_marked (set M x true) f ≡ true = subst (IsMarked (set M x true)) (sym e) (get_or-set_same M x true false h) in
          let b : enters_marked M f ≡ false = false_from_ne_true (enters_marked M f) (λ m. new (subst (IsMarked M) e m)) in
          rw (a, b, enters_yes x f e) refl
      | inr n ↦
          let a : enters_marked (set M x true) f ≡ enters_marked M f = get_or-set_other M x (target f) true false n in
          rw (a, enters_no x f n) (omega arith)
    ] in
    omega (arith, rest, r, p, q, one)

-- row k into a marked object, of which the earlier ones wait by its link
module _ (F : List Flow) (up : DoAscend F) (known k v : ℕ) (t : Option ℕ) (f : Flow) (h : k < length F) (is : (d : Flow) → get_or F k d ≡ f) (low : target f < known)
    (M : List Bool) (W : ℕ → Type 0) (H : List Flow) (waits : W k) (b : IsBackAt F known (k + 1) v t M W H) (o : Option ℕ) (last : IsLastOf (take k F) (Enters (target f)) o) (W' : ℕ → Type 0) (joins : Joins W o W') where
  here : IsMarked M (target f)
  here = subst (λ x. IsMarked M (target x)) (is no_flow) (b.only k no_flow waits (omega arith))

  waits_on : (j : ℕ) (d : Flow) → j < k → IsMarked M (target (get_or F j d)) → (i : ℕ) × W' i × (j ≤ i) × (i < k) × (target (get_or F i d) ≡ target (get_or F j d))
  waits_on j d jk m =
      let w = b.waits j d (omega arith) m in
      elim (cases_eq w.0 k) [
        | inl e ↦
            let same : target (get_or F j d) ≡ target f = sym w.4 ∙ ap (λ i. target (get_or F i d)) e ∙ ap target (is d) in
            let c = covered F k (target f) o (omega arith) last j d jk same in
            (c.0, (joins c.0).1 (inr c.1), c.2, c.3, c.4 d ∙ sym same)
        | inr n ↦ (w.0, (joins w.0).1 (inl w.1), w.2, omega (arith, w.3, n), w.4)
      ]

  only_on : (i : ℕ) (d : Flow) → W' i → i < k → IsMarked M (target (get_or F i d))
  only_on i d c ik = elim ((joins i).0 c) [
    | inl old ↦ b.only i d old (omega arith)
    | inr e ↦ subst (IsMarked M) (sym (linked F k (target f) i o (omega arith) last e d)) here
  ]

  pub stayed : ¬ Finds M t f → IsBackAt F known k v t M W' H
  stayed not_found = record {
    exact = back_more F up k f h is t v (IsMarked M) (IsMarked M) (λ u. (
      λ m. inl m,
      λ s. elim s [
        | inl m ↦ m
        | inr new ↦ elim (cases_Bool (get_or M (source f) false)) [
          | inl marked ↦ subst (IsMarked M) (sym new.0) marked
          | inr not_yet ↦ absurd (not_found (new.1, (λ m. false≢true (sym not_yet ∙ m)), new.2))
        ]
      ],
    )) known low b.exact;
    waits = waits_on;
    only = only_on;
    way = b.way;
    led = b.led;
    done = λ g i d c ik. b.done g i d c (omega arith);
  }

  pub found : (s s' : ℕ) (M' : List Bool) (W2 : ℕ → Type 0) (H' : List Flow) → source f < length M → Finds M t f → IsFound F k f M W' H s M' W2 H' s' → IsBackAt F known k v t M' W2 H'
  found s s' M' W2 H' len finds now =
      let x = source f in
      let more : (u : ℕ) → IsMarked M' u ↔ (IsMarked M u ⊎ (u ≡ x)) = λ u. subst (λ m. IsMarked m u ↔ (IsMarked M u ⊎ (u ≡ x))) (sym now.marks_it) (marked_more M x u len) in
      record {
        exact = back_more F up k f h is t v (IsMarked M) (IsMarked M') (λ u. (
          λ m. elim ((more u).0 m) [ inl old ↦ inl old | inr e ↦ inr (e, finds.0, finds.2) ],
          λ r. (more u).1 (elim r [ inl old ↦ inl old | inr new ↦ inr new.0 ]),
        )) known low b.exact;
        waits = λ j d jk m. elim ((more (target (get_or F j d))).0 m) [
          | inl old ↦ let w = waits_on j d jk old in (w.0, (now.joins w.0).1 (inl w.1), w.2, w.3, w.4)
          | inr e ↦ let c = covered F k x now.last (omega arith) now.is_last j d jk e in (c.0, (now.joins c.0).1 (inr c.1), c.2, c.3, c.4 d ∙ sym e)
        ];
        only = λ i d c ik. (more (target (get_or F i d))).1 (elim ((now.joins i).0 c) [
          | inl old ↦ inl (only_on i d old ik)
          | inr e ↦ inr (linked F k x i now.last (omega arith) now.is_last e d)
        ]);
        way = subst (IsWay (λ g. Contains F g × IsUntil t g) v) (sym now.hop) (way_more (λ g. Contains F g × IsUntil t g) v H f b.way
            ((k, h, is f), finds.2) (λ g c. let l = b.done g k f c (omega arith) in omega (arith, l, ap place (is f))) (b.led (target f) finds.0));
        led = λ u m. subst (λ hs. IsLed hs v u) (sym now.hop) (elim ((more u).0 m) [
          | inl old ↦ led_more (λ g. Contains F g × IsUntil t g) v H f u (b.led u old)
          | inr e ↦ inr (f, Contains-push H f, sym e)
        ]);
        done = λ g i d c ik. elim (Contains-push_cases H f g (subst (λ hs. Contains hs g) now.hop c)) [
          | inl old ↦ b.done g i d old (omega arith)
          | inr new ↦ let l = up i k d ik h in omega (arith, l, ap place (is d), ap place new)
        ];
      }

-- rows that enter no marked object change nothing
module _ (F : List Flow) (up : DoAscend F) (known v : ℕ) (t : Option ℕ) (ends : (f : Flow) → Contains F f → target f < known) (M : List Bool) where
  skip : (k m : ℕ) → m + k ≤ length F → ((j : ℕ) → m ≤ j → j < m + k → ¬ IsMarked M (target (get_or F j no_flow))) → ((u : ℕ) → u < known → IsMarked M u ↔ Back (drop (m + k) F) v t u)
      → (u : ℕ) → u < known → IsMarked M u ↔ Back (drop m F) v t u
  skip zero m h none inv u low = let same : m + zero ≡ m = omega arith in subst (λ i. IsMarked M u ↔ Back (drop i F) v t u) same (inv u low)
  skip (suc k) m h none inv u low =
      let hm : m < length F = omega arith in
      let same : m + suc k ≡ m + 1 + k = omega arith in
      back_more F up m (get_or F m no_flow) hm (λ d. get_or_default F m d no_flow hm) t v (IsMarked M) (IsMarked M)
      (λ x. (λ y. inl y, λ s. elim s [ inl old ↦ old | inr new ↦ absurd (none m (omega arith) (omega arith) new.1) ]))
      known (ends (get_or F m no_flow) (Contains-get_or F m no_flow hm))
      (skip k (m + 1) (omega arith) (λ j a b. none j (omega arith) (omega arith)) (λ x y. subst (λ i. IsMarked M x ↔ Back (drop i F) v t x) same (inv x y))) u low

  pub skipped : (m n : ℕ) → m ≤ n → n ≤ length F → ((j : ℕ) → m ≤ j → j < n → ¬ IsMarked M (target (get_or F j no_flow))) → ((u : ℕ) → u < known → IsMarked M u ↔ Back (drop n F) v t u)
      → (u : ℕ) → u < known → IsMarked M u ↔ Back (drop m F) v t u
  skipped m n mn h none inv = let same : n ≡ m + (n - m) = omega arith in
      skip (n - m) m (omega arith) (λ j a b. none j a (omega arith)) (λ u low. subst (λ i. IsMarked M u ↔ Back (drop i F) v t u) same (inv u low))

  module _ (n : ℕ) (h : n ≤ length F) (W : ℕ → Type 0) (H : List Flow) (b : IsBackAt F known n v t M W H) where
    module _ (k : ℕ) (next : IsNext W n k) where
      none_between : (j : ℕ) → k + 1 ≤ j → j < n → ¬ IsMarked M (target (get_or F j no_flow))
      none_between j a low m = let w = b.waits j no_flow low m in let top = next.greatest w.0 w.1 w.3 in absurd (omega (arith, top, w.2))

      pub advanced : IsBackAt F known (k + 1) v t M W H
      advanced = record {
        exact = skipped (k + 1) n (omega (arith, next.low)) h none_between b.exact;
        waits = λ j d jk m.
            let w = b.waits j d (omega (arith, next.low)) m in
            let top = next.greatest w.0 w.1 w.3 in
            (w.0, w.1, w.2, omega arith, w.4);
        only = λ i d c ik. b.only i d c (omega (arith, next.low));
        way = b.way;
        led = b.led;
        done = λ f i d c ik. b.done f i d c (omega (arith, next.low));
      }

      pub advanced_count : count_by (enters_marked M) (drop (k + 1) F) ≡ count_by (enters_marked M) (drop n F)
      advanced_count = count_skipped (enters_marked M) F (k + 1) n (omega (arith, next.low)) h (λ j a low. false_from_ne_true (enters_marked M (get_or F j no_flow)) (none_between j a low))

    module _ (end : (i : ℕ) → W i → n ≤ i) where
      none_left : (j : ℕ) → 0 ≤ j → j < n → ¬ IsMarked M (target (get_or F j no_flow))
      none_left j a low m = let w = b.waits j no_flow low m in let e = end w.0 w.1 in absurd (omega (arith, w.3, e))

      pub ended : IsBack F known v t M H
      ended = record {
        exact = skipped 0 n (omega arith) h none_left b.exact;
        way = b.way;
        led = b.led;
      }

      pub ended_count : count_by (enters_marked M) F ≡ count_by (enters_marked M) (drop n F)
      ended_count = count_skipped (enters_marked M) F 0 n (omega arith) h (λ j a low. false_from_ne_true (enters_marked M (get_or F j no_flow)) (none_left j a low))

-- at first an object alone is marked, and the last row into it waits
pub begun : (F : List Flow) (known v : ℕ) (t : Option ℕ) (M : List Bool) (W : ℕ → Type 0) (o : Option ℕ) → ((u : ℕ) → IsMarked M u ↔ (u ≡ v)) → IsLastOf F (Enters v) o → ((i : ℕ) → W i ↔ (o ≡ Some i)) → IsBackAt F known (length F) v t M W []
begun F known v t M W o one last joins =
    let whole : take (length F) F ≡ F = take_all (length F) F (omega arith) in
    let at : IsLastOf (take (length F) F) (Enters v) o = subst (λ L. IsLastOf L (Enters v) o) (sym whole) last in
    let none : drop (length F) F ≡ [] = drop_all (length F) F (omega arith) in
    record {
      exact = λ u low. let b = back_none v t u in subst (λ L. IsMarked M u ↔ Back L v t u) (sym none) (λ m. b.1 ((one u).0 m), λ p. (one u).1 (b.0 p));
      waits = λ j d low m. let c = covered F (length F) v o (omega arith) at j d low ((one (target (get_or F j d))).0 m) in
          (c.0, (joins c.0).1 c.1, c.2, c.3, c.4 d ∙ sym ((one (target (get_or F j d))).0 m));
      only = λ i d c low. (one (target (get_or F i d))).1 (linked F (length F) v i o (omega arith) at ((joins i).0 c) d);
      way = record {
        meets = λ f c. absurd (omega (arith, c.1));
        descends = λ j k d jk h. absurd (omega arith);
        leads = λ k d h. absurd (omega arith);
      };
      led = λ u m. inl ((one u).0 m);
      done = λ f i d c low. absurd (omega (arith, c.1));
    }
