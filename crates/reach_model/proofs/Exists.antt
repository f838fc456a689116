-- Each mode keeps some rows of each lawful list of flows.
use Rattle.std.proofs.Common.{◌≡◌, ℕ, suc, ◌<◌, ◌≤◌, List, [], ◌∷◌, ◌++◌, length, get_or, Some, None, true, cond, refl, sym, ap, subst, ◌∙◌, arith, ◌⊎◌, inl, inr}
use Rattle.std.specs.List.{Contains}
use Rattle.std.proofs.lemmas.List.{get_or_default}
use Rattle.std.proofs.lemmas.Bool.{cases_eq, cases_lt, cases_Bool}
use Rattle.flow_base.specs.declared.types.Flow.{Flow}
use Rattle.reach_model.specs.declared.modes.Mode.{Mode}
use Rattle.reach_model.specs.declared.modes.Mode.TheVariants.{Plain, Continuous, Full, Source}
use Rattle.reach_model.specs.declared.modes.Verdict.{Verdict}
use Rattle.reach_model.specs.declared.modes.Verdict.TheVariants.{Drop, Add, Extend}
use Rattle.reach_model.specs.Flows.{source, target, place, IsLawful}
use Rattle.reach_model.specs.Paths.{Path, Reaches}
use Rattle.reach_model.specs.Sources.{touches, first_at, IsSource}
use Rattle.reach_model.specs.Rows.{Row, SamePair, CarriesOn, IsSourceOf, IsVerdict, rows_after, firsts, Keeps, none, more}
use Rattle.reach_model.proofs.Lawful.{lawful_front}
use Rattle.reach_model.proofs.PathLemmas.{path_weaker}
use Rattle.reach_model.proofs.Shadow.{by_last}
use Rattle.reach_model.proofs.Search.{Decided, both, lower, same_pair, some_or_none}
use Rattle.reach_model.proofs.FirstFlows.{known_or_not}
use Rattle.reach_model.proofs.Members.{Contains-cons_cases}
use Rattle.reach_model.proofs.ByRows.{carried}

neither : (P : Type 0) → Decided P → Decided (¬ P)
neither P d = elim d [ inl p ↦ inr (λ n. n p) | inr n ↦ inl n ]

-- a condition on each member
module _ (P Q : Flow → Type 0) (p : (h : Flow) → Decided (P h)) (q : (h : Flow) → Decided (Q h)) where
  pub each_where : (K : List Flow) → Decided ((h : Flow) → Contains K h → P h → Q h)
  each_where K = elim (some_or_none (λ h. P h × ¬ Q h) (λ h. both (P h) (¬ Q h) (p h) (neither (Q h) (q h))) K) [
    | inl s ↦ inr (λ all. s.2.1 (all s.0 s.1 s.2.0))
    | inr m ↦ inl (λ h c ph. elim (q h) [ inl y ↦ y | inr n ↦ absurd (m h c (ph, n)) ])
  ]

abbrev Ascends : List Flow → Type 0
Ascends K = (i j : ℕ) (d : Flow) → i < j → j < length K → place (get_or K i d) < place (get_or K j d)

tail_ascends : (f : Flow) (K : List Flow) → Ascends (f ∷ K) → Ascends K
tail_ascends f K a i j d low h = a (suc i) (suc j) d (omega arith) (omega arith)

head_first : (f : Flow) (K : List Flow) → Ascends (f ∷ K) → (g : Flow) → Contains K g → place f < place g
head_first f K a g c = let r = a 0 (suc c.0) g (omega arith) (omega (arith, c.1)) in omega (arith, r, ap place c.2)

-- a path over a list begins with its first flow or is over the rest
module _ (f : Flow) (K : List Flow) (a : Ascends (f ∷ K)) where
  in_rest : (n u v : ℕ) (p : List Flow) → place f < n → Path (Contains (f ∷ K)) n u v p → Path (Contains K) n u v p
  in_rest n u v [] low w = w
  in_rest n u v (g ∷ p) low w = elim (Contains-cons_cases K f g w.0) [
    | inl e ↦ absurd (omega (arith, ap place e, w.1))
    | inr c ↦ (c, w.1, w.2, in_rest (suc (place g)) (target g) v p (omega (arith, w.1)) w.3)
  ]

  in_all : (n u v : ℕ) (p : List Flow) → Path (Contains K) n u v p → Path (Contains (f ∷ K)) n u v p
  in_all n u v p w = path_weaker (Contains K) (Contains (f ∷ K)) (λ g c. (suc c.0, omega (arith, c.1), c.2)) n n u v p (omega arith) w

  begins : (n u v : ℕ) → Reaches (Contains (f ∷ K)) n u v → Reaches (Contains K) n u v ⊎ ((n ≤ place f) × (source f ≡ u) × Reaches (Contains K) (suc (place f)) (target f) v)
  begins n u v ([], w) = inl ([], w)
  begins n u v (g ∷ p, w) = elim (Contains-cons_cases K f g w.0) [
    | inl e ↦ inr (subst (λ x. n ≤ place x) (sym e) w.1, ap source e ∙ w.2, (p, in_rest (suc (place f)) (target f) v p (omega arith) (subst (λ x. Path (Contains (f ∷ K)) (suc (place x)) (target x) v p) (sym e) w.3)))
    | inr c ↦ inl (g ∷ p, (c, w.1, w.2, in_rest (suc (place g)) (target g) v p (let h = head_first f K a g c in omega arith) w.3))
  ]

reaches_or_not : (K : List Flow) → Ascends K → (n u v : ℕ) → Decided (Reaches (Contains K) n u v)
reaches_or_not [] a n u v = elim (cases_eq u v) [ inl e ↦ inl ([], e) | inr ne ↦ inr (λ r. ne (nothing r.0 r.1)) ]
  where
    nothing : (p : List Flow) → Path (Contains []) n u v p → u ≡ v
    nothing [] w = w
    nothing (f ∷ p) w = let c = (w.0).1 in absurd (omega arith)
reaches_or_not (f ∷ K) a n u v =
    let t = tail_ascends f K a in
    let By : Type 0 = (n ≤ place f) × ((source f ≡ u) × Reaches (Contains K) (suc (place f)) (target f) v) in
    elim (reaches_or_not K t n u v) [
      | inl r ↦ inl (r.0, in_all f K a n u v r.0 r.1)
      | inr not_rest ↦ elim (both (n ≤ place f) ((source f ≡ u) × Reaches (Contains K) (suc (place f)) (target f) v) (elim (cases_lt (place f) n) [ inl l ↦ inr (λ h. omega arith) | inr h ↦ inl h ])
          (both (source f ≡ u) (Reaches (Contains K) (suc (place f)) (target f) v) (cases_eq (source f) u) (reaches_or_not K t (suc (place f)) (target f) v))) [
            | inl b ↦ inl (f ∷ (b.1.1).0, ((0, omega arith, refl), b.0, b.1.0, in_all f K a (suc (place f)) (target f) v (b.1.1).0 (b.1.1).1))
            | inr not_by ↦ inr (λ r. elim (begins f K a n u v r) [ inl rest ↦ not_rest rest | inr b ↦ not_by (b.0, (b.1, b.2)) ])
          ]
    ]

-- a lawful list ascends
lawful_ascends : (F : List Flow) → IsLawful F → Ascends F
lawful_ascends F l i j d low h = let hi : i < length F = omega arith in omega (arith, l.places i d hi, l.places j d h)

source_or_not : (F : List Flow) (x : ℕ) → Decided (IsSource F x)
source_or_not F x = elim (known_or_not F x) [
  | inl k ↦ elim (cases_eq (source k.0) x) [
    | inl e ↦ inl (k.0, k.1, e)
    | inr ne ↦ inr (λ s. let same : Some s.0 ≡ Some k.0 = sym s.1 ∙ k.1 in let e : s.0 ≡ k.0 = cc in ne (subst (λ f. source f ≡ x) e s.2))
  ]
  | inr n ↦ inr (λ s. let clash : None ≡ Some s.0 = sym n ∙ s.1 in cc)
]

-- a first flow is a member
pub first_member : (F : List Flow) (x : ℕ) (f : Flow) → first_at F x ≡ Some f → Contains F f
first_member [] x f e = absurd (cc)
first_member (g ∷ F) x f e = elim (cases_Bool (touches g x)) [
  | inl t ↦ let s : Some g ≡ Some f = sym (ap (λ b. cond b (Some g) (first_at F x)) t) ∙ e in let same : g ≡ f = cc in (0, omega arith, same)
  | inr n ↦ let c = first_member F x f (sym (ap (λ b. cond b (Some g) (first_at F x)) n) ∙ e) in (suc c.0, omega (arith, c.1), c.2)
]

pub first_touches : (F : List Flow) (x : ℕ) (f : Flow) → first_at F x ≡ Some f → touches f x ≡ true
first_touches [] x f e = absurd (cc)
first_touches (g ∷ F) x f e = elim (cases_Bool (touches g x)) [
  | inl t ↦ let s : Some g ≡ Some f = sym (ap (λ b. cond b (Some g) (first_at F x)) t) ∙ e in let same : g ≡ f = cc in subst (λ h. touches h x ≡ true) same t
  | inr n ↦ first_touches F x f (sym (ap (λ b. cond b (Some g) (first_at F x)) n) ∙ e)
]

-- no flow of K into u is at or after a place
decide_inflows : (K : List Flow) (u b : ℕ) → Decided ((h : Flow) → Contains K h → target h ≡ u → place h < b)
decide_inflows K u b = each_where (λ h. target h ≡ u) (λ h. place h < b) (λ h. cases_eq (target h) u) (λ h. lower (place h) b) K

full_verdict : (F : List Flow) (R : List Row) (f : Flow) → (d : Verdict) × IsVerdict Full F R f d
full_verdict F R f =
    let K = firsts R in
    let Free : Flow → Type 0 = λ g. (h : Flow) → Contains K h → target h ≡ source f → place h < place g in
    elim (some_or_none (λ g. SamePair g f × Free g) (λ g. both (SamePair g f) (Free g) (same_pair g f) (decide_inflows K (source f) (place g))) K) [
      | inl s ↦ (Drop, record { by = s.0; kept = s.1; pair = s.2.0; no_inflow_since = s.2.1 })
      | inr m ↦ (Add, λ x. m x.by x.kept (x.pair, x.no_inflow_since))
    ]

continuous_verdict : (F : List Flow) (R : List Row) (f : Flow) → IsLawful F → Keeps Continuous F R → (d : Verdict) × IsVerdict Continuous F R f d
continuous_verdict F R f l k =
    let Apart : Flow → Type 0 = λ h. ¬ (target h ≡ source f) × (¬ (source h ≡ target f) × ¬ SamePair h f) in
    let Free : Flow → Type 0 = λ g. (h : Flow) → Contains F h → place g < place h → Apart h in
    let apart = λ (h : Flow). both (¬ (target h ≡ source f)) (¬ (source h ≡ target f) × ¬ SamePair h f) (neither (target h ≡ source f) (cases_eq (target h) (source f)))
    (both (¬ (source h ≡ target f)) (¬ SamePair h f) (neither (source h ≡ target f) (cases_eq (source h) (target f))) (neither (SamePair h f) (same_pair h f))) in
    elim (some_or_none (λ g. SamePair g f × Free g) (λ g. both (SamePair g f) (Free g) (same_pair g f) (each_where (λ h. place g < place h) Apart (λ h. lower (place g) (place h)) apart F)) F) [
      | inl s ↦
          let on : CarriesOn F s.0 f = record { there = s.1; pair = s.2.0; nothing_between = λ h c after. let a = s.2.1 h c after in (a.0, a.1.0); no_later = λ h c after. (s.2.1 h c after).1.1 } in
          let r = carried l k f s.0 on in
          let i = (r.1).0 in
          (Extend i, ((r.1).1, λ d. subst (λ x. CarriesOn F x f) (sym (ap (λ (x : Row). x.last) (get_or_default R i d r.0 (r.1).1 ∙ (r.1).2) ∙ r.2)) on))
      | inr m ↦ (Add, λ g c. m g c.there (c.pair, λ h ch after. let b = c.nothing_between h ch after in (b.0, (b.1, c.no_later h ch after))))
    ]

source_verdict : (F : List Flow) (R : List Row) (f : Flow) → Ascends F → (d : Verdict) × IsVerdict Source F R f d
source_verdict F R f a =
    let decide = λ (v x : ℕ). both (IsSource (F ++ f ∷ []) x) (Reaches (Contains F) 0 x v) (source_or_not (F ++ f ∷ []) x) (reaches_or_not F a 0 x v) in
    elim (some_or_none (λ g. IsSourceOf F f (source f) (source g) × ¬ IsSourceOf F f (target f) (source g))
    (λ g. both (IsSourceOf F f (source f) (source g)) (¬ IsSourceOf F f (target f) (source g)) (decide (source f) (source g)) (neither (IsSourceOf F f (target f) (source g)) (decide (target f) (source g)))) (F ++ f ∷ [])) [
      | inl s ↦ (Add, (source s.0, s.2.0, s.2.1))
      | inr m ↦ (
        Drop,
        λ x su. elim (decide (target f) x) [
          | inl ok ↦ ok
          | inr n ↦ let e = (su.0).2 in absurd (m (su.0).0 (first_member (F ++ f ∷ []) x (su.0).0 (su.0).1)
              (subst (IsSourceOf F f (source f)) (sym e) su, λ t. n (subst (IsSourceOf F f (target f)) e t)))
        ],
      )
    ]

some_verdict : (mode : Mode) (F : List Flow) (R : List Row) (f : Flow) → IsLawful F → Keeps mode F R → (d : Verdict) × IsVerdict mode F R f d
some_verdict Plain F R f l k = (Add, tt)
some_verdict Continuous F R f l k = continuous_verdict F R f l k
some_verdict Full F R f l k = full_verdict F R f
some_verdict Source F R f l k = source_verdict F R f (lawful_ascends F l)

pub some_rows : (mode : Mode) (F : List Flow) → IsLawful F → (R : List Row) × Keeps mode F R
some_rows mode = by_last (λ F. IsLawful F → (R : List Row) × Keeps mode F R) (λ l. ([], none)) (λ F f ih l.
    let r = ih (lawful_front F f l) in
    let d = some_verdict mode F r.0 f (lawful_front F f l) r.1 in
    (rows_after r.0 f d.0, more f d.0 r.1 d.1))
