-- How versions grow.
use Rattle.std.proofs.Common.{◌≡◌, ◌≢◌, ℕ, zero, suc, ◌+◌, ◌<◌, ◌≤◌, List, [], ◌∷◌, ◌++◌, length, get_or, take, reverse, Some, true, cond, sym, ap, subst, ◌∙◌, arith, ◌⊎◌, inl, inr, append_assoc, append-nil, ◌-◌, ◌==◌, ◌&&◌, add-zero}
use Rattle.std.proofs.lemmas.List.{reverse-append, take_more, get_or_default}
use Rattle.std.proofs.lemmas.List.Elements.{Contains-get_or}
use Rattle.std.proofs.lemmas.Bool.{cases_Bool, cases_lt, cases_eq, eq-eqb, and_from}
use Rattle.flow_base.specs.declared.types.Flow.{Flow}
use Rattle.reach_model.specs.declared.modes.Mode.TheVariants.{Full}
use Rattle.reach_model.specs.Flows.{source, target, place, IsLawful}
use Rattle.reach_model.specs.Sources.{touches, first_at}
use Rattle.reach_model.specs.Rows.{Row, firsts, Keeps}
use Rattle.reach_model.specs.Versions.{leaves, is_sealed, opened, version, LeavesOnce}
use Rattle.reach_model.proofs.FirstFlows.{touches_source, touched}
use Rattle.reach_model.proofs.Redundant.{full_parts, ascends}

-- the last flow at x after one more
last_push : (K : List Flow) (f : Flow) (x : ℕ) → first_at (reverse (K ++ f ∷ [])) x ≡ cond (touches f x) (Some f) (first_at (reverse K) x)
last_push K f x = ap (λ L. first_at L x) (reverse-append K (f ∷ []))

pub sealed_by : (K : List Flow) (f : Flow) (x : ℕ) → source f ≡ x → is_sealed (K ++ f ∷ []) x ≡ true
sealed_by K f x e = ap (λ o. leaves o x) (last_push K f x ∙ ap (λ b. cond b (Some f) (first_at (reverse K) x)) (touches_source f x e)) ∙ eq-eqb (source f) x e

-- a flow that does not enter x leaves it sealed
pub stays_sealed : (K : List Flow) (f : Flow) (x : ℕ) → is_sealed K x ≡ true → target f ≢ x → is_sealed (K ++ f ∷ []) x ≡ true
stays_sealed K f x s n = elim (cases_Bool (touches f x)) [
  | inl t ↦ elim (touched f x t) [ inl e ↦ sealed_by K f x e | inr e ↦ absurd (n e) ]
  | inr apart ↦ ap (λ o. leaves o x) (last_push K f x ∙ ap (λ b. cond b (Some f) (first_at (reverse K) x)) apart) ∙ s
]

pub opened_push : (done K : List Flow) (f : Flow) (x : ℕ) → opened done (K ++ f ∷ []) x ≡ opened done K x + cond ((target f == x) && is_sealed (done ++ K) x) 1 0
opened_push done [] f x = rw append-nil (omega arith)
opened_push done (g ∷ K) f x =
    let i = opened_push (done ++ g ∷ []) K f x in
    let e = ap {B = ℕ} (λ D. cond ((target f == x) && is_sealed D x) 1 0) (append_assoc done (g ∷ []) K) in
    omega (arith, i, e)

module _ (K : List Flow) (x : ℕ) where
  -- one more flow
  pub version_step : (n : ℕ) (d : Flow) → n < length K → version (take (n + 1) K) x ≡ version (take n K) x + cond ((target (get_or K n d) == x) && is_sealed (take n K) x) 1 0
  version_step n d h = ap (λ L. version L x) (take_more K n d h) ∙ opened_push [] (take n K) (get_or K n d) x

  -- from a sealed moment on: still sealed, or a version opened
  abbrev pub Grown : ℕ → ℕ → Type 0
  Grown i n = (version (take i K) x < version (take n K) x) ⊎ ((is_sealed (take n K) x ≡ true) × (version (take i K) x ≤ version (take n K) x))

  grows : (i n : ℕ) (d : Flow) → n < length K → Grown i n → Grown i (n + 1)
  grows i n d h (inl low) = inl (omega (arith, version_step n d h))
  grows i n d h (inr s) = elim (cases_eq (target (get_or K n d)) x) [
    | inl e ↦ let one : cond {A = ℕ} ((target (get_or K n d) == x) && is_sealed (take n K) x) 1 0 ≡ 1 = ap {B = ℕ} (λ b. cond b 1 0) (and_from _ _ (eq-eqb (target (get_or K n d)) x e) s.0) in
        inl (omega (arith, version_step n d h, s.1))
    | inr ne ↦ inr (subst (λ L. is_sealed L x ≡ true) (sym (take_more K n d h)) (stays_sealed (take n K) (get_or K n d) x s.0 ne), omega (arith, version_step n d h, s.1))
  ]

  -- from just after a flow that leaves x
  pub grown_from : (i : ℕ) (d : Flow) → i < length K → source (get_or K i d) ≡ x → (m : ℕ) → (i + 1) + m ≤ length K → Grown i ((i + 1) + m)
  grown_from i d h s zero l = inr (rw add-zero (subst (λ L. is_sealed L x ≡ true) (sym (take_more K i d h)) (sealed_by (take i K) (get_or K i d) x s)), rw add-zero (omega (arith, version_step i d h)))
  grown_from i d h s (suc m) l = let r = grows i ((i + 1) + m) d (omega arith) (grown_from i d h s m (omega arith)) in
      subst (Grown i) (omega arith) r

  -- and past a flow that enters it
  pub opened_by : (i n : ℕ) (d : Flow) → n < length K → target (get_or K n d) ≡ x → Grown i n → version (take i K) x < version (take (n + 1) K) x
  opened_by i n d h e (inl low) = omega (arith, version_step n d h)
  opened_by i n d h e (inr s) = let one : cond {A = ℕ} ((target (get_or K n d) == x) && is_sealed (take n K) x) 1 0 ≡ 1 = ap {B = ℕ} (λ b. cond b 1 0) (and_from _ _ (eq-eqb (target (get_or K n d)) x e) s.0) in
      omega (arith, version_step n d h, s.1)

  pub never_falls : (n m : ℕ) (d : Flow) → n + m ≤ length K → version (take n K) x ≤ version (take (n + m) K) x
  never_falls n zero d l = rw add-zero (omega arith)
  never_falls n (suc m) d l = let i = never_falls n m d (omega arith) in let s = version_step (n + m) d (omega arith) in
      let e : version (take ((n + m) + 1) K) x ≡ version (take (n + suc m) K) x = ap (λ k. version (take k K) x) (omega arith) in omega arith

pub full_leaves_once : {F : List Flow} {R : List Row} → IsLawful F → Keeps Full F R → LeavesOnce R
full_leaves_once {F} {R} l k i j d low hj same =
    let K = firsts R in
    let hi : i < length K = omega arith in
    let g = get_or K i d in
    let f = get_or K j d in
    let r = full_parts l k g f (Contains-get_or K i d hi) (Contains-get_or K j d hj) same (ascends l k i j d low hj) in
    let h = r.0 in
    let m = (r.1).0 in
    let hm : m < length K = (r.1).1 in
    let at : get_or K m d ≡ h = get_or_default K m d h hm ∙ (r.1).2 in
    let after : i < m = elim (cases_lt i m) [
      | inl ok ↦ ok
      | inr no_way ↦ absurd (elim (cases_eq m i) [
        | inl e ↦ omega (arith, r.3, ap place at, ap (λ n. place (get_or K n d)) e)
        | inr ne ↦ let a = ascends l k m i d (omega arith) hi in omega (arith, r.3, ap place at)
      ])
    ] in
    let ahead : m < j = elim (cases_lt m j) [
      | inl ok ↦ ok
      | inr no_way ↦ absurd (elim (cases_eq m j) [
        | inl e ↦ omega (arith, r.4, ap place at, ap (λ n. place (get_or K n d)) e)
        | inr ne ↦ let a = ascends l k j m d (omega arith) hm in omega (arith, r.4, ap place at)
      ])
    ] in
    let grown = grown_from K (source f) i d hi same.0 (m - (i + 1)) (omega arith) in
    let grown' : Grown K (source f) i m = subst (Grown K (source f) i) (omega arith) grown in
    let up = opened_by K (source f) i m d hm (ap target at ∙ r.2) grown' in
    let rest = never_falls K (source f) (m + 1) (j - (m + 1)) d (omega arith) in
    let e : version (take ((m + 1) + (j - (m + 1))) K) (source f) ≡ version (take j K) (source f) = ap (λ n. version (take n K) (source f)) (omega arith) in
    omega arith
