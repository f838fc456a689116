-- A flow leaves the current version of its source exactly where no flow into that source comes after it.
use Rattle.std.proofs.Common.{◌≡◌, ◌≢◌, ℕ, zero, suc, ◌+◌, ◌-◌, ◌<◌, ◌≤◌, ◌↔◌, List, length, get_or, take, cond, sym, ap, subst, ◌∙◌, arith, inl, inr, ◌==◌, add-zero}
use Rattle.std.proofs.lemmas.Bool.{ne_eqb, and_left, cases_eq}
use Rattle.flow_base.specs.declared.types.Flow.{Flow}
use Rattle.reach_model.specs.Flows.{source, target}
use Rattle.reach_model.specs.Versions.{is_sealed, version}
use Rattle.reach_model.proofs.VersionFacts.{version_step, grown_from, opened_by, never_falls, Grown}

module _ (K : List Flow) (x : ℕ) where
  -- no inflow, no new version
  quiet : (n m : ℕ) (d : Flow) → n + m ≤ length K → ((k : ℕ) → n ≤ k → k < n + m → target (get_or K k d) ≢ x) → version (take (n + m) K) x ≡ version (take n K) x
  quiet n zero d l h = ap (λ k. version (take k K) x) (add-zero n)
  quiet n (suc m) d l h =
      let i = quiet n m d (omega arith) (λ k a b. h k a (omega arith)) in
      let s = version_step K x (n + m) d (omega arith) in
      let z = ap {B = ℕ} (λ b. cond b 1 0) (and_left (target (get_or K (n + m) d) == x) (is_sealed (take (n + m) K) x) (ne_eqb (target (get_or K (n + m) d)) x (h (n + m) (omega arith) (omega arith)))) in
      let e : version (take (n + suc m) K) x ≡ version (take ((n + m) + 1) K) x = ap (λ k. version (take k K) x) (omega arith) in
      omega arith

  -- flow i, which leaves x, against the end j
  pub current : (i j : ℕ) (d : Flow) → i < j → j ≤ length K → source (get_or K i d) ≡ x → target (get_or K i d) ≢ x
      → (version (take i K) x ≡ version (take j K) x) ↔ ((k : ℕ) → i < k → k < j → target (get_or K k d) ≢ x)
  current i j d low hj s own = (
    λ same k a b e.
        let g = grown_from K x i d (omega arith) s (k - (i + 1)) (omega arith) in
        let g' : Grown K x i k = subst (Grown K x i) (omega arith) g in
        let up = opened_by K x i k d (omega arith) e g' in
        let rest = never_falls K x (k + 1) (j - (k + 1)) d (omega arith) in
        let at : version (take ((k + 1) + (j - (k + 1))) K) x ≡ version (take j K) x = ap (λ n. version (take n K) x) (omega arith) in
        omega arith,
    λ none.
        let q = quiet i (j - i) d (omega arith) (λ k a b e. elim (cases_eq k i) [
          | inl here ↦ own (subst (λ n. target (get_or K n d) ≡ x) here e)
          | inr there ↦ none k (omega arith) (omega arith) e
        ]) in
        sym q ∙ ap (λ n. version (take n K) x) (omega arith),
  )
