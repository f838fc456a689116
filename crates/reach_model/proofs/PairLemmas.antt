-- Pairs of numbers that are one or two.
use Rattle.std.proofs.Common.{◌≡◌, ℕ, false, ◌&&◌, ◌⊎◌, refl, inl, inr}
use Rattle.std.specs.Prelude.{nat_eq}
use Rattle.std.proofs.lemmas.Bool.{cases_Bool, cases_eq, eqb-true}

-- a pair of numbers is another one, or isn't
pub pair_cases : (a b u v : ℕ) → ((a ≡ u) × (b ≡ v)) ⊎ ¬ ((a ≡ u) × (b ≡ v))
pair_cases a b u v = elim (cases_eq a u) [
  | inl e ↦ elim (cases_eq b v) [ inl e' ↦ inl (e, e') | inr n ↦ inr (λ p. n p.1) ]
  | inr n ↦ inr (λ p. n p.0)
]

-- and then a table takes it for another one
pub pairs_apart : (a b u v : ℕ) → ¬ ((a ≡ u) × (b ≡ v)) → (nat_eq a u && nat_eq b v) ≡ false
pairs_apart a b u v n = elim (cases_Bool (nat_eq a u)) [
  | inl t ↦ rw t (elim (cases_Bool (nat_eq b v)) [ inl t' ↦ absurd (n (eqb-true a u t, eqb-true b v t')) | inr f ↦ f ])
  | inr f ↦ rw f refl
]
