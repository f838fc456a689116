-- Members of a list, also after `map` and after a write.
use Rattle.std.proofs.Common.{◌≡◌, ℕ, zero, suc, ◌<◌, List, [], ◌∷◌, length, get_or, set, map, sym, ap, ◌∙◌, arith, ◌⊎◌, inl, inr, subst}
use Rattle.std.specs.List.{Contains}
use Rattle.std.proofs.lemmas.List.{get_or_default, get_or-map, length-map, length-set, get_or-set_same, get_or-set_other}
use Rattle.std.proofs.lemmas.Bool.{cases_eq}

-- a member is the first item or one of the rest
pub Contains-cons_cases : {X : Type 0} (xs : List X) (x y : X) → Contains (x ∷ xs) y → (x ≡ y) ⊎ Contains xs y
Contains-cons_cases xs x y (zero, h, e) = inl e
Contains-cons_cases xs x y (suc k, h, e) = inr (k, omega (arith, h), e)

module _ {X Y : Type 0} (f : X → Y) where
  pub Contains-map : (xs : List X) (x : X) → Contains xs x → Contains (map f xs) (f x)
  Contains-map xs x c = (c.0, simp length-map c.1, get_or-map f xs c.0 x (f x) c.1 ∙ ap f c.2)

  pub from_map : (xs : List X) (y : Y) → Contains (map f xs) y → (x : X) × Contains xs x × (f x ≡ y)
  from_map [] y c = absurd (omega (arith, c.1))
  from_map (x ∷ xs) y c =
      let low : c.0 < length (x ∷ xs) = simp length-map at c.1 in (
        get_or (x ∷ xs) c.0 x,
        (c.0, low, get_or_default (x ∷ xs) c.0 (get_or (x ∷ xs) c.0 x) x low),
        sym (get_or-map f (x ∷ xs) c.0 x y low) ∙ c.2,
      )

-- what a list still has after a write
pub Contains-set : {X : Type 0} (xs : List X) (i : ℕ) (y x : X) → Contains xs x → Contains (set xs i y) x ⊎ ((i < length xs) × (get_or xs i x ≡ x))
Contains-set xs i y x c = elim (cases_eq c.0 i) [
  | inl e ↦ inr (subst (λ k. k < length xs) e c.1, subst (λ k. get_or xs k x ≡ x) e c.2)
  | inr n ↦ inl (c.0, simp length-set c.1, get_or-set_other xs i c.0 y x n ∙ c.2)
]

pub Contains-set_same : {X : Type 0} (xs : List X) (i : ℕ) (y : X) → i < length xs → Contains (set xs i y) y
Contains-set_same xs i y h = (i, simp length-set h, get_or-set_same xs i y y h)
