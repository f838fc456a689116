-- Two ascending lists with the same members are one.
use Rattle.std.proofs.Common.{◌≡◌, ℕ, suc, ◌<◌, ◌↔◌, List, [], ◌∷◌, map, refl, sym, ap, ◌∙◌, arith, inl, inr}
use Rattle.std.specs.List.{Contains}
use Rattle.std.proofs.lemmas.List.{get_or_default}
use Rattle.flow_base.specs.declared.types.EntityId.{EntityId}
use Rattle.reach_model.specs.Ids.{IsAscending, numbers}
use Rattle.reach_model.proofs.Members.{Contains-cons_cases}

first : (xs : List ℕ) (x : ℕ) → Contains (x ∷ xs) x
first xs x = (0, omega arith, refl)

later : (xs : List ℕ) (x u : ℕ) → Contains xs u → Contains (x ∷ xs) u
later xs x u c = (suc c.0, omega (arith, c.1), c.2)

ascending_tail : (xs : List ℕ) (x : ℕ) → IsAscending (x ∷ xs) → IsAscending xs
ascending_tail xs x a j k h hk = a (suc j) (suc k) (omega (arith, h)) (omega (arith, hk))

-- the first number is below the others
head_below : (xs : List ℕ) (x u : ℕ) → IsAscending (x ∷ xs) → Contains xs u → x < u
head_below xs x u a c = let low = a 0 (suc c.0) (omega arith) (omega (arith, c.1)) in
    rw (get_or_default xs c.0 0 u c.1 ∙ c.2) at low

pub same_numbers : (xs ys : List ℕ) → IsAscending xs → IsAscending ys → ((u : ℕ) → Contains xs u ↔ Contains ys u) → xs ≡ ys
same_numbers [] [] a b h = refl
same_numbers [] (y ∷ ys) a b h = let c = (h y).1 (first ys y) in absurd (omega (arith, c.1))
same_numbers (x ∷ xs) [] a b h = let c = (h x).0 (first xs x) in absurd (omega (arith, c.1))
same_numbers (x ∷ xs) (y ∷ ys) a b h =
    let heads : x ≡ y = elim (Contains-cons_cases ys y x ((h x).0 (first xs x))) [
      | inl e ↦ sym e
      | inr c ↦ elim (Contains-cons_cases xs x y ((h y).1 (first ys y))) [
        | inl e ↦ e
        | inr d ↦ absurd (omega (arith, head_below ys y x b c, head_below xs x y a d))
      ]
    ] in
    let tails = same_numbers xs ys (ascending_tail xs x a) (ascending_tail ys y b) (λ u. (
      λ c. elim (Contains-cons_cases ys y u ((h u).0 (later xs x u c))) [ inl e ↦ absurd (omega (arith, head_below xs x u a c, heads, e)) | inr d ↦ d ],
      λ c. elim (Contains-cons_cases xs x u ((h u).1 (later ys y u c))) [ inl e ↦ absurd (omega (arith, head_below ys y u b c, heads, e)) | inr d ↦ d ],
    )) in
    ap (λ z. z ∷ xs) heads ∙ ap (λ zs. y ∷ zs) tails

ids_of : (ids : List EntityId) → map (λ n. record { 0 = n }) (numbers ids) ≡ ids
ids_of [] = refl
ids_of (i ∷ ids) = ap (λ rest. i ∷ rest) (ids_of ids)

pub same_ids : (a b : List EntityId) → IsAscending (numbers a) → IsAscending (numbers b) → ((u : ℕ) → Contains (numbers a) u ↔ Contains (numbers b) u) → a ≡ b
same_ids a b up_a up_b h = sym (ids_of a) ∙ ap (map (λ n. record { 0 = n })) (same_numbers (numbers a) (numbers b) up_a up_b h) ∙ ids_of b
