-- What a heap holds after a push and after a pop.
use Rattle.std.proofs.Common.{◌≡◌, suc, List, ◌∷◌, arith, ◌⊎◌, refl, IsPermutation}
use Rattle.std.specs.List.{Contains}
use Rattle.std.proofs.lemmas.List.Sorted.{Contains-permutation, IsPermutation-sym}
use Rattle.reach_model.proofs.Members.{Contains-cons_cases}

pub Contains-cons : {X : Type 0} (xs : List X) (x y : X) → Contains xs y → Contains (x ∷ xs) y
Contains-cons xs x y c = (suc c.0, omega (arith, c.1), c.2)

pub Contains-first : {X : Type 0} (xs : List X) (x : X) → Contains (x ∷ xs) x
Contains-first xs x = (0, omega arith, refl)

-- what was popped, and what is left
pub popped : {X : Type 0} (old new : List X) (x y : X) → IsPermutation old (x ∷ new) → Contains old y → (x ≡ y) ⊎ Contains new y
popped old new x y perm c = Contains-cons_cases new x y (Contains-permutation old (x ∷ new) y perm c)

pub left_was_there : {X : Type 0} (old new : List X) (x y : X) → IsPermutation old (x ∷ new) → Contains new y → Contains old y
left_was_there old new x y perm c = Contains-permutation (x ∷ new) old y (IsPermutation-sym old (x ∷ new) perm) (Contains-cons new x y c)
