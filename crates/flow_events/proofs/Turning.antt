-- Lists that are turned round.
use Rattle.std.proofs.Common.{◌≡◌, ◌≤◌, List, [], ◌∷◌, length, reverse, refl, arith}

-- a list of at most one item is the same when it is turned
pub few_turned : {A : Type 0} → (xs : List A) → length xs ≤ 1 → xs ≡ reverse xs
few_turned [] few = refl
few_turned (x ∷ []) few = refl
few_turned (x ∷ y ∷ xs) few = absurd (omega (arith, few))
