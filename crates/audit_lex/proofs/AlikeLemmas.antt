-- Two texts that are compared lane by lane.
use Rattle.std.proofs.Common.{◌≡◌, ℕ, ◌+◌, ◌≤◌, ◌%◌, ◌^◌, ◌∙◌, Bool, true, false, not, cond, eqb, List, [], ◌∷◌, length, map, take, refl, sym, ap, ap₂, subst, arith, suc, zero, inl, inr, w8}
use lib.Count.{count_trailing_zeros}
use Rattle.std.proofs.lemmas.Bool.{eqb-true, cases_lt}
use Rattle.std.proofs.lemmas.List.{map-id}
use Rattle.std.proofs.lemmas.Simd.{tops_compared, mask_l-mod, leading_from_mask_l, trailing_mask_l, length-zip2}
use Rattle.std.specs.List.{prefix_len}
use Rattle.std.specs.Simd.Lanes.{zip2, mask_l, top}

-- whether two bytes differ
abbrev pub differ : ℕ → ℕ → Bool
differ a b = not (eqb a b)

one_more : (same : Bool) (x y n : ℕ) (xs ys : List ℕ) → (same ≡ true → x ≡ y) → (n ≤ prefix_len not (zip2 differ xs ys) → take n xs ≡ take n ys)
    → suc n ≤ cond (not (not same)) (1 + prefix_len not (zip2 differ xs ys)) 0 → take (suc n) (x ∷ xs) ≡ take (suc n) (y ∷ ys)
one_more true x y n xs ys is rest low = ap₂ (λ a b. a ∷ b) (is refl) (rest (omega (arith, low)))
one_more false x y n xs ys is rest low = absurd (omega (arith, low))

-- as many bytes are the same as come before the first pair that differs
alike_before : (xs ys : List ℕ) (n : ℕ) → length xs ≡ length ys → n ≤ prefix_len not (zip2 differ xs ys) → take n xs ≡ take n ys
alike_before xs ys zero long low = refl
alike_before [] [] (suc n) long low = refl
alike_before [] (y ∷ ys) (suc n) long low = absurd (omega (arith, long))
alike_before (x ∷ xs) [] (suc n) long low = absurd (omega (arith, long))
alike_before (x ∷ xs) (y ∷ ys) (suc n) long low = one_more (eqb x y) x y n xs ys (eqb-true x y) (λ more. alike_before xs ys n (omega (arith, long)) more) low

-- as many bytes are the same as the mask of those that differ has zeros at its end
pub alike_by_mask : (xs ys : List ℕ) (n : ℕ) → length xs ≡ 32 → length ys ≡ 32 → n ≤ 32
    → n ≤ count_trailing_zeros 64 (mask_l (map (top 7) (zip2 (λ a b. cond (differ a b) 255 0) xs ys)) % 2 ^ 64) → take n xs ≡ take n ys
alike_by_mask xs ys n long_xs long_ys few low =
    let marks = zip2 differ xs ys in
    let long : length marks ≡ 32 = length-zip2 differ xs ys (long_xs ∙ sym long_ys) ∙ long_xs in
    let is : mask_l (map (top 7) (zip2 (λ a b. cond (differ a b) 255 0) xs ys)) % 2 ^ 64 ≡ mask_l (map (λ b. b) marks) =
    ap (λ m. mask_l m % 2 ^ 64) (tops_compared w8 differ xs ys) ∙ mask_l-mod marks 64 (omega (arith, long)) ∙ ap mask_l (sym (map-id marks)) in
    let zeros : n ≤ count_trailing_zeros 64 (mask_l (map (λ b. b) marks)) = subst (λ m. n ≤ count_trailing_zeros 64 m) is low in
    alike_before xs ys n (long_xs ∙ sym long_ys) (elim (cases_lt 0 (mask_l (map (λ b. b) marks))) [
      | inl some ↦ let first = trailing_mask_l (λ b. b) 64 marks (omega (arith, long)) some in omega (arith, zeros, first)
      | inr none ↦ let all = leading_from_mask_l (λ b. b) marks (omega (arith, none)) in omega (arith, all, long, few)
    ])
