-- Words by their bits.
use Rattle.std.proofs.Common.{◌≡◌, ◌≢◌, ℕ, ◌-◌, ◌*◌, ◌%◌, ◌^◌, ◌<◌, ◌≤◌, ◌↔◌, ◌⊎◌, min, List, length, get_or, set, true, false, sym, ap, ◌∙◌, arith, inl, inr, bit_and, bit_or, w64}
use Rattle.std.specs.Prelude.{nat_eq}
use Rattle.std.specs.Int.{bit_at, bit_not}
use Rattle.std.proofs.lemmas.Bool.{cases_eq, eqb-true, eqb-false}
use Rattle.std.proofs.lemmas.List.{get_or_default, get_or-set_same, get_or-set_other}
use Rattle.std.proofs.lemmas.Nat.{and_le_l}
use Rattle.std.proofs.lemmas.Nat.Bits.{bit_at_and, bit_at_not, bit_at-zero, bit_at-lt, bit_at_set_same, bit_at_set_other, bit_at-trailing_zeros}

-- the word at a place has a bit
abbrev pub HasBitAt : List ℕ → ℕ → ℕ → Type 0
HasBitAt words place bit = bit_at (get_or words place 0) bit ≡ 1

-- a word that takes one bit in
pub mark_bits : (words : List ℕ) (object x bit : ℕ) → object < length words → bit < 64 → x ≡ get_or words object x → (v j : ℕ)
    → HasBitAt (set words object (bit_or x (1 * 2 ^ bit % 18446744073709551616))) v j ↔ (HasBitAt words v j ⊎ ((v ≡ object) × (j ≡ bit)))
mark_bits words object x bit h low e v j =
    let w = bit_or x (1 * 2 ^ bit % 18446744073709551616) in
    elim (cases_eq v object) [
      | inl s ↦
          let old : get_or words v 0 ≡ x = ap (λ i. get_or words i 0) s ∙ get_or_default words object 0 x h ∙ sym e in
          let new : get_or (set words object w) v 0 ≡ w = ap (λ i. get_or (set words object w) i 0) s ∙ get_or-set_same words object w 0 h in
          elim (cases_eq j bit) [
            | inl b ↦
                let one : bit_at (get_or (set words object w) v 0) j ≡ 1 = ap (λ n. bit_at n j) new ∙ ap (bit_at w) b ∙ bit_at_set_same w64 x bit low in
                (λ t. inr (s, b), λ o. one)
            | inr n ↦
                let same : bit_at (get_or (set words object w) v 0) j ≡ bit_at (get_or words v 0) j =
                ap (λ n. bit_at n j) new ∙ bit_at_set_other w64 x bit low j n ∙ ap (λ n. bit_at n j) (sym old) in
                (λ t. inl (sym same ∙ t), λ o. elim o [ inl t ↦ same ∙ t | inr p ↦ absurd (n p.1) ])
          ]
      | inr n ↦
          let same : bit_at (get_or (set words object w) v 0) j ≡ bit_at (get_or words v 0) j = ap (λ n. bit_at n j) (get_or-set_other words object v w 0 n) in
          (λ t. inl (sym same ∙ t), λ o. elim o [ inl t ↦ same ∙ t | inr p ↦ absurd (n p.0) ])
    ]

-- no bit of a is missing in b
pub none_missing : (a b : ℕ) → b < 2 ^ 64 → nat_eq (bit_and a (18446744073709551615 - b)) 0 ≡ true → (j : ℕ) → j < 64 → bit_at a j ≡ 1 → bit_at b j ≡ 1
none_missing a b hb t j hj one =
    let gone : min (bit_at a j) (bit_at (bit_not w64 b) j) ≡ 0 = sym (bit_at_and a (bit_not w64 b) j) ∙ ap (λ n. bit_at n j) (eqb-true (bit_and a (bit_not w64 b)) 0 t) ∙ bit_at-zero j in
    let turned : bit_at (bit_not w64 b) j ≡ 1 - bit_at b j = bit_at_not w64 b j hb hj in
    let low : bit_at b j < 2 = bit_at-lt b j in
    omega arith

-- some bit of a is missing in b
pub one_missing : (a b : ℕ) → a < 2 ^ 64 → b < 2 ^ 64 → nat_eq (bit_and a (18446744073709551615 - b)) 0 ≡ false → (j : ℕ) × (j < 64) × (bit_at a j ≡ 1) × (bit_at b j ≢ 1)
one_missing a b ha hb f =
    let n = bit_and a (bit_not w64 b) in
    let some : 0 < n = above n (eqb-false n 0 f) in
    let fits : n < 2 ^ 64 = below n a (and_le_l a (bit_not w64 b)) ha in
    let t = bit_at-trailing_zeros w64 n some fits in
    let r = found _ t.0 t.1 in
    (_, t.0, r.0, r.1)
  where
    above : (n : ℕ) → n ≢ 0 → 0 < n
    above n e = omega arith

    below : (n a : ℕ) → n ≤ a → a < 2 ^ 64 → n < 2 ^ 64
    below n a h k = omega arith

    found : (j : ℕ) → j < 64 → bit_at (bit_and a (bit_not w64 b)) j ≡ 1 → (bit_at a j ≡ 1) × (bit_at b j ≢ 1)
    found j h one =
        let both : min (bit_at a j) (bit_at (bit_not w64 b) j) ≡ 1 = sym (bit_at_and a (bit_not w64 b) j) ∙ one in
        let turned : bit_at (bit_not w64 b) j ≡ 1 - bit_at b j = bit_at_not w64 b j hb h in
        let low : bit_at a j < 2 = bit_at-lt a j in
        (omega arith, λ e. absurd (omega arith))
