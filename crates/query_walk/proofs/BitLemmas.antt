-- Bits in words of 64.
use Rattle.std.proofs.Common.{◌≡◌, ℕ, ◌+◌, ◌-◌, ◌*◌, ◌/◌, ◌%◌, ◌^◌, ◌<◌, ◌≤◌, ◌↔◌, List, length, get_or, set, Option, Some, None, sym, ap, ◌∙◌, arith, ◌⊎◌, inl, inr, w64}
use Rattle.std.specs.Prelude.{bit_or}
use Rattle.std.specs.Option.{IfSome, IfNone}
use Rattle.std.specs.Int.{bit_at, trailing_zeros}
use Rattle.std.proofs.lemmas.Bool.{cases_eq, cases_lt}
use Rattle.std.proofs.lemmas.List.{get_or-set_same, get_or-set_other, get_or_past}
use Rattle.std.proofs.lemmas.Nat.{shr-shr}
use Rattle.std.proofs.lemmas.Nat.Bits.{bit_at-zero, bit_at_above, bit_at-trailing_zeros, bit_at_set_same, bit_at_set_other}
use Rattle.query_walk.specs.Bits.{IsSet, IsFirstSet}

-- one place more is set
pub set_more : (words : List ℕ) (place : ℕ) → place / 64 < length words → (p : ℕ)
    → IsSet (set words (place / 64) (bit_or (get_or words (place / 64) 0) (1 * 2 ^ (place % 64) % 2 ^ 64))) p ↔ (IsSet words p ⊎ (p ≡ place))
set_more words place h p =
    let w = place / 64 in
    let k = place % 64 in
    let old = get_or words w 0 in
    let new = bit_or old (1 * 2 ^ k % 2 ^ 64) in
    let low : k < 64 = omega arith in
    elim (cases_eq (p / 64) w) [
      | inl e ↦
          let there : get_or (set words w new) (p / 64) 0 ≡ new = ap (λ i. get_or (set words w new) i 0) e ∙ get_or-set_same words w new 0 h in
          let was : get_or words (p / 64) 0 ≡ old = ap (λ i. get_or words i 0) e in
          let now : bit_at (get_or (set words w new) (p / 64) 0) (p % 64) ≡ bit_at new (p % 64) = ap (λ x. bit_at x (p % 64)) there in
          let before : bit_at (get_or words (p / 64) 0) (p % 64) ≡ bit_at old (p % 64) = ap (λ x. bit_at x (p % 64)) was in
          elim (cases_eq (p % 64) k) [
            | inl same ↦
                let one : bit_at new (p % 64) ≡ 1 = ap (bit_at new) same ∙ bit_at_set_same w64 old k low in
                let is : p ≡ place = omega (arith, e, same) in
                (λ s. inr is, λ s. now ∙ one)
            | inr apart ↦
                let kept : bit_at new (p % 64) ≡ bit_at old (p % 64) = bit_at_set_other w64 old k low (p % 64) apart in (
                  λ s. inl (before ∙ sym kept ∙ sym now ∙ s),
                  λ s. elim s [ inl old_set ↦ now ∙ kept ∙ sym before ∙ old_set | inr is ↦ absurd (apart (ap (λ x. x % 64) is)) ],
                )
          ]
      | inr apart ↦
          let kept : get_or (set words w new) (p / 64) 0 ≡ get_or words (p / 64) 0 = get_or-set_other words w (p / 64) new 0 apart in
          let same : bit_at (get_or (set words w new) (p / 64) 0) (p % 64) ≡ bit_at (get_or words (p / 64) 0) (p % 64) = ap (λ x. bit_at x (p % 64)) kept in (
            λ s. inl (sym same ∙ s),
            λ s. elim s [ inl old_set ↦ same ∙ old_set | inr is ↦ absurd (apart (ap (λ x. x / 64) is)) ],
          )
    ]

-- in words of zeros no place is set
pub none_of_zero : (words : List ℕ) (p : ℕ) → get_or words (p / 64) 0 ≡ 0 → ¬ IsSet words p
none_of_zero words p zero s = let z = ap (λ x. bit_at x (p % 64)) zero ∙ bit_at-zero (p % 64) in absurd (omega (arith, z, s))

-- nor is one past the words
pub none_past : (words : List ℕ) (p : ℕ) → length words ≤ p / 64 → ¬ IsSet words p
none_past words p h = none_of_zero words p (get_or_past words (p / 64) 0 h)

-- the bits of a word from one on
module _ (words : List ℕ) (w k rest : ℕ) (low : k < 64) (fits : get_or words w 0 < 2 ^ 64) (is : rest ≡ get_or words w 0 / 2 ^ k) where
  shifted : (i : ℕ) → bit_at rest i ≡ bit_at (get_or words w 0) (k + i)
  shifted i = ap (λ x. bit_at x i) is ∙ ap (λ x. x % 2) (shr-shr (get_or words w 0) k i)

  at_place : (i p : ℕ) → k + i < 64 → p ≡ 64 * w + k + i → bit_at (get_or words (p / 64) 0) (p % 64) ≡ bit_at rest i
  at_place i p h e =
      let in_word : p / 64 ≡ w = omega arith in
      let bit : p % 64 ≡ k + i = omega arith in
      ap (λ x. bit_at (get_or words x 0) (p % 64)) in_word ∙ ap (bit_at (get_or words w 0)) bit ∙ sym (shifted i)

  -- of which some is set
  pub inside : 0 < rest → rest < 2 ^ 64 → k + trailing_zeros w64 rest < 64
  inside some small =
      let b = bit_at-trailing_zeros w64 rest some small in
      let one : bit_at (get_or words w 0) (k + trailing_zeros w64 rest) ≡ 1 = sym (shifted (trailing_zeros w64 rest)) ∙ b.1 in
      elim (cases_lt (k + trailing_zeros w64 rest) 64) [
        | inl under ↦ under
        | inr over ↦ let z = bit_at_above (get_or words w 0) 64 (k + trailing_zeros w64 rest) fits over in absurd (omega (arith, z, one))
      ]

  -- and none is from a place up to them
  pub first_of_rest : (from place : ℕ) → 0 < rest → rest < 2 ^ 64 → from ≤ 64 * w + k → ((p : ℕ) → from ≤ p → p < 64 * w + k → ¬ IsSet words p)
      → place ≡ 64 * w + k + trailing_zeros w64 rest → IsFirstSet words from place
  first_of_rest from place some small begin none e =
      let t = trailing_zeros w64 rest in
      let b = bit_at-trailing_zeros w64 rest some small in
      let within : k + t < 64 = inside some small in
      record {
        low = omega (arith, begin, e);
        set = at_place t place within e ∙ b.1;
        first = λ p start s. elim (cases_lt p (64 * w + k)) [
          | inl before ↦ absurd (none p start before s)
          | inr there ↦ elim (cases_lt p place) [
            | inl early ↦
                let i : ℕ = p - (64 * w + k) in
                let at : p ≡ 64 * w + k + i = omega arith in
                let under : i < t = omega (arith, early, e, at) in
                let same = at_place i p (omega (arith, under, within)) at in
                absurd (omega (arith, same, b.2 i under, s))
            | inr late ↦ late
          ]
        ];
      }

  -- of which none is set
  pub none_in_rest : rest ≡ 0 → (p : ℕ) → 64 * w + k ≤ p → p < 64 * w + 64 → ¬ IsSet words p
  none_in_rest zero p from high s =
      let i : ℕ = p - (64 * w + k) in
      let at : p ≡ 64 * w + k + i = omega arith in
      let same = at_place i p (omega (arith, at, high)) at in
      let none : bit_at rest i ≡ 0 = ap (λ x. bit_at x i) zero ∙ bit_at-zero i in
      absurd (omega (arith, same, none, s))

-- the first place that is set from one on is so from an earlier one on, if none between them is set
pub first_earlier : (words : List ℕ) (from start place : ℕ) → from ≤ start → ((p : ℕ) → from ≤ p → p < start → ¬ IsSet words p) → IsFirstSet words start place → IsFirstSet words from place
first_earlier words from start place h none f = record {
  low = omega (arith, h, f.low);
  set = f.set;
  first = λ p begin s. elim (cases_lt p start) [ inl before ↦ absurd (none p begin before s) | inr there ↦ f.first p there s ];
}

-- the same of what is found, or not found
module _ (words : List ℕ) (from start : ℕ) (h : from ≤ start) (none : (p : ℕ) → from ≤ p → p < start → ¬ IsSet words p) where
  pub some_earlier : (found : Option ℕ) → IfSome found (IsFirstSet words start) → IfSome found (IsFirstSet words from)
  some_earlier None f = tt
  some_earlier (Some place) f = first_earlier words from start place h none f

  pub none_earlier : (found : Option ℕ) → IfNone found ((p : ℕ) → start ≤ p → ¬ IsSet words p) → IfNone found ((p : ℕ) → from ≤ p → ¬ IsSet words p)
  none_earlier None f = λ p begin s. elim (cases_lt p start) [ inl before ↦ none p begin before s | inr there ↦ f p there s ]
  none_earlier (Some place) f = tt
