-- Blocks by their bits.
use Rattle.std.proofs.Common.{◌≡◌, ℕ, ◌+◌, ◌*◌, ◌/◌, ◌%◌, ◌^◌, ◌<◌, ◌≤◌, ◌↔◌, ◌⊎◌, max, List, length, get_or, set, sym, ap, subst, ◌∙◌, arith, inl, inr, bit_or}
use Rattle.std.specs.Int.{bit_at}
use Rattle.std.proofs.lemmas.Bool.{cases_lt, cases_eq}
use Rattle.std.proofs.lemmas.List.{get_or_past}
use Rattle.std.proofs.lemmas.Nat.Bits.{bit_at_or, bit_at-zero, bit_at-lt}
use Rattle.reduce_source.specs.BitsOf.{HasBit}
use Rattle.reduce_source.proofs.Bits.{mark_bits}
use Rattle.reduce_source.proofs.Numbers.{place_of, bit_of}

-- no bit stands past the words
pub none_past : (words : List ℕ) (j : ℕ) → length words ≤ j / 64 → ¬ HasBit words j
none_past words j h one =
    let gone : bit_at (get_or words (j / 64) 0) (j % 64) ≡ 0 = ap (λ n. bit_at n (j % 64)) (get_or_past words (j / 64) 0 h) ∙ bit_at-zero (j % 64) in
    let clash : 0 ≡ 1 = sym gone ∙ one in
    absurd (omega (arith, clash))

-- the greater of two bits is set where one of them is
either : (a b c : ℕ) → a ≡ max b c → b < 2 → c < 2 → (a ≡ 1) ↔ ((b ≡ 1) ⊎ (c ≡ 1))
either a b c m hb hc = (
  λ t. elim (cases_eq b 1) [ inl o ↦ inl o | inr n ↦ inr (omega arith) ],
  λ o. elim o [ inl t ↦ omega arith | inr t ↦ omega arith ],
)

-- two blocks, joined word by word
pub joined : (a b c : List ℕ) → length a ≡ 8 → length b ≡ 8 → length c ≡ 8 → ((k : ℕ) → k < 8 → get_or c k 0 ≡ bit_or (get_or a k 0) (get_or b k 0))
    → (j : ℕ) → HasBit c j ↔ (HasBit a j ⊎ HasBit b j)
joined a b c la lb lc each j = elim (cases_lt (j / 64) 8) [
  | inl low ↦
      let k = j / 64 in
      let i = j % 64 in
      either (bit_at (get_or c k 0) i) (bit_at (get_or a k 0) i) (bit_at (get_or b k 0) i)
      (ap (λ n. bit_at n i) (each k low) ∙ bit_at_or (get_or a k 0) (get_or b k 0) i) (bit_at-lt (get_or a k 0) i) (bit_at-lt (get_or b k 0) i)
  | inr high ↦ (
    λ t. absurd (none_past c j (omega (arith, high, lc)) t),
    λ o. elim o [ inl t ↦ absurd (none_past a j (omega (arith, high, la)) t) | inr t ↦ absurd (none_past b j (omega (arith, high, lb)) t) ],
  )
]

-- a place and a bit of it are one bit
one_place : (j bit : ℕ) → j / 64 ≡ bit / 64 → j % 64 ≡ bit % 64 → j ≡ bit
one_place j bit a b = omega arith

-- a block that takes one bit in
pub marked : (words : List ℕ) (x bit : ℕ) → length words ≡ 8 → bit < 512 → x ≡ get_or words (bit / 64) x → (j : ℕ)
    → HasBit (set words (bit / 64) (bit_or x (1 * 2 ^ (bit % 64) % 18446744073709551616))) j ↔ (HasBit words j ⊎ (j ≡ bit))
marked words x bit len h e j =
    let r = mark_bits words (bit / 64) x (bit % 64) (omega arith) (omega arith) e (j / 64) (j % 64) in (
      λ t. elim (r.0 t) [ inl o ↦ inl o | inr p ↦ inr (one_place j bit p.0 p.1) ],
      λ o. r.1 (elim o [ inl t ↦ inl t | inr s ↦ inr (ap (λ n. n / 64) s, ap (λ n. n % 64) s) ]),
    )

-- a bit of a word of a block
pub word_bit : (words : List ℕ) (k j : ℕ) → j < 64 → bit_at (get_or words k 0) j ≡ 1 ↔ HasBit words (64 * k + j)
word_bit words k j h =
    let a = place_of k j h in
    let b = bit_of k j h in (
      λ t. subst (λ i. bit_at (get_or words i 0) ((64 * k + j) % 64) ≡ 1) (sym a) (subst (λ i. bit_at (get_or words k 0) i ≡ 1) (sym b) t),
      λ t. subst (λ i. bit_at (get_or words k 0) i ≡ 1) b (subst (λ i. bit_at (get_or words i 0) ((64 * k + j) % 64) ≡ 1) a t),
    )
