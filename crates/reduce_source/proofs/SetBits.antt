-- The numbers of a set, by its pages and blocks.
use Rattle.std.proofs.Common.{◌≡◌, ◌⊎◌, ◌↔◌, ℕ, ◌+◌, ◌*◌, ◌/◌, ◌%◌, ◌<◌, ◌≤◌, List, [], length, get_or, set, sym, ap, subst, ◌∙◌, arith, inl, inr}
use Rattle.std.proofs.lemmas.Bool.{cases_eq, cases_lt}
use Rattle.std.proofs.lemmas.List.{get_or_past}
use Rattle.reduce_source.specs.BitsOf.{HasBit}
use Rattle.reduce_source.specs.Blocks.{words_of}
use Rattle.reduce_source.specs.Pools.{AreHeldIn, ReplacesPage, Has, words_on, words_at}
use Rattle.reduce_source.specs.declared.pools.Pools.{Pools}
use Rattle.reduce_source.proofs.BlockBits.{none_past}
use Rattle.reduce_source.proofs.Pooling.{words_aside, words_there, words_before}

block_place : (page place j : ℕ) → place < 16 → j < 512 → (8192 * page + 512 * place + j) / 512 ≡ 16 * page + place
block_place page place j low h = omega (arith, low, h)

block_bit : (page place j : ℕ) → j < 512 → (8192 * page + 512 * place + j) % 512 ≡ j
block_bit page place j h = omega (arith, h)

words_place : (pools : Pools) (list : List ℕ) (page place : ℕ) → place < 16 → words_at pools list (16 * page + place) ≡ words_on pools (get_or list page 0) place
words_place pools list page place low =
    let p : (16 * page + place) / 16 ≡ page = omega (arith, low) in
    let r : (16 * page + place) % 16 ≡ place = omega (arith, low) in
    ap (λ i. words_on pools (get_or list i 0) ((16 * page + place) % 16)) p ∙ ap (words_on pools (get_or list page 0)) r

-- a bit of the block at a place of a page is a number of the set
pub number_at : (pools : Pools) (list : List ℕ) (page place j : ℕ) → place < 16 → j < 512 → HasBit (words_on pools (get_or list page 0) place) j ↔ Has pools list (8192 * page + 512 * place + j)
number_at pools list page place j low h =
    let k = (8192 * page + 512 * place + j) / 512 in
    let w : words_at pools list k ≡ words_on pools (get_or list page 0) place = ap (words_at pools list) (block_place page place j low h) ∙ words_place pools list page place low in
    let b = block_bit page place j h in (
      λ t. subst (HasBit (words_at pools list k)) (sym b) (subst (λ words. HasBit words j) (sym w) t),
      λ t. subst (λ words. HasBit words j) w (subst (HasBit (words_at pools list k)) b t),
    )

-- the bits of two blocks in those of a third, with the same words
pub same_bits : (j : ℕ) (a b c a2 b2 c2 : List ℕ) → a2 ≡ a → b2 ≡ b → c2 ≡ c → (HasBit a j ↔ (HasBit b j ⊎ HasBit c j)) → HasBit a2 j ↔ (HasBit b2 j ⊎ HasBit c2 j)
same_bits j a b c a2 b2 c2 ea eb ec h = (
  λ t. elim (h.0 (subst (λ w. HasBit w j) ea t)) [ inl o ↦ inl (subst (λ w. HasBit w j) (sym eb) o) | inr o ↦ inr (subst (λ w. HasBit w j) (sym ec) o) ],
  λ o. subst (λ w. HasBit w j) (sym ea) (h.1 (elim o [ inl t ↦ inl (subst (λ w. HasBit w j) eb t) | inr t ↦ inr (subst (λ w. HasBit w j) ec t) ])),
)

-- a set has no number past its pages
pub none_beyond : (pools : Pools) (list : List ℕ) (n : ℕ) → length list ≤ n / 512 / 16 → ¬ Has pools list n
none_beyond pools list n past has =
    let id : get_or list (n / 512 / 16) 0 ≡ 0 = get_or_past list (n / 512 / 16) 0 past in
    let none : words_at pools list (n / 512) ≡ [] = ap (λ i. words_on pools i (n / 512 % 16)) id ∙ ap (words_of pools.blocks.slots.items) (get_or_past [] (n / 512 % 16) 0 (omega arith)) in
    none_past [] (n % 512) (omega arith) (subst (λ w. HasBit w (n % 512)) none has)

-- all pages of another set were joined
pub all_joined : (start now : Pools) (first more list : List ℕ) (pages : ℕ) → length more ≤ pages
    → ((k : ℕ) → k / 16 < pages → (j : ℕ) → HasBit (words_at now list k) j ↔ (HasBit (words_at start first k) j ⊎ HasBit (words_at start more k) j))
    → ((k : ℕ) → pages ≤ k / 16 → words_at now list k ≡ words_at start first k) → (n : ℕ) → Has now list n ↔ (Has start first n ⊎ Has start more n)
all_joined start now first more list pages all done rest n = elim (cases_lt (n / 512 / 16) pages) [
  | inl low ↦ done (n / 512) low (n % 512)
  | inr high ↦
      let same = rest (n / 512) (omega (arith, high)) in (
        λ t. inl (subst (λ w. HasBit w (n % 512)) same t),
        λ o. elim o [
          | inl t ↦ subst (λ w. HasBit w (n % 512)) (sym same) t
          | inr t ↦ absurd (none_beyond start more n (omega (arith, all, high)) t)
        ],
      )
]

one_number : (n number : ℕ) → n / 512 / 16 ≡ number / 8192 → n / 512 % 16 ≡ number / 512 % 16 → n % 512 ≡ number % 512 → n ≡ number
one_number n number a b c = omega (arith, a, b, c)

page_of_number : (n : ℕ) → n / 512 / 16 ≡ n / 8192
page_of_number n = omega arith

-- one number was taken in
module _ (x next : ℕ) (list : List ℕ) (old new : Pools) (number : ℕ) (fits : number / 8192 < length list) (h : AreHeldIn x old list) (r : ReplacesPage x (get_or list (number / 8192) 0) next old new)
    (bits : (k j : ℕ) → k < 16 → HasBit (words_on new next k) j ↔ (HasBit (words_on old (get_or list (number / 8192) 0) k) j ⊎ ((k ≡ number / 512 % 16) × (j ≡ number % 512)))) where
  pub one_marked : (n : ℕ) → Has new (set list (number / 8192) next) n ↔ (Has old list n ⊎ (n ≡ number))
  one_marked n = elim (cases_eq (n / 512 / 16) (number / 8192)) [
    | inl e ↦
        let now = words_there x (number / 8192) next list old new fits h r (n / 512) e in
        let before = words_before x (number / 8192) next list old new fits h r (n / 512) e in
        let both = bits (n / 512 % 16) (n % 512) (omega arith) in (
          λ t. elim (both.0 (subst (λ w. HasBit w (n % 512)) now t)) [
            | inl o ↦ inl (subst (λ w. HasBit w (n % 512)) (sym before) o)
            | inr s ↦ inr (one_number n number e s.0 s.1)
          ],
          λ o. subst (λ w. HasBit w (n % 512)) (sym now) (both.1 (elim o [
            | inl t ↦ inl (subst (λ w. HasBit w (n % 512)) before t)
            | inr s ↦ inr (ap (λ i. i / 512 % 16) s, ap (λ i. i % 512) s)
          ])),
        )
    | inr d ↦
        let same = words_aside x (number / 8192) next list old new fits h r (n / 512) d in (
          λ t. inl (subst (λ w. HasBit w (n % 512)) same t),
          λ o. elim o [
            | inl t ↦ subst (λ w. HasBit w (n % 512)) (sym same) t
            | inr s ↦ absurd (d (page_of_number n ∙ ap (λ i. i / 8192) s))
          ],
        )
  ]
