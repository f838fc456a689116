-- What is held once a block was used or put.
use Rattle.std.proofs.Common.{◌≡◌, ℕ, Bool, true, false, ◌⊎◌, List, [], ◌∷◌, Option, Some, None, length, nat_eq, Contains, refl, sym, subst, inl, inr}
use Rattle.std.specs.Cmp.{nat_eq_equiv}
use Rattle.std.specs.Option.{IsSome, option_map_or}
use Rattle.std.specs.Map.{lookup, lookup_entry, remove_entry, keys_of}
use Rattle.std.proofs.lemmas.Bool.{eqb-true}
use Rattle.std.proofs.lemmas.Map.Views.{IsSome-lookup_from_Contains}
use Rattle.lru.specs.LruCache.{LruCache, promoted, put_entries}
use Rattle.lru.proofs.CallerLemmas.{Contains-lookup, Contains-put_entries}
use Rattle.lru.proofs.Splits.{Contains-head, Contains-tail, Contains-cons}
use Rattle.block_cache.specs.Cached.{IsHeld, AreWhole, BLOCK}

-- what is found under a number is held under it
pub held_at : (es : List (ℕ × List ℕ)) (n : ℕ) (v : List ℕ) → lookup (nat_eq n) es ≡ Some v → Contains es (n, v)
held_at es n v is =
    let there = Contains-lookup (nat_eq n) es v is in
    subst (λ k. Contains es (k, v)) (sym (eqb-true n there.0 there.2)) there.1

-- what is held is found
pub found : (es : List (ℕ × List ℕ)) (n : ℕ) → IsHeld n es → lookup (nat_eq n) es ≡ None → ⊥
found es n held none = let some = subst IsSome none (IsSome-lookup_from_Contains nat_eq_equiv n es held) in absurd (cc)

-- the keys of the entries, if the one whose key passes goes first
module _ (test : ℕ → Bool) where
  front : List (ℕ × List ℕ) → List (ℕ × List ℕ) → Option (ℕ × List ℕ) → List (ℕ × List ℕ)
  front es rest o = option_map_or (λ e. e ∷ rest) o es

  first : (f : ℕ × List ℕ) (es rest : List (ℕ × List ℕ)) (o : Option (ℕ × List ℕ)) → IsHeld f.0 (front (f ∷ es) (f ∷ rest) o)
  unfolding front
  first f es rest None = Contains-head f.0 (keys_of es)
  first f es rest (Some g) = Contains-tail g.0 (f.0 ∷ keys_of rest) f.0 (Contains-head f.0 (keys_of rest))

  further : (n : ℕ) (f : ℕ × List ℕ) (es rest : List (ℕ × List ℕ)) (o : Option (ℕ × List ℕ)) → IsHeld n (front es rest o) → IsHeld n (front (f ∷ es) (f ∷ rest) o)
  unfolding front
  further n f es rest None held = Contains-tail f.0 (keys_of es) n held
  further n f es rest (Some g) held = elim (Contains-cons g.0 (keys_of rest) n held) [
    | inl same ↦ subst (Contains (g.0 ∷ f.0 ∷ keys_of rest)) same (Contains-head g.0 (f.0 ∷ keys_of rest))
    | inr later ↦ Contains-tail g.0 (f.0 ∷ keys_of rest) n (Contains-tail f.0 (keys_of rest) n later)
  ]

  -- what is held stays held if an entry is used
  pub held_promoted : (es : List (ℕ × List ℕ)) (n : ℕ) → IsHeld n es → IsHeld n (promoted test es)
  unfolding front
  held_promoted [] n held = held
  held_promoted (f ∷ es) n held = (elim (test f.0) as (λ y. test f.0 ≡ y → IsHeld n (promoted test (f ∷ es))) [
    | true ↦ λ t. rw t held
    | false ↦ λ t. rw t (elim (Contains-cons f.0 (keys_of es) n held) [
      | inl same ↦ subst (λ k. IsHeld k (front (f ∷ es) (f ∷ remove_entry test es) (lookup_entry test es))) same (first f es (remove_entry test es) (lookup_entry test es))
      | inr later ↦ further n f es (remove_entry test es) (lookup_entry test es) (held_promoted es n later)
    ])
  ]) refl

-- whatever is put, each entry was there or is the pair that was put
pub held_put : (c : LruCache ℕ (List ℕ)) (number : ℕ) (block : List ℕ) (n : ℕ) (held : List ℕ) → Contains (put_entries nat_eq c number block) (n, held)
    → Contains c.entries (n, held) ⊎ ((n ≡ number) × (held ≡ block))
held_put c number block n held there = elim (Contains-put_entries nat_eq c number block (n, held) there) [
  | inl was ↦ inl was
  | inr new ↦ inr ((elim new.1 [ inl e ↦ e | inr w ↦ sym (eqb-true number n w.2) ]), new.0)
]

-- a whole block that is put among whole blocks
pub whole_put : (before after : List (ℕ × List ℕ)) (number : ℕ) (block : List ℕ) → AreWhole before → length block ≡ BLOCK
    → ((n : ℕ) (held : List ℕ) → Contains after (n, held) → Contains before (n, held) ⊎ ((n ≡ number) × (held ≡ block))) → AreWhole after
whole_put before after number block whole this each = λ n held there. elim (each n held there) [
  | inl was ↦ whole n held was
  | inr new ↦ subst (λ (xs : List ℕ). length xs ≡ BLOCK) (sym new.1) this
]
