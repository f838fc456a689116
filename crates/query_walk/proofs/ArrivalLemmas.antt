-- What waits after a push, and the first of what waits in slots and in a heap.
use Rattle.std.proofs.Common.{◌≡◌, ℕ, ◌<◌, ◌≤◌, ◌↔◌, List, ◌∷◌, length, get_or, Option, Some, None, arith, ltb, true, false, sym, ap, subst, ◌∙◌, ◌⊎◌, inl, inr, refl, IsPermutation}
use Rattle.std.specs.List.{Contains}
use Rattle.std.specs.BinaryHeap.{IsHeap, IsUpperBound, PopsGreatest, lt_by_cmp}
use Rattle.std.specs.Option.{IfSome, IfNone, IsSome}
use Rattle.std.proofs.lemmas.Bool.{cases_lt, cond_both, ltb-true, ltb-false, lt-ltb, false≢true}
use Rattle.std.proofs.lemmas.List.{get_or_default}
use Rattle.std.proofs.lemmas.List.Elements.{All-contains, All-from_recursion}
use Rattle.std.proofs.lemmas.List.Sorted.{Contains-permutation, IsPermutation-sym}
use Rattle.reach_model.proofs.Members.{Contains-cons_cases}
use Rattle.query_walk.specs.Arrivals.{AddsArrival, Arrival, IsDue, IsLeastFrom, NoneFrom, arrival, at_object, at_place, by_place, sooner}
use Rattle.query_walk.specs.Slots.{SitsToo, Slots}
use Rattle.query_walk.proofs.HeapLemmas.{Contains-cons, Contains-first}

pub pushed : {X : Type 0} (old new : List X) (x y : X) → IsPermutation (x ∷ old) new → Contains new y ↔ (Contains old y ⊎ (x ≡ y))
pushed old new x y perm = (
  λ m. elim (Contains-cons_cases old x y (Contains-permutation new (x ∷ old) y (IsPermutation-sym (x ∷ old) new perm) m)) [ inl e ↦ inr e | inr c ↦ inl c ],
  λ s. Contains-permutation (x ∷ old) new y perm (elim s [ inl o ↦ Contains-cons old x y o | inr e ↦ subst (Contains (x ∷ old)) e (Contains-first old x) ]),
)

-- an earlier place is greater
earlier : (a b : Arrival) → at_place b < at_place a → lt_by_cmp by_place a b ≡ true
earlier a b h = rw (lt-ltb (at_place b) (at_place a) h) refl

pub no_earlier : (a : Arrival) (xs : List Arrival) → IsUpperBound by_place a xs → (b : Arrival) → Contains xs b → at_place a ≤ at_place b
no_earlier a xs bound b c =
    let no : lt_by_cmp by_place a b ≡ false = All-contains (λ x. lt_by_cmp by_place a x ≡ false) xs b (All-from_recursion (λ x. lt_by_cmp by_place a x ≡ false) xs bound) c in
    elim (cases_lt (at_place b) (at_place a)) [
      | inl low ↦ absurd (false≢true (sym no ∙ earlier a b low))
      | inr high ↦ high
    ]

-- the sooner one of the first arrivals of two kinds is the first of both kinds
module _ (S H : Arrival → Type 0) (low : ℕ) where
  abbrev pub Both : Arrival → Type 0
  Both a = S a ⊎ H a

  abbrev First : (Arrival → Type 0) → ℕ × ℕ → Type 0
  First waits a = IsLeastFrom waits low (arrival a.0 a.1)

  only_one : (a : ℕ × ℕ) → First S a → NoneFrom H low → First Both a
  only_one a f none = record {
    high = f.high;
    waited = inl f.waited;
    least = λ o was h. elim was [ inl s ↦ f.least o s h | inr w ↦ absurd (let n = none o w in omega (arith, n, h)) ];
  }

  only_other : (b : ℕ × ℕ) → NoneFrom S low → First H b → First Both b
  only_other b none f = record {
    high = f.high;
    waited = inr f.waited;
    least = λ o was h. elim was [ inl s ↦ absurd (let n = none o s in omega (arith, n, h)) | inr w ↦ f.least o w h ];
  }

  sooner_one : (a b : ℕ × ℕ) → a.0 ≤ b.0 → First S a → First H b → First Both a
  sooner_one a b before f g = record {
    high = f.high;
    waited = inl f.waited;
    least = λ o was h. elim was [ inl s ↦ f.least o s h | inr w ↦ let n : b.0 ≤ at_place o = g.least o w h in omega (arith, n, before) ];
  }

  sooner_other : (a b : ℕ × ℕ) → b.0 < a.0 → First S a → First H b → First Both b
  sooner_other a b before f g = record {
    high = g.high;
    waited = inr g.waited;
    least = λ o was h. elim was [ inl s ↦ let n : a.0 ≤ at_place o = f.least o s h in omega (arith, n, before) | inr w ↦ g.least o w h ];
  }

  pub sooner_first : (one other : Option (ℕ × ℕ)) → IfSome one (First S) → IfNone one (NoneFrom S low) → IfSome other (First H) → IfNone other (NoneFrom H low) → IfSome (sooner one other) (First Both)
  sooner_first None None s n t m = tt
  sooner_first None (Some b) s n t m = only_other b n t
  sooner_first (Some a) None s n t m = only_one a s m
  sooner_first (Some a) (Some b) s n t m = cond_both (ltb b.0 a.0) (Some b) (Some a) (λ found. IfSome found (First Both))
      (λ e. sooner_other a b (ltb-true b.0 a.0 e) s t)
      (λ e. sooner_one a b (ltb-false b.0 a.0 e) s t)

  pub sooner_none : (one other : Option (ℕ × ℕ)) → IfNone one (NoneFrom S low) → IfNone other (NoneFrom H low) → IfNone (sooner one other) (NoneFrom Both low)
  sooner_none None None n m = λ a was. elim was [ inl s ↦ n a s | inr w ↦ m a w ]
  sooner_none None (Some b) n m = tt
  sooner_none (Some a) None n m = tt
  sooner_none (Some a) (Some b) n m = cond_both (ltb b.0 a.0) (Some b) (Some a) (λ found. IfNone found (NoneFrom Both low)) (λ e. tt) (λ e. tt)

-- what is popped is what was peeked at, and a heap stays a heap
pub popped_first : (items new : List Arrival) (x : Arrival) (found : Option Arrival) → IsSome found → 0 < length items → x ≡ get_or items 0 x
    → IfSome found (λ y. y ≡ get_or items 0 y) → IfSome found (λ y. IsPermutation items (y ∷ new)) → IsPermutation items (x ∷ new)
popped_first items new x None some h lookup top perm = absurd (false≢true some)
popped_first items new x (Some y) some h lookup top perm = subst (λ z. IsPermutation items (z ∷ new)) (top ∙ get_or_default items 0 y x h ∙ sym lookup) perm

pub still_heap : (items new : List Arrival) (found : Option Arrival) → IsSome found → IfSome found (λ y. PopsGreatest by_place items y new) → IsHeap by_place items → IsHeap by_place new
still_heap items new None some order heap = absurd (false≢true some)
still_heap items new (Some y) some order heap = (order heap).0

-- an arrival with a slot of its own waits, and so does one in the heap
pub due_sits : (old new : Slots) (heap : List Arrival) (place object : ℕ) → SitsToo old place object new
    → AddsArrival (IsDue (record { slots = old; heap = heap })) (arrival place object) (IsDue (record { slots = new; heap = heap }))
due_sits old new heap place object too a = (
  λ m. elim m [
    | inl s ↦ elim ((too (at_place a) (at_object a)).0 s) [
      | inl was ↦ inl (inl was)
      | inr e ↦ inr (ap (λ p. arrival p object) e.0 ∙ ap (arrival (at_place a)) e.1)
    ]
    | inr h ↦ inl (inr h)
  ],
  λ m. elim m [
    | inl was ↦ elim was [ inl s ↦ inl ((too (at_place a) (at_object a)).1 (inl s)) | inr h ↦ inr h ]
    | inr e ↦ inl ((too (at_place a) (at_object a)).1 (inr (ap at_place e, ap at_object e)))
  ],
)

pub due_queued : (slots : Slots) (old new : List Arrival) (one : Arrival) → AddsArrival (Contains old) one (Contains new)
    → AddsArrival (IsDue (record { slots = slots; heap = old })) one (IsDue (record { slots = slots; heap = new }))
due_queued slots old new one too a = (
  λ m. elim m [
    | inl s ↦ inl (inl s)
    | inr h ↦ elim ((too a).0 h) [ inl was ↦ inl (inr was) | inr e ↦ inr e ]
  ],
  λ m. elim m [
    | inl was ↦ elim was [ inl s ↦ inl s | inr h ↦ inr ((too a).1 (inl h)) ]
    | inr e ↦ inr ((too a).1 (inr e))
  ],
)
