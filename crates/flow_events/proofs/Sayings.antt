-- What is collected by numbers, by pairs of numbers and by file numbers.
use Rattle.std.proofs.Common.{◌≡◌, ◌∙◌, ◌<◌, ◌⊎◌, inl, inr, refl, sym, ap, ℕ, Bool, true, false, List, Option, arith}
use Rattle.std.specs.Prelude.{◌==◌, ◌&&◌}
use Rattle.std.specs.List.Sorted.{IsStrictlySortedBy}
use Rattle.std.specs.Map.{keys_of}
use Rattle.std.specs.declared.cmp.Ordering.{Ordering}
use Rattle.std.specs.declared.cmp.Ordering.TheVariants.{Less, Equal, Greater}
use Rattle.std.specs.Ordering.{is_eq, nat_cmp, ordering_then}
use Rattle.std.proofs.lemmas.Bool.Decides.{nat_tests}
use Rattle.std.proofs.lemmas.Cmp.{ranked}
use Rattle.flow_base.specs.declared.types.FileId.{FileId}
use Rattle.flow_base.specs.contracts.types.FileIdPartialEq.TheImpl.{ghosts as files}
use Rattle.flow_base.specs.contracts.types.FileIdOrd.TheImpl.{ghosts as order}
use Rattle.acts.specs.Holding.{is_at}
use Rattle.store_check.specs.Order.{IsBefore}
use Rattle.stored.specs.Batch.{IsSlotBefore}
use Rattle.flow_events.specs.Rows.{Say, found, slot_cmp}
use Rattle.flow_events.proofs.Collecting.{collected_say}

nat_less : (a b : ℕ) → nat_cmp a b ≡ Less → a < b
nat_less a b is = ranked a b Less (sym is)

nat_same : (a b : ℕ) → nat_cmp a b ≡ Equal → a ≡ b
nat_same a b is = ranked a b Equal (sym is)

pub nat_is : (a b : ℕ) → is_eq (nat_cmp a b) ≡ (b == a)
nat_is a b = grind (arith, nat_tests)

-- by numbers
pub numbers_say : {V : Type 0} (pairs : List (ℕ × V)) (word : ℕ → Option V) → IsStrictlySortedBy nat_cmp (keys_of pairs) → ((k : ℕ) → found nat_cmp pairs k ≡ word k) → Say (λ a b. a < b) (λ k q. q == k) word pairs
numbers_say pairs word sorted is = collected_say nat_cmp (λ a b. a < b) (λ k q. q == k) nat_less nat_is
    (λ a. grind (arith, nat_tests)) (λ a b lt. grind (arith, nat_tests)) (λ a b lt. grind (arith, nat_tests)) (λ k q e. grind (arith, nat_tests)) pairs word sorted is

then_less : (o r : Ordering) → ordering_then o r ≡ Less → (o ≡ Less) ⊎ ((o ≡ Equal) × (r ≡ Less))
then_less Less r is = inl refl
then_less Equal r is = inr (refl, is)
then_less Greater r is = absurd cc

then_is : (o r : Ordering) → is_eq (ordering_then o r) ≡ (is_eq o && is_eq r)
then_is Less r = refl
then_is Equal r = refl
then_is Greater r = refl

slot_less : (a b : ℕ × ℕ) → slot_cmp a b ≡ Less → IsSlotBefore a b
slot_less a b is = elim (then_less (nat_cmp a.0 b.0) (nat_cmp a.1 b.1) is) [
  | inl lt ↦ inl (nat_less a.0 b.0 lt)
  | inr e ↦ inr (nat_same a.0 b.0 e.0, nat_less a.1 b.1 e.1)
]

pub slot_is : (k q : ℕ × ℕ) → is_eq (slot_cmp k q) ≡ is_at q.0 q.1 k.0 k.1
slot_is k q = then_is (nat_cmp k.0 q.0) (nat_cmp k.1 q.1) ∙ ap (λ (b : Bool). b && is_eq (nat_cmp k.1 q.1)) (nat_is k.0 q.0) ∙ ap (λ (b : Bool). (q.0 == k.0) && b) (nat_is k.1 q.1)

slot_self : (a : ℕ × ℕ) → is_at a.0 a.1 a.0 a.1 ≡ true
slot_self a = grind (arith, nat_tests)

slot_apart : (a b : ℕ × ℕ) → IsSlotBefore a b → is_at a.0 a.1 b.0 b.1 ≡ false
slot_apart a b (inl lt) = grind (arith, nat_tests)
slot_apart a b (inr e) = let lt = e.1 in grind (arith, nat_tests)

slot_other : (a b : ℕ × ℕ) → IsSlotBefore a b → is_at b.0 b.1 a.0 a.1 ≡ false
slot_other a b (inl lt) = grind (arith, nat_tests)
slot_other a b (inr e) = let lt = e.1 in grind (arith, nat_tests)

and_left : (a b : Bool) → (a && b) ≡ true → a ≡ true
and_left true b is = refl
and_left false b is = let wrong : false ≡ true = is in cc

and_right : (a b : Bool) → (a && b) ≡ true → b ≡ true
and_right true b is = is
and_right false b is = let wrong : false ≡ true = is in cc

same_number : (a b : ℕ) → (a == b) ≡ true → b ≡ a
same_number a b is = grind (arith, nat_tests)

pub slot_exact : (k q : ℕ × ℕ) → is_at q.0 q.1 k.0 k.1 ≡ true → k ≡ q
slot_exact k q is = λ i. (same_number q.0 k.0 (and_left (q.0 == k.0) (q.1 == k.1) is) i, same_number q.1 k.1 (and_right (q.0 == k.0) (q.1 == k.1) is) i)

-- by pairs of numbers
pub slots_say : {V : Type 0} (pairs : List ((ℕ × ℕ) × V)) (word : ℕ × ℕ → Option V) → IsStrictlySortedBy slot_cmp (keys_of pairs) → ((k : ℕ × ℕ) → found slot_cmp pairs k ≡ word k) → Say IsSlotBefore (λ k q. is_at q.0 q.1 k.0 k.1) word pairs
slots_say pairs word sorted is = collected_say slot_cmp IsSlotBefore (λ k q. is_at q.0 q.1 k.0 k.1) slot_less slot_is slot_self slot_apart slot_other slot_exact pairs word sorted is

abbrev file_cmp : FileId → FileId → Ordering
file_cmp a b = ordering_then (ordering_then (nat_cmp a.device.major b.device.major) (nat_cmp a.device.minor b.device.minor)) (nat_cmp a.ino b.ino)

file_less : (a b : FileId) → order.cmp a b ≡ Less → IsBefore a b
file_less a b is = elim (then_less (ordering_then (nat_cmp a.device.major b.device.major) (nat_cmp a.device.minor b.device.minor)) (nat_cmp a.ino b.ino) is) [
  | inl lt ↦ elim (then_less (nat_cmp a.device.major b.device.major) (nat_cmp a.device.minor b.device.minor) lt) [
    | inl l ↦ inl (nat_less _ _ l)
    | inr e ↦ inr (nat_same _ _ e.0, inl (nat_less _ _ e.1))
  ]
  | inr e ↦
      let both = then_both (nat_cmp a.device.major b.device.major) (nat_cmp a.device.minor b.device.minor) e.0 in
      inr (nat_same _ _ both.0, inr (nat_same _ _ both.1, nat_less _ _ e.1))
]
  where
    then_both : (o r : Ordering) → ordering_then o r ≡ Equal → (o ≡ Equal) × (r ≡ Equal)
    then_both Less r is = absurd cc
    then_both Equal r is = (refl, is)
    then_both Greater r is = absurd cc

pub file_is : (k q : FileId) → is_eq (order.cmp k q) ≡ files.eq k q
file_is k q = grind (arith, nat_tests)

file_self : (a : FileId) → files.eq a a ≡ true
file_self a = grind (arith, nat_tests)

file_apart : (a b : FileId) → IsBefore a b → files.eq b a ≡ false
file_apart a b (inl lt) = grind (arith, nat_tests)
file_apart a b (inr (e, inl lt)) = grind (arith, nat_tests)
file_apart a b (inr (e, inr (d, lt))) = grind (arith, nat_tests)

file_other : (a b : FileId) → IsBefore a b → files.eq a b ≡ false
file_other a b (inl lt) = grind (arith, nat_tests)
file_other a b (inr (e, inl lt)) = grind (arith, nat_tests)
file_other a b (inr (e, inr (d, lt))) = grind (arith, nat_tests)

-- by file numbers
pub files_say : {V : Type 0} (pairs : List (FileId × V)) (word : FileId → Option V) → ((k q : FileId) → files.eq k q ≡ true → k ≡ q) → IsStrictlySortedBy order.cmp (keys_of pairs) → ((k : FileId) → found order.cmp pairs k ≡ word k) → Say IsBefore (λ k q. files.eq k q) word pairs
files_say pairs word exact sorted is = collected_say order.cmp IsBefore (λ k q. files.eq k q) file_less file_is file_self file_apart file_other exact pairs word sorted is
