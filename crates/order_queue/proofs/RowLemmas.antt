-- Lines in the order of their places, beside others.
use Rattle.std.proofs.Common.{◌≡◌, ◌∙◌, ℕ, false, true, List, [], ◌∷◌, ◌++◌, length, sym, refl, ap, subst, slice_index_or, ◌-◌, IsTrue, arith, Option, None, Some, Bor, map, suc}
use Rattle.std.specs.List.{All, Contains}
use Rattle.std.specs.declared.cmp.Ordering.{Ordering}
use Rattle.std.specs.declared.cmp.Ordering.TheVariants.{Less, Equal, Greater}
use Rattle.std.specs.Ordering.{is_lt, is_le, ordering_reverse}
use Rattle.std.specs.BTreeMap.Comparable.{le_lt_trans}
use Rattle.std.specs.Option.{option_to_list, IsSome}
use Rattle.std.specs.Prelude.{IfSome, ◌<◌}
use Rattle.std.specs.BinaryHeap.{IsUpperBound}
use Rattle.std.specs.List.Sorted.{IsPermutation}
use Rattle.std.specs.declared.cmp.Reverse.{Reverse}
use Rattle.std.proofs.lemmas.List.{append_assoc}
use Rattle.std.proofs.lemmas.List.Elements.{All-append, All-weaker, All-nil, All-cons, All-head, All-tail, Contains-append_right}
use Rattle.std.proofs.lemmas.List.Sorted.{All-permutation, Contains-permutation, IsPermutation-sym, IsPermutation-trans, IsPermutation-append_right, IsPermutation-middle}
use Rattle.order_queue.specs.Order.{turned_cmp}
use Rattle.order_queue.specs.Turned.{turned}
use Rattle.order_queue.proofs.TurnLemmas.{left, least}
use Rattle.order_queue.specs.declared.waiting.Waiting.{Waiting}
use Rattle.order_queue.specs.Order.{place_cmp, IsLeast, IsGreatest, AreInTurn, IsFirst, Leads}
use Rattle.order_queue.specs.Total.{place_total}

no_less : (o : Ordering) → is_lt o ≡ false → IsTrue (is_le (ordering_reverse o))
no_less Less none = absurd (cc none)
no_less Equal none = refl
no_less Greater none = refl

never_less : (o : Ordering) → o ≡ Less → is_lt o ≡ false → {P : Type 0} → P
never_less Less is none = absurd (cc none)
never_less Equal is none = absurd (cc is)
never_less Greater is none = absurd (cc is)

-- what comes no earlier than a line that comes no earlier than another one comes no earlier than that
pub no_sooner : (x y z : Waiting) → is_lt (place_cmp y x) ≡ false → is_lt (place_cmp z y) ≡ false → is_lt (place_cmp z x) ≡ false
no_sooner x y z a b = go (place_cmp z x) refl
  where
    go : (o : Ordering) → place_cmp z x ≡ o → is_lt (place_cmp z x) ≡ false
    go Less e = never_less (place_cmp y x)
        (le_lt_trans place_total y z x (subst (λ (o : Ordering). IsTrue (is_le o)) (sym (place_total.antisymm y z)) (no_less (place_cmp z y) b)) e) a
    go Equal e = ap is_lt e
    go Greater e = ap is_lt e

same_reversed : (o : Ordering) → o ≡ ordering_reverse o → is_lt o ≡ false
same_reversed Less is = absurd (cc is)
same_reversed Equal is = refl
same_reversed Greater is = refl

pub no_sooner_itself : (x : Waiting) → is_lt (place_cmp x x) ≡ false
no_sooner_itself x = same_reversed (place_cmp x x) (place_total.antisymm x x)

-- what comes no earlier than the last of a row comes no earlier than any of it
pub past_all : (x : Waiting) (row : List Waiting) (d : Waiting) → AreInTurn row
    → is_lt (place_cmp x (slice_index_or row (length row - 1) d)) ≡ false → IsGreatest x row
past_all x [] d turns last = All-nil (λ (w : Waiting). is_lt (place_cmp x w) ≡ false)
past_all x (y ∷ []) d turns last = All-cons (λ (w : Waiting). is_lt (place_cmp x w) ≡ false) y [] last (All-nil (λ (w : Waiting). is_lt (place_cmp x w) ≡ false))
past_all x (y ∷ z ∷ rest) d turns last =
    let step : length (y ∷ z ∷ rest) - 1 ≡ suc (length (z ∷ rest) - 1) = omega arith in
    let others = past_all x (z ∷ rest) d turns.1 (subst (λ (k : ℕ). is_lt (place_cmp x (slice_index_or (y ∷ z ∷ rest) k d)) ≡ false) step last) in
    All-cons (λ (w : Waiting). is_lt (place_cmp x w) ≡ false) y (z ∷ rest)
    (no_sooner y z x (All-head (λ (w : Waiting). is_lt (place_cmp w y) ≡ false) z rest turns.0) (All-head (λ (w : Waiting). is_lt (place_cmp x w) ≡ false) z rest others)) others

-- and so the row with it is in turn
pub in_turn_with : (x : Waiting) (row : List Waiting) → AreInTurn row → IsGreatest x row → AreInTurn (row ++ x ∷ [])
in_turn_with x [] turns past = (All-nil (λ (w : Waiting). is_lt (place_cmp w x) ≡ false), tt)
in_turn_with x (y ∷ rest) turns past = (
  All-append (λ (w : Waiting). is_lt (place_cmp w y) ≡ false) rest (x ∷ []) turns.0
      (All-cons (λ (w : Waiting). is_lt (place_cmp w y) ≡ false) x [] (All-head (λ (w : Waiting). is_lt (place_cmp x w) ≡ false) y rest past) (All-nil (λ (w : Waiting). is_lt (place_cmp w y) ≡ false))),
  in_turn_with x rest turns.1 (All-tail (λ (w : Waiting). is_lt (place_cmp x w) ≡ false) y rest past),
)

-- the first line of a row
pub first_in_turn : (x : Waiting) (rest : List Waiting) → AreInTurn (x ∷ rest) → IsFirst x (x ∷ rest)
first_in_turn x rest turns = record { one = (0, omega arith, refl); least = All-cons (λ (w : Waiting). is_lt (place_cmp w x) ≡ false) x rest (no_sooner_itself x) turns.0 }

reversed_not : (o : Ordering) → ¬ (o ≡ Greater) → is_lt (ordering_reverse o) ≡ false
reversed_not Less not = refl
reversed_not Equal not = refl
reversed_not Greater not = absurd (not refl)

pub no_later : (a b : Waiting) (o : Ordering) → o ≡ place_cmp a b → ¬ (o ≡ Greater) → is_lt (place_cmp b a) ≡ false
no_later a b o is not = ap is_lt (place_total.antisymm b a ∙ ap ordering_reverse (sym is)) ∙ reversed_not o not

-- ---- the first of a row

pub row_popped : (r : Option Waiting) (old new : List Waiting) → old ≡ option_to_list r ++ new → AreInTurn old → IfSome r (λ e. IsFirst e old)
row_popped None old new is turns = tt
row_popped (Some e) old new is turns = subst (IsFirst e) (sym is) (first_in_turn e new (subst AreInTurn is turns))

front_first : (x : Waiting) (items : List Waiting) → AreInTurn items → 0 < length items → x ≡ slice_index_or items 0 x → IsFirst x items
front_first x [] turns some is = absurd (omega (arith, some))
front_first x (y ∷ rest) turns some is = subst (λ (w : Waiting). IsFirst w (y ∷ rest)) (sym is) (first_in_turn y rest turns)

pub row_front : (r : Option (Bor Waiting)) (items : List Waiting) → AreInTurn items → (IsSome r → 0 < length items)
    → IfSome r (λ x. x.now ≡ slice_index_or items 0 x.now) → IfSome r (λ x. IsFirst x.now items)
row_front None items turns some is = tt
row_front (Some x) items turns some is = front_first x.now items turns (some refl) is

-- ---- the first of a heap

pub heap_popped : (x : Reverse Waiting) (held : List Waiting) (old new : List (Reverse Waiting)) → map turned old ≡ held → IsPermutation old (x ∷ new)
    → IsUpperBound turned_cmp x new → IsFirst (turned x) held
heap_popped x held old new is moved above =
    let back = IsPermutation-sym held (turned x ∷ map turned new) (left x held old new is moved) in
    record {
      one = Contains-permutation (turned x ∷ map turned new) held (turned x) back (0, omega arith, refl);
      least = All-permutation (λ (w : Waiting). is_lt (place_cmp w (turned x)) ≡ false) (turned x ∷ map turned new) held back
          (All-cons (λ (w : Waiting). is_lt (place_cmp w (turned x)) ≡ false) (turned x) (map turned new) (no_sooner_itself (turned x))
          (least x (map turned new) new refl above));
    }

at_top : (x : Reverse Waiting) (items : List (Reverse Waiting)) → 0 < length items → x ≡ slice_index_or items 0 x → Contains (map turned items) (turned x)
at_top x [] some is = absurd (omega (arith, some))
at_top x (y ∷ rest) some is = (0, omega arith, ap turned (sym is))

pub heap_top : (x : Reverse Waiting) (held : List Waiting) (items : List (Reverse Waiting)) → map turned items ≡ held → 0 < length items
    → x ≡ slice_index_or items 0 x → IsUpperBound turned_cmp x items → IsFirst (turned x) held
heap_top x held items same some is above =
    subst (IsFirst (turned x)) same (record { one = at_top x items some is; least = least x (map turned items) items refl above })

-- ---- the first of both

found : (a e : Waiting) (some : List Waiting) → Contains some a → IsLeast e some → is_lt (place_cmp a e) ≡ false
found a e some (k, low, is) least = subst (λ (w : Waiting). is_lt (place_cmp w e) ≡ false) is (least k a low)

pub leads : (a b : Waiting) (some others : List Waiting) → IsFirst a some → IsFirst b others → is_lt (place_cmp b a) ≡ false → Leads some others
leads a b some others first second after = record {
  each = λ e is. All-weaker (λ (w : Waiting). is_lt (place_cmp w b) ≡ false) (λ (w : Waiting). is_lt (place_cmp w e) ≡ false)
      (λ w later. no_sooner e a w (found a e some first.one is.least) (no_sooner a b w after later)) others second.least;
  none = λ empty. absurd (omega (arith, first.one.1, ap length empty));
}

pub first_of_row : (r : Option Waiting) (old new others : List Waiting) → IfSome r (λ e. IsFirst e old) → IfSome r (λ e. old ≡ e ∷ new) → Leads old others
    → IfSome r (λ e. IsLeast e (new ++ others))
first_of_row None old new others first is leads = tt
first_of_row (Some e) old new others first is leads =
    All-append (λ (w : Waiting). is_lt (place_cmp w e) ≡ false) new others
    (All-tail (λ (w : Waiting). is_lt (place_cmp w e) ≡ false) e new (subst (IsLeast e) is first.least)) (leads.each e first)

pub first_of_heap : (r : Option Waiting) (old new others : List Waiting) → IfSome r (λ e. IsFirst e old) → IfSome r (λ e. IsPermutation old (e ∷ new)) → Leads old others
    → IfSome r (λ e. IsLeast e (others ++ new))
first_of_heap None old new others first moved leads = tt
first_of_heap (Some e) old new others first moved leads =
    All-append (λ (w : Waiting). is_lt (place_cmp w e) ≡ false) others new (leads.each e first)
    (All-tail (λ (w : Waiting). is_lt (place_cmp w e) ≡ false) e new
    (All-permutation (λ (w : Waiting). is_lt (place_cmp w e) ≡ false) old (e ∷ new) moved first.least))

pub taken_of_heap : (r : Option Waiting) (row old new : List Waiting) → IfSome r (λ e. IsPermutation old (e ∷ new))
    → IfSome r (λ e. IsPermutation (row ++ old) (e ∷ (row ++ new)))
taken_of_heap None row old new moved = tt
taken_of_heap (Some e) row old new moved =
    IsPermutation-trans (row ++ old) (row ++ e ∷ new) (e ∷ (row ++ new)) (IsPermutation-append_right row old (e ∷ new) moved) (IsPermutation-middle row e new)

pub least_of_heap : (r : Option (Bor Waiting)) (row heap : List Waiting) → IfSome r (λ x. IsFirst x.now heap) → Leads heap row
    → IfSome r (λ x. IsFirst x.now (row ++ heap))
least_of_heap None row heap first leads = tt
least_of_heap (Some x) row heap first leads = record {
  one = Contains-append_right row heap x.now first.one;
  least = All-append (λ (w : Waiting). is_lt (place_cmp w x.now) ≡ false) row heap (leads.each x.now first) first.least;
}

-- ---- a line that joins

pub put_in_row : (e : Waiting) (row heap new : List Waiting) → new ≡ row ++ e ∷ [] → IsPermutation (e ∷ (row ++ heap)) (new ++ heap)
put_in_row e row heap new is =
    subst (IsPermutation (e ∷ (row ++ heap))) (sym (ap (λ (l : List Waiting). l ++ heap) is ∙ append_assoc row (e ∷ []) heap))
    (IsPermutation-sym (row ++ e ∷ heap) (e ∷ (row ++ heap)) (IsPermutation-middle row e heap))

pub put_in_heap : (e : Waiting) (row heap new : List Waiting) → IsPermutation (e ∷ heap) new → IsPermutation (e ∷ (row ++ heap)) (row ++ new)
put_in_heap e row heap new moved =
    IsPermutation-trans (e ∷ (row ++ heap)) (row ++ e ∷ heap) (row ++ new)
    (IsPermutation-sym (row ++ e ∷ heap) (e ∷ (row ++ heap)) (IsPermutation-middle row e heap)) (IsPermutation-append_right row (e ∷ heap) new moved)
