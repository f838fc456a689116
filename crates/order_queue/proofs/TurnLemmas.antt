-- A line that joins or leaves those in a heap.
use Rattle.std.proofs.Common.{◌≡◌, ◌≤◌, ◌+◌, ℕ, false, List, [], ◌∷◌, length, map, sym, refl, arith, nat_cmp}
use Rattle.std.specs.List.{All}
use Rattle.std.specs.declared.cmp.Ordering.{Ordering}
use Rattle.std.specs.declared.cmp.Ordering.TheVariants.{Less, Equal, Greater}
use Rattle.std.specs.Ordering.{ordering_then, is_lt}
use Rattle.std.specs.BinaryHeap.{IsUpperBound}
use Rattle.std.proofs.lemmas.List.Elements.{All-cons, All-nil, All-head, All-weaker}
use Rattle.std.specs.List.Sorted.{IsPermutation}
use Rattle.std.proofs.lemmas.List.Sorted.{IsPermutation-map, le_from_greatest, sum_by_pushed, sum_by_popped}
use Rattle.std.specs.declared.cmp.Reverse.{Reverse}
use Rattle.order_queue.specs.Queue.{bytes_of}
use Rattle.order_queue.specs.Turned.{turned}
use Rattle.order_queue.specs.Order.{place_cmp, turned_cmp, IsLeast}
use Rattle.order_queue.specs.declared.waiting.Waiting.{Waiting}

pub joined : (x : Reverse Waiting) (held : List Waiting) (old new : List (Reverse Waiting)) → map turned old ≡ held
    → IsPermutation (x ∷ old) new → IsPermutation (turned x ∷ held) (map turned new)
joined x held old new is moved = rw (sym is) (IsPermutation-map turned (x ∷ old) new moved)

pub left : (x : Reverse Waiting) (held : List Waiting) (old new : List (Reverse Waiting)) → map turned old ≡ held
    → IsPermutation old (x ∷ new) → IsPermutation held (turned x ∷ map turned new)
left x held old new is moved = rw (sym is) (IsPermutation-map turned old (x ∷ new) moved)

pub more_bytes : (x : Waiting) (old new : List Waiting) → IsPermutation (x ∷ old) new → bytes_of old + length x.line ≡ bytes_of new
more_bytes x old new moved =
    let same = sum_by_pushed (λ (w : Waiting). length w.line) x old new moved in
    omega (arith, same)

pub fewer_bytes : (x : Waiting) (old new : List Waiting) → IsPermutation old (x ∷ new) → bytes_of new + length x.line ≡ bytes_of old
fewer_bytes x old new moved = sum_by_popped (λ (w : Waiting). length w.line) x old new moved

-- what no element of a heap is greater than comes first
pub least : (x : Reverse Waiting) (held : List Waiting) (rest : List (Reverse Waiting)) → map turned rest ≡ held → IsUpperBound turned_cmp x rest → IsLeast (turned x) held
least x held [] is above = rw (sym is) (All-nil (λ (w : Waiting). is_lt (place_cmp w (turned x)) ≡ false))
least x held (y ∷ rest) is above =
    rw (sym is) (All-cons (λ (w : Waiting). is_lt (place_cmp w (turned x)) ≡ false) (turned y) (map turned rest) above.0 (least x (map turned rest) rest refl above.1))

not_less : (o rest : Ordering) → is_lt (ordering_then o rest) ≡ false → is_lt o ≡ false
not_less Less rest not = not
not_less Equal rest not = refl
not_less Greater rest not = refl

not_later : (a b : ℕ) (rest : Ordering) → is_lt (ordering_then (nat_cmp a b) rest) ≡ false → b ≤ a
not_later a b rest not = All-head (λ (y : ℕ). y ≤ a) b [] (le_from_greatest a (b ∷ []) (not_less (nat_cmp a b) rest not, tt))

pub least_of_times : (x : Reverse Waiting) (held : List Waiting) (rest : List (Reverse Waiting)) → map turned rest ≡ held → IsUpperBound turned_cmp x rest
    → All (λ (w : Waiting). (turned x).time ≤ w.time) held
least_of_times x held rest is above =
    All-weaker (λ (w : Waiting). is_lt (place_cmp w (turned x)) ≡ false) (λ (w : Waiting). (turned x).time ≤ w.time)
    (λ w not. not_later w.time (turned x).time _ not)
    held (least x held rest is above)
