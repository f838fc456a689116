-- Lines of lesser places go first.
use Rattle.std.proofs.Common.{◌≡◌, ◌⊎◌, inl, inr, sym, refl, ℕ, Bool, false, List, [], ◌∷◌, ◌++◌, nat_cmp}
use Rattle.std.specs.List.{All, Contains}
use Rattle.std.specs.declared.cmp.Ordering.TheVariants.{Equal}
use Rattle.std.specs.Ordering.{is_lt}
use Rattle.std.specs.Cmp.{nat_cmp_is}
use Rattle.std.specs.Cmp.Lexicographic.{slice_cmp}
use Rattle.std.proofs.lemmas.List.Elements.{All-cons, All-append, All-weaker, All-contains_itself}
use Rattle.std.proofs.lemmas.List.Sorted.{IsPermutation-sym, All-permutation}
use Rattle.order_place.specs.Nodes.{AllSeen}
use Rattle.order_queue.specs.declared.waiting.Waiting.{Waiting}
use Rattle.order_queue.specs.Order.{place_cmp}
use Rattle.audit_order.specs.declared.bounds.Bounds.{Bounds}
use Rattle.audit_order.specs.Turns.{Motion, Read, Came, Went, Ended, InTurn, IsNext, came, went}

same_number : (n : ℕ) → nat_cmp n n ≡ Equal
same_number n = sym (nat_cmp_is n n Equal refl)

same_text : (text : List ℕ) → slice_cmp nat_cmp text text ≡ Equal
same_text [] = refl
same_text (b ∷ text) = rw (same_number b) (same_text text)

-- no line is before itself
not_before_itself : (w : Waiting) → is_lt (place_cmp w w) ≡ false
not_before_itself w =
    rw (same_number w.time, same_number w.goes_by, same_number w.serial, same_number w.ms, same_text w.node, same_number w.rank, same_number w.number, same_text w.line) refl

-- the rules held when a line went
was_next : (compat : Bool) (bounds : Bounds) (all : AllSeen) (later before : List Motion) (item : Waiting)
    → InTurn compat bounds all (later ++ Went item ∷ before) → (old : AllSeen) × IsNext bounds old before item
was_next compat bounds all [] before item t = (t.0, t.2)
was_next compat bounds all (Read place line ∷ later) before item t = was_next compat bounds t.0 later before item t.1
was_next compat bounds all (Came other ∷ later) before item t = was_next compat bounds all later before item t.0
was_next compat bounds all (Went other ∷ later) before item t = was_next compat bounds t.0 later before item t.1
was_next compat bounds all (Ended ∷ later) before item t = was_next compat bounds all later before item t.0

pub lesser_go_first : (compat : Bool) (bounds : Bounds) (all : AllSeen) (later before : List Motion) (item : Waiting)
    → InTurn compat bounds all (later ++ Went item ∷ before)
    → All (λ other. (is_lt (place_cmp other item) ≡ false) ⊎ Contains (went before) other) (came before)
lesser_go_first compat bounds all later before item t =
    let next = (was_next compat bounds all later before item t).1 in
    let Fits : Waiting → Type 0 = λ (other : Waiting). (is_lt (place_cmp other item) ≡ false) ⊎ Contains (went before) other in
    let gone : All Fits (went before) = All-weaker (Contains (went before)) Fits (λ other has. inr has) (went before) (All-contains_itself (went before)) in
    let waiting : All Fits next.others =
    All-weaker (λ (other : Waiting). is_lt (place_cmp other item) ≡ false) Fits (λ other not. inl not) next.others next.least in
    All-permutation Fits (went before ++ item ∷ next.others) (came before)
    (IsPermutation-sym (came before) (went before ++ item ∷ next.others) next.are)
    (All-append Fits (went before) (item ∷ next.others) gone (All-cons Fits item next.others (inl (not_before_itself item)) waiting))
