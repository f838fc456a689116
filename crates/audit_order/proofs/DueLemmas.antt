-- Lines that are due have gone.
use Rattle.std.proofs.Common.{◌≡◌, ◌≤◌, ◌<◌, ◌+◌, ◌∙◌, ◌⊎◌, inl, inr, sym, ap, refl, subst, arith, ℕ, Bool, true, false, List, [], ◌∷◌, ◌++◌, append-nil, append_assoc, length, nat_lt, nat_le}
use Rattle.std.specs.List.{All, Contains}
use Rattle.std.specs.List.Sorted.{IsPermutation}
use Rattle.std.proofs.lemmas.Bool.Decides.{nat_tests}
use Rattle.std.proofs.lemmas.List.Elements.{All-append, All-weaker, All-contains_itself, All-cons, All-nil}
use Rattle.std.proofs.lemmas.List.Sorted.{IsPermutation-refl, IsPermutation-sym, IsPermutation-trans, IsPermutation-cons, IsPermutation-middle, All-permutation}
use Rattle.order_place.specs.declared.places.Place.{Place}
use Rattle.order_place.specs.Nodes.{AllSeen}
use Rattle.order_queue.specs.declared.waiting.Waiting.{Waiting}
use Rattle.order_queue.specs.Queue.{bytes_of}
use Rattle.audit_order.specs.declared.bounds.Bounds.{Bounds}
use Rattle.audit_order.specs.Turns.{Motion, Read, Came, Went, Ended, Between, Next, AtEnd, Phase, InTurn, IsComing, NoneIsDue, AreEarly, IsDue, came, went, phase, number_in, PastHaveGone, FullMemoryHasGone, AllHaveGone}

-- what was so when a line was read
was_read : (compat : Bool) (bounds : Bounds) (all : AllSeen) (later before : List Motion) (place : Place) (line : List ℕ)
    → InTurn compat bounds all (later ++ Read place line ∷ before)
    → (seen : AllSeen) × InTurn compat bounds seen before × (phase before ≡ Between) × NoneIsDue bounds seen before
was_read compat bounds all [] before place line t = (t.0, t.1, t.2, t.4)
was_read compat bounds all (Read other text ∷ later) before place line t = was_read compat bounds t.0 later before place line t.1
was_read compat bounds all (Came item ∷ later) before place line t = was_read compat bounds all later before place line t.0
was_read compat bounds all (Went item ∷ later) before place line t = was_read compat bounds t.0 later before place line t.1
was_read compat bounds all (Ended ∷ later) before place line t = was_read compat bounds all later before place line t.0

-- what was so when a line came
had_come : (compat : Bool) (bounds : Bounds) (all : AllSeen) (later before : List Motion) (item : Waiting)
    → InTurn compat bounds all (later ++ Came item ∷ before)
    → (seen : AllSeen) × IsComing (phase before) (number_in before) item × NoneIsDue bounds seen before
had_come compat bounds all [] before item t = (all, t.1, t.2)
had_come compat bounds all (Read place line ∷ later) before item t = had_come compat bounds t.0 later before item t.1
had_come compat bounds all (Came other ∷ later) before item t = had_come compat bounds all later before item t.0
had_come compat bounds all (Went other ∷ later) before item t = had_come compat bounds t.0 later before item t.1
had_come compat bounds all (Ended ∷ later) before item t = had_come compat bounds all later before item t.0

not_past : (b : Bool) (time clock : ℕ) → nat_lt time clock ≡ b → (time < clock → ⊥) → clock ≤ time
not_past true time clock is not = absurd (not (grind (arith, nat_tests, is)))
not_past false time clock is not = grind (arith, nat_tests, is)

-- a line in the middle comes first
to_front : (front back : List Waiting) (item : Waiting) → IsPermutation (front ++ item ∷ back) (item ∷ (front ++ back))
to_front front back item = IsPermutation-middle front item back

-- none of those that wait is past
none_past : (bounds : Bounds) (seen : AllSeen) (front back : List Waiting) → AreEarly bounds seen Between (front ++ back)
    → All (λ (item : Waiting). seen.clock ≤ item.time + bounds.window) back
none_past bounds seen front [] early = All-nil (λ (item : Waiting). seen.clock ≤ item.time + bounds.window)
none_past bounds seen front (item ∷ back) early =
    All-cons (λ (item : Waiting). seen.clock ≤ item.time + bounds.window) item back
    (not_past (nat_lt (item.time + bounds.window) seen.clock) (item.time + bounds.window) seen.clock refl
    (λ due. early item (front ++ back) (to_front front back item) due))
    (none_past bounds seen (front ++ item ∷ []) back
    (subst (λ (l : List Waiting). AreEarly bounds seen Between l) (sym (append_assoc front (item ∷ []) back)) early))

pub past_have_gone : PastHaveGone
past_have_gone compat bounds all later before place line t =
    let was = was_read compat bounds all later before place line t in
    let seen = was.0 in
    let none = was.3 in
    let Fits : Waiting → Type 0 = λ (item : Waiting). (seen.clock ≤ item.time + bounds.window) ⊎ Contains (went before) item in
    let early : AreEarly bounds seen Between none.waits = subst (λ (m : Phase). AreEarly bounds seen m none.waits) was.2 none.early in
    let gone : All Fits (went before) = All-weaker (Contains (went before)) Fits (λ item has. inr has) (went before) (All-contains_itself (went before)) in
    let waiting : All Fits none.waits =
    All-weaker (λ (item : Waiting). seen.clock ≤ item.time + bounds.window) Fits (λ item not. inl not) none.waits
    (none_past bounds seen [] none.waits early) in (
      seen,
      was.1,
      All-permutation Fits (went before ++ none.waits) (came before)
          (IsPermutation-sym (came before) (went before ++ none.waits) none.are) (All-append Fits (went before) none.waits gone waiting),
    )

-- the line that comes is the one that was read
same_line : (now : Phase) (number : ℕ) (item : Waiting) → IsComing now number item → (place : Place) × (now ≡ Next place item.line)
same_line Between number item is = absurd is
same_line (Next place line) number item is = (place, ap (λ (w : Waiting). Next place w.line) (sym is))
same_line AtEnd number item is = absurd is

room_of : (bounds : Bounds) (seen : AllSeen) (place : Place) (line : List ℕ) (waits : List Waiting) → AreEarly bounds seen (Next place line) waits
    → (waits ≡ []) ⊎ (bytes_of waits + length line ≤ bounds.memory)
room_of bounds seen place line [] early = inl refl
room_of bounds seen place line (item ∷ others) early =
    inr (not_past (nat_lt bounds.memory (bytes_of (item ∷ others) + length line)) bounds.memory (bytes_of (item ∷ others) + length line) refl
    (λ over. early item others (IsPermutation-refl (item ∷ others)) (inr over)))

pub full_memory_has_gone : FullMemoryHasGone
full_memory_has_gone compat bounds all later before item t =
    let had = had_come compat bounds all later before item t in
    let none = had.2 in
    let is = same_line (phase before) (number_in before) item had.1 in
    (none.waits, none.are, room_of bounds had.0 is.0 item.line none.waits (subst (λ (m : Phase). AreEarly bounds had.0 m none.waits) is.1 none.early))

none_waits : (bounds : Bounds) (seen : AllSeen) (place : Place) (line : List ℕ) (waits : List Waiting) → place.starts ≡ true
    → AreEarly bounds seen (Next place line) waits → waits ≡ []
none_waits bounds seen place line [] starts early = refl
none_waits bounds seen place line (item ∷ others) starts early = absurd (early item others (IsPermutation-refl (item ∷ others)) (inl starts))

pub all_have_gone : AllHaveGone
all_have_gone compat bounds all later before item place line t is starts =
    let had = had_come compat bounds all later before item t in
    let none = had.2 in
    let left = none_waits bounds had.0 place line none.waits starts (subst (λ (m : Phase). AreEarly bounds had.0 m none.waits) is none.early) in
    subst (λ (l : List Waiting). IsPermutation (came before) l) (ap (λ (l : List Waiting). went before ++ l) left ∙ append-nil (went before)) none.are
