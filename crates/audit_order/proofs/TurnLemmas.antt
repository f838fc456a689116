-- How lines come and go in turn.
use Rattle.std.proofs.Common.{◌≡◌, ◌≤◌, ◌<◌, ◌+◌, ◌%◌, ◌^◌, ◌||◌, ◌∙◌, inl, inr, sym, refl, ap, subst, arith, ℕ, Bool, true, false, List, [], ◌∷◌, ◌++◌, length, append_assoc, nat_lt, nat_cmp, Option}
use Rattle.std.specs.List.{All}
use Rattle.std.specs.declared.cmp.Ordering.{Ordering}
use Rattle.std.specs.declared.cmp.Ordering.TheVariants.{Less, Equal, Greater}
use Rattle.std.specs.Ordering.{ordering_then, is_lt}
use Rattle.std.specs.List.Sorted.{IsPermutation}
use Rattle.std.proofs.lemmas.Bool.Decides.{nat_tests}
use Rattle.std.proofs.lemmas.List.{map-append}
use Rattle.std.proofs.lemmas.List.Elements.{All-cons, All-head, All-weaker}
use Rattle.std.proofs.lemmas.List.Sorted.{IsPermutation-refl, IsPermutation-sym, IsPermutation-trans, IsPermutation-cons, IsPermutation-to_front, IsPermutation-middle, IsPermutation-append_right, le_from_greatest, list_any-IsPermutation, sum_by-IsPermutation, length_permutation}
use Rattle.order_place.specs.declared.places.Place.{Place}
use Rattle.order_queue.specs.declared.waiting.Waiting.{Waiting}
use Rattle.order_queue.specs.Queue.{text_of, bytes_of}
use Rattle.order_queue.specs.Order.{place_cmp, IsLeast}
use Rattle.order_kin.specs.Families.{StandsForLines, Reads, child_of}
use Rattle.audit_order.specs.Shown.{Told}
use Rattle.audit_order.specs.Turns.{Motion, Read, Came, Went, Ended, Phase, Between, Next, AtEnd, Event, no_event, State, Turns, IsFresh, IsRead, IsComing, IsNext, IsDue, Passes, Comes, GoesLeast, MayGo, IsFree, AreEarly, NoneIsDue, Counted, begun_with, tally_with, phase, came, went, reads_in, next_event, number_in, waiting_of}
use Rattle.audit_order.specs.Sorted.{any_is_past, HasRoom}
use Rattle.audit_order.specs.declared.counts.Tally.{Tally}
use Rattle.audit_order.specs.Tally.{spot_of, no_tally}
use Rattle.audit_order.proofs.RipeLemmas.{none_past}
use Rattle.audit_order.proofs.SpotLemmas.{least_spot, counts_more}

counts_none : Counted no_tally []
counts_none = record { events = refl; late = refl; greatest = λ item. sym (least_spot (spot_of item)) }

pub turns_none : (compat : Bool) (s : State) → s.event ≡ no_event → s.number ≡ 0 → s.waits ≡ [] → s.tally ≡ no_tally → IsFresh compat s.places
    → s.kin.compat ≡ compat → StandsForLines s.kin [] → Turns compat Between s [] []
turns_none compat s event number waits tally fresh kept nobody = record {
  motions = [];
  phase_is = refl;
  event_is = sym event;
  number_is = sym number;
  lines_are = refl;
  given_are = refl;
  kin_compat = kept;
  kin_is = nobody;
  rest = subst (λ (l : List Waiting). IsPermutation [] l) (sym waits) (IsPermutation-refl []);
  turns = fresh;
  counts = subst (λ (t : Tally). Counted t []) (sym tally) counts_none;
}

-- none of those that wait is due
none_due : (compat : Bool) (now : Phase) (s : State) (given : List Told) (lines : List (List ℕ)) → AreEarly s.bounds s.places now s.waits
    → (t : Turns compat now s given lines) → NoneIsDue s.bounds s.places t.motions
none_due compat now s given lines early t = record {
  waits = s.waits;
  are = t.rest;
  early = subst (λ (m : Phase). AreEarly s.bounds s.places m s.waits) (sym t.phase_is) early;
}

-- a line is read
pub turns_read : (compat : Bool) (old new : State) (place : Place) (line : List ℕ) (given : List Told) (lines : List (List ℕ))
    → new ≡ record old { places = new.places; kin = new.kin } → Reads old.kin new.kin line → new.kin.compat ≡ old.kin.compat
    → IsRead old.places new.places place line → AreEarly old.bounds old.places Between old.waits → Turns compat Between old given lines
    → Turns compat (Next place line) new given lines
turns_read compat old new place line given lines is kin same reads early t =
    subst (λ (s : State). Turns compat (Next place line) s given lines) (sym is)
    (record {
      motions = Read place line ∷ t.motions;
      phase_is = refl;
      event_is = t.event_is;
      number_is = t.number_is;
      lines_are = t.lines_are;
      given_are = t.given_are;
      kin_compat = same ∙ t.kin_compat;
      kin_is = kin (reads_in t.motions) t.kin_is;
      rest = t.rest;
      turns = (old.places, t.turns, t.phase_is, reads, none_due compat Between old given lines early t);
      counts = record { events = t.counts.events; late = t.counts.late; greatest = t.counts.greatest };
    })

-- one more line waits
came_more : (motions : List Motion) (old new : List Waiting) (item : Waiting) → IsPermutation (item ∷ old) new → IsPermutation (came motions) (went motions ++ old)
    → IsPermutation (came motions ++ item ∷ []) (went motions ++ new)
came_more motions old new item come rest =
    let front : IsPermutation (came motions ++ item ∷ []) (item ∷ came motions) = IsPermutation-to_front (came motions) item in
    let all : IsPermutation (item ∷ came motions) (item ∷ (went motions ++ old)) = IsPermutation-cons item (came motions) (went motions ++ old) rest in
    let middle : IsPermutation (item ∷ (went motions ++ old)) (went motions ++ item ∷ old) =
    IsPermutation-sym (went motions ++ item ∷ old) (item ∷ (went motions ++ old)) (IsPermutation-middle (went motions) item old) in
    let there : IsPermutation (went motions ++ item ∷ old) (went motions ++ new) = IsPermutation-append_right (went motions) (item ∷ old) new come in
    IsPermutation-trans (came motions ++ item ∷ []) (item ∷ came motions) (went motions ++ new) front
    (IsPermutation-trans (item ∷ came motions) (item ∷ (went motions ++ old)) (went motions ++ new) all
    (IsPermutation-trans (item ∷ (went motions ++ old)) (went motions ++ item ∷ old) (went motions ++ new) middle there))

-- the line that was read comes
pub turns_come : (compat : Bool) (old new : State) (place : Place) (line : List ℕ) (given : List Told) (lines : List (List ℕ)) → Comes old new (waiting_of place old.number line)
    → AreEarly old.bounds old.places (Next place line) old.waits → Turns compat (Next place line) old given lines
    → Turns compat Between new given (lines ++ line ∷ [])
turns_come compat old new place line given lines c early t =
    let item = waiting_of place old.number line in
    let is_read : IsComing (phase t.motions) (number_in t.motions) item = rw (t.phase_is, t.number_is) refl in
    subst (λ (s : State). Turns compat Between s given (lines ++ line ∷ [])) (sym c.is)
    (record {
      motions = Came item ∷ t.motions;
      phase_is = refl;
      event_is = t.event_is;
      number_is = ap (λ (n : ℕ). (n + 1) % 2 ^ 64) t.number_is;
      lines_are = map-append text_of (came t.motions) (item ∷ []) ∙ ap (λ (l : List (List ℕ)). l ++ line ∷ []) t.lines_are;
      given_are = t.given_are;
      kin_compat = t.kin_compat;
      kin_is = t.kin_is;
      rest = came_more t.motions old.waits new.waits item c.come t.rest;
      turns = (t.turns, is_read, none_due compat (Next place line) old given lines early t);
      counts = record { events = t.counts.events; late = t.counts.late; greatest = t.counts.greatest };
    })

-- the line of the least place goes
pub turns_go : (compat : Bool) (now : Phase) (old new : State) (item : Waiting) (child : Option ℕ) (given : List Told) (lines : List (List ℕ))
    → MayGo old now → GoesLeast old new item
    → ((lines : List (List ℕ)) → StandsForLines old.kin lines → child ≡ child_of old.kin.compat lines item.line)
    → Turns compat now old given lines → Turns compat now new (given ++ record { line = item.line; child = child } ∷ []) lines
turns_go compat now old new item child given lines may g tells t =
    let told = tells (reads_in t.motions) t.kin_is ∙ ap (λ (b : Bool). child_of b (reads_in t.motions) item.line) t.kin_compat in
    let are : IsPermutation (came t.motions) (went t.motions ++ item ∷ new.waits) =
    IsPermutation-trans (came t.motions) (went t.motions ++ old.waits) (went t.motions ++ item ∷ new.waits) t.rest
    (IsPermutation-append_right (went t.motions) old.waits (item ∷ new.waits) g.were) in
    let next : IsNext old.bounds old.places t.motions item = record {
      others = new.waits;
      are = are;
      least = g.least;
      due = subst (λ (m : Phase). IsDue old.bounds old.places m item new.waits) (sym t.phase_is) (may item new.waits g.were g.least);
    } in
    subst (λ (s : State). Turns compat now s (given ++ record { line = item.line; child = child } ∷ []) lines) (sym g.turned.is)
    (record {
      motions = Went item ∷ t.motions;
      phase_is = t.phase_is;
      event_is = ap (λ (e : Event). next_event e item) t.event_is;
      number_is = t.number_is;
      lines_are = t.lines_are;
      given_are = ap (λ (l : List Told). l ++ record { line = item.line; child = child_of compat (reads_in t.motions) item.line } ∷ []) t.given_are
          ∙ ap (λ (c : Option ℕ). given ++ record { line = item.line; child = c } ∷ []) (sym told);
      kin_compat = t.kin_compat;
      kin_is = t.kin_is;
      rest = subst (λ (l : List Waiting). IsPermutation (came t.motions) l) (sym (append_assoc (went t.motions) (item ∷ []) new.waits)) are;
      turns = (old.places, t.turns, next, subst (λ (e : Event). Passes e item old.places new.places) (sym t.event_is) g.turned.passes);
      counts = subst (λ (e : Event). Counted (tally_with e old.tally item) (Went item ∷ t.motions)) t.event_is (counts_more old.tally t.motions item t.counts);
    })

-- the log ends
pub turns_end : (compat : Bool) (s : State) (given : List Told) (lines : List (List ℕ)) → AreEarly s.bounds s.places Between s.waits → Turns compat Between s given lines
    → Turns compat AtEnd s given lines
turns_end compat s given lines early t = record {
  motions = Ended ∷ t.motions;
  phase_is = refl;
  event_is = t.event_is;
  number_is = t.number_is;
  lines_are = t.lines_are;
  given_are = t.given_are;
  kin_compat = t.kin_compat;
  kin_is = t.kin_is;
  rest = t.rest;
  turns = (t.turns, t.phase_is, none_due compat Between s given lines early t);
  counts = record { events = t.counts.events; late = t.counts.late; greatest = t.counts.greatest };
}

-- ---- which lines are due

pub free_may : (s : State) (now : Phase) → IsFree now → MayGo s now
free_may s Between free item others were least = absurd free
free_may s (Next place line) free item others were least = inl free
free_may s AtEnd free item others were least = tt

pub over_may : (s : State) (place : Place) (line : List ℕ) → s.bounds.memory < bytes_of s.waits + length line → MayGo s (Next place line)
over_may s place line over item others were least =
    inr (subst (λ (n : ℕ). s.bounds.memory < n + length line) (sym (sum_by-IsPermutation (λ (w : Waiting). length w.line) s.waits (item ∷ others) were)) over)

not_less : (o rest : Ordering) → is_lt (ordering_then o rest) ≡ false → is_lt o ≡ false
not_less Less rest not = not
not_less Equal rest not = refl
not_less Greater rest not = refl

pub not_later : (a b : ℕ) (rest : Ordering) → is_lt (ordering_then (nat_cmp a b) rest) ≡ false → b ≤ a
not_later a b rest not = All-head (λ (y : ℕ). y ≤ a) b [] (le_from_greatest a (b ∷ []) (not_less (nat_cmp a b) rest not, tt))

-- no line counts before the least one
least_time : (item : Waiting) (others : List Waiting) → IsLeast item others → All (λ (w : Waiting). item.time ≤ w.time) (item ∷ others)
least_time item others least =
    All-cons (λ (w : Waiting). item.time ≤ w.time) item others (omega arith)
    (All-weaker (λ (w : Waiting). is_lt (place_cmp w item) ≡ false) (λ (w : Waiting). item.time ≤ w.time) (λ w not. not_later w.time item.time _ not) others least)

past_by : (b : Bool) (window clock : ℕ) (item : Waiting) (others : List Waiting) → nat_lt (item.time + window) clock ≡ b → IsLeast item others
    → any_is_past window clock (item ∷ others) ≡ true → item.time + window < clock
past_by true window clock item others is least any = grind (arith, nat_tests, is)
past_by false window clock item others is least any =
    let none : any_is_past window clock (item ∷ others) ≡ false = none_past window item.time clock (item ∷ others) is (least_time item others least) in
    absurd (cc (any, none))

pub past_may : (s : State) → any_is_past s.bounds.window s.places.clock s.waits ≡ true → MayGo s Between
past_may s any item others were least =
    past_by (nat_lt (item.time + s.bounds.window) s.places.clock) s.bounds.window s.places.clock item others refl least
    (sym (list_any-IsPermutation (λ (w : Waiting). nat_lt (w.time + s.bounds.window) s.places.clock) s.waits (item ∷ others) were) ∙ any)

-- ---- which lines are early

-- no line is one of none
none_of : (item : Waiting) (others : List Waiting) → IsPermutation [] (item ∷ others) → ⊥
none_of item others are = let same = length_permutation [] (item ∷ others) are in omega (arith, same)

one_early : (here more : Bool) (time clock : ℕ) → nat_lt time clock ≡ here → (here || more) ≡ false → time < clock → ⊥
one_early true more time clock is none due = absurd (cc none)
one_early false more time clock is none due = grind (arith, nat_tests, is, due)

pub past_early : (s : State) → any_is_past s.bounds.window s.places.clock s.waits ≡ false → AreEarly s.bounds s.places Between s.waits
past_early s none item others are due =
    let any = list_any-IsPermutation (λ (w : Waiting). nat_lt (w.time + s.bounds.window) s.places.clock) s.waits (item ∷ others) are in
    one_early (nat_lt (item.time + s.bounds.window) s.places.clock) (any_is_past s.bounds.window s.places.clock others) (item.time + s.bounds.window)
    s.places.clock refl (sym any ∙ none) due

-- with room for it, and none left if it says that its node was started
pub next_early : (s : State) (place : Place) (line : List ℕ) → (place.starts ≡ true → s.waits ≡ []) → HasRoom s.bounds.memory (length line) s.waits
    → AreEarly s.bounds s.places (Next place line) s.waits
next_early s place line starts room item others are (inl boots) =
    none_of item others (subst (λ (l : List Waiting). IsPermutation l (item ∷ others)) (starts boots) are)
next_early s place line starts (inl none) item others are (inr over) =
    none_of item others (subst (λ (l : List Waiting). IsPermutation l (item ∷ others)) none are)
next_early s place line starts (inr room) item others are (inr over) =
    let same = sum_by-IsPermutation (λ (w : Waiting). length w.line) s.waits (item ∷ others) are in
    omega (arith, same, room, over)
