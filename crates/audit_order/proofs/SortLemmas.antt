-- How a sorter goes on.
use Rattle.std.proofs.Common.{◌≡◌, ◌≤◌, ◌<◌, ◌+◌, ◌∙◌, inl, inr, refl, sym, ap, subst, arith, ℕ, true, List, [], ◌∷◌, ◌++◌, length, Option}
use Rattle.std.specs.Io.KnownBytes.{Appends}
use Rattle.order_place.specs.declared.places.Place.{Place}
use Rattle.order_queue.specs.Queue.{bytes_of}
use Rattle.order_queue.specs.declared.waiting.Waiting.{Waiting}
use Rattle.audit_order.specs.declared.sorter.Sorter.{Sorter}
use Rattle.order_kin.specs.Families.{StandsForLines, Reads}
use Rattle.audit_order.specs.Start.{Start}
use Rattle.audit_order.specs.Lines.{Written, IsBlank}
use Rattle.audit_order.specs.Course.{Course, Keeps}
use Rattle.audit_order.specs.Turns.{Phase, Between, Next, AtEnd, State, Turns, IsFresh, IsRead, MayGo, IsOfBytes, no_event}
use Rattle.audit_order.specs.Sorted.{SortsAt, Sorts, Moves, Holds, HasRoom, state_of, any_is_past}
use Rattle.audit_order.specs.Tally.{no_tally}
use Rattle.audit_order.proofs.CourseLemmas.{starts, flushed}
use Rattle.audit_order.proofs.TurnLemmas.{turns_none, turns_read, turns_come, turns_go, turns_end, over_may, past_may, past_early, next_early}

pub sorts_none : (before : Start) (s : Sorter) → IsBlank before.switches s.writer → (state_of s).event ≡ no_event → s.number ≡ 0 → s.queue.waits ≡ []
    → s.tally ≡ no_tally → IsFresh before.switches.compat s.places → s.kin.compat ≡ before.switches.compat → StandsForLines s.kin []
    → s.bounds ≡ before.bounds → Sorts before before.written s []
sorts_none before s blank event number waits tally fresh kept nobody bounds = record {
  at = record {
    given = [];
    course = starts before s.writer blank;
    turns = turns_none before.switches.compat (state_of s) event number waits tally fresh kept nobody;
    bounds_are = bounds;
  };
  past = ap (any_is_past s.bounds.window s.places.clock) waits;
}

-- a line is read
pub reads : (before : Start) (now : Option (List ℕ)) (old new : Sorter) (place : Place) (line : List ℕ) (lines : List (List ℕ))
    → new ≡ record old { places = new.places; kin = new.kin } → IsRead old.places new.places place line
    → Reads old.kin new.kin line → new.kin.compat ≡ old.kin.compat
    → Sorts before now old lines → SortsAt (Next place line) before now new lines
reads before now old new place line lines is read kin same sorts = let s = sorts.at in record {
  given = s.given;
  course = subst (λ (w : Written). Course before now w s.given) (sym (ap (λ (t : Sorter). t.writer) is)) s.course;
  turns = turns_read before.switches.compat (state_of old) (state_of new) place line s.given lines (ap state_of is) kin same read (past_early (state_of old) sorts.past) s.turns;
  bounds_are = ap (λ (t : Sorter). t.bounds) is ∙ s.bounds_are;
}

-- the line that was read comes
pub comes : (before : Start) (now : Option (List ℕ)) (old new : Sorter) (place : Place) (line : List ℕ) (lines : List (List ℕ))
    → (place.starts ≡ true → old.queue.waits ≡ []) → HasRoom old.bounds.memory (length line) old.queue.waits
    → Holds old new place line → SortsAt (Next place line) before now old lines → SortsAt Between before now new (lines ++ line ∷ [])
comes before now old new place line lines starts room h s = record {
  given = s.given;
  course = subst (λ (w : Written). Course before now w s.given) (sym h.writer) s.course;
  turns = turns_come before.switches.compat (state_of old) (state_of new) place line s.given lines h.comes
      (next_early (state_of old) place line starts room) s.turns;
  bounds_are = ap (λ (t : State). t.bounds) h.comes.is ∙ s.bounds_are;
}

-- a line goes that is due
pub moves : (at : Phase) (before : Start) (now : Option (List ℕ)) (old new : Sorter) (lines : List (List ℕ))
    → MayGo (state_of old) at → Moves old new → SortsAt at before now old lines → SortsAt at before now new lines
moves at before now old new lines may (inl same) s = subst (λ (t : Sorter). SortsAt at before now t lines) (sym same) s
moves at before now old new lines may (inr g) s = record {
  given = s.given ++ record { line = g.item.line; child = g.gives.child } ∷ [];
  course = g.gives.gives before now s.given s.course;
  turns = turns_go before.switches.compat at (state_of old) (state_of new) g.item g.gives.child s.given lines may g.goes g.gives.told s.turns;
  bounds_are = ap (λ (t : State). t.bounds) g.goes.turned.is ∙ s.bounds_are;
}

-- the log ends
pub ends : (before : Start) (now : Option (List ℕ)) (s : Sorter) (lines : List (List ℕ)) → Sorts before now s lines → SortsAt AtEnd before now s lines
ends before now t lines sorts = let s = sorts.at in record {
  given = s.given;
  course = s.course;
  turns = turns_end before.switches.compat (state_of t) s.given lines (past_early (state_of t) sorts.past) s.turns;
  bounds_are = s.bounds_are;
}

-- only the writer goes on
pub writes_besides : (at : Phase) (before : Start) (now : Option (List ℕ)) (old new : Sorter) (lines : List (List ℕ))
    → Keeps old.writer new.writer → state_of new ≡ state_of old → SortsAt at before now old lines → SortsAt at before now new lines
writes_besides at before now old new lines keeps same s = record {
  given = s.given;
  course = keeps before now s.given s.course;
  turns = subst (λ (t : State). Turns before.switches.compat at t s.given lines) (sym same) s.turns;
  bounds_are = ap (λ (t : State). t.bounds) same ∙ s.bounds_are;
}

-- what was written is handed on
pub hands_on : (at : Phase) (before : Start) (now later : Option (List ℕ)) (old new : Sorter) (lines : List (List ℕ))
    → Appends now later old.writer.pending → new.writer ≡ record old.writer { pending = [] } → state_of new ≡ state_of old
    → SortsAt at before now old lines → SortsAt at before later new lines
hands_on at before now later old new lines handed is same s = record {
  given = s.given;
  course = subst (λ (w : Written). Course before later w s.given) (sym is) (flushed before now later old.writer s.given handed s.course);
  turns = subst (λ (t : State). Turns before.switches.compat at t s.given lines) (sym same) s.turns;
  bounds_are = ap (λ (t : State). t.bounds) same ∙ s.bounds_are;
}

-- ---- which lines are due

pub over_goes : (s : Sorter) (memory more : ℕ) (at : Phase) → s.bounds.memory ≡ memory → memory < bytes_of s.queue.waits + more → IsOfBytes more at → MayGo (state_of s) at
over_goes s memory more Between is over of = absurd of
over_goes s memory more (Next place line) is over of = over_may (state_of s) place line (omega (arith, is, over, of))
over_goes s memory more AtEnd is over of = absurd of

pub past_goes : (s : Sorter) (window : ℕ) → s.bounds.window ≡ window → any_is_past window s.places.clock s.queue.waits ≡ true → MayGo (state_of s) Between
past_goes s window is any = past_may (state_of s) (subst (λ (w : ℕ). any_is_past w s.places.clock s.queue.waits ≡ true) (sym is) any)

-- where no line waited, none does after some have gone
pub none_left : (old new : List Waiting) → old ≡ [] → length new ≤ length old → new ≡ []
none_left old [] none fewer = refl
none_left old (w ∷ new) none fewer = let same = ap (λ (l : List Waiting). length l) none in absurd (omega (arith, same, fewer))
