-- In which order lines are written, and when.
use Rattle.std.specs.Prelude.{◌≡◌, ◌⊎◌, ◌<◌, ◌≤◌, ◌+◌, ◌%◌, ◌^◌, ◌==◌, ◌&&◌, ⊤, ℕ, Bool, true, false, List, [], ◌∷◌, ◌++◌, length, nat_eq, IsPermutation, if◌then◌else◌}
use Rattle.std.specs.List.{All, Contains}
use Rattle.std.specs.Ordering.{is_lt}
use Rattle.std.specs.Cmp.Lexicographic.{pointwise}
use Rattle.order_text.specs.Stamp.{stamp_of}
use Rattle.order_place.specs.declared.places.Place.{Place}
use Rattle.order_place.specs.Nodes.{AllSeen, HasPlace, SeesLine, ForgetsOf, StandsForAll}
use Rattle.order_queue.specs.declared.waiting.Waiting.{Waiting}
use Rattle.order_queue.specs.Queue.{bytes_of, texts_of}
use Rattle.order_queue.specs.Order.{place_cmp, IsLeast}
use Rattle.order_kin.specs.Families.{AllKept, StandsForLines, child_of}
use Rattle.audit_order.specs.Shown.{Told}
use Rattle.audit_order.specs.declared.bounds.Bounds.{Bounds}
use Rattle.audit_order.specs.declared.counts.Tally.{Tally}
use Rattle.audit_order.specs.Tally.{spot_of, is_less, is_late, tally_after}

-- ---- what happens to lines, newest first

-- a line of the log is read and has a place, or comes to those that wait, or goes, that is, is written; or the log ends
pub data Motion : Type 0 where
  Read : Place → List ℕ → Motion
  Came : Waiting → Motion
  Went : Waiting → Motion
  Ended : Motion

-- between two lines of the log, or when this line was read that has this place and is to come, or when the log has ended
pub data Phase : Type 0 where
  Between : Phase
  Next : Place → List ℕ → Phase
  AtEnd : Phase

-- which of these it is after such motions
abbrev pub phase : List Motion → Phase
phase [] = Between
phase (Read place line ∷ before) = Next place line
phase (Came item ∷ before) = Between
phase (Went item ∷ before) = phase before
phase (Ended ∷ before) = AtEnd

-- the lines that came, in their order
abbrev pub came : List Motion → List Waiting
came [] = []
came (Read place line ∷ before) = came before
came (Came item ∷ before) = came before ++ item ∷ []
came (Went item ∷ before) = came before
came (Ended ∷ before) = came before

-- the lines that went, in their order
abbrev pub went : List Motion → List Waiting
went [] = []
went (Read place line ∷ before) = went before
went (Came item ∷ before) = went before
went (Went item ∷ before) = went before ++ item ∷ []
went (Ended ∷ before) = went before

-- the lines that were read, newest first
abbrev pub reads_in : List Motion → List (List ℕ)
reads_in [] = []
reads_in (Read place line ∷ before) = line ∷ reads_in before
reads_in (Came item ∷ before) = reads_in before
reads_in (Went item ∷ before) = reads_in before
reads_in (Ended ∷ before) = reads_in before

-- the lines that went, in their order, each with the child that the lines tell which were read by then
abbrev pub told_in : Bool → List Motion → List Told
told_in compat [] = []
told_in compat (Read place line ∷ before) = told_in compat before
told_in compat (Came item ∷ before) = told_in compat before
told_in compat (Went item ∷ before) =
    told_in compat before ++ record { line = item.line; child = child_of compat (reads_in before) item.line } ∷ []
told_in compat (Ended ∷ before) = told_in compat before

-- how many lines came, in 64 bits
abbrev pub number_in : List Motion → ℕ
number_in [] = 0
number_in (Read place line ∷ before) = number_in before
number_in (Came item ∷ before) = (number_in before + 1) % 2 ^ 64
number_in (Went item ∷ before) = number_in before
number_in (Ended ∷ before) = number_in before

-- an event: its node, its time and its serial number
pub record Event : Type 0 where
  pub node : List ℕ
  pub ms : ℕ
  pub serial : ℕ

abbrev pub no_event : Event
no_event = record { node = []; ms = 0; serial = 0 }

-- whether a line is of this event
abbrev pub is_one : Event → Waiting → Bool
is_one event item = event.ms == item.ms && (event.serial == item.serial && pointwise nat_eq event.node item.node)

-- the event of which a line is written, after lines of this event
abbrev pub next_event : Event → Waiting → Event
next_event event item = if is_one event item then event else record { node = item.node; ms = item.ms; serial = item.serial }

-- the event of the newest line that went
abbrev pub event_in : List Motion → Event
event_in [] = no_event
event_in (Read place line ∷ before) = event_in before
event_in (Came item ∷ before) = event_in before
event_in (Went item ∷ before) = next_event (event_in before) item
event_in (Ended ∷ before) = event_in before

-- how many events went: one more whenever a line went that isn't of the event of the line before it
abbrev pub events_in : List Motion → ℕ
events_in [] = 0
events_in (Read place line ∷ before) = events_in before
events_in (Came item ∷ before) = events_in before
events_in (Went item ∷ before) = if is_one (event_in before) item then events_in before else events_in before + 1
events_in (Ended ∷ before) = events_in before

-- how many lines went late, that is, after one of a greater place
abbrev pub late_in : List Motion → ℕ
late_in [] = 0
late_in (Read place line ∷ before) = late_in before
late_in (Came item ∷ before) = late_in before
late_in (Went item ∷ before) = if is_late (went before) item then late_in before + 1 else late_in before
late_in (Ended ∷ before) = late_in before

-- ---- by which rules that happens

-- nothing was seen of a log
pub record IsFresh (compat : Bool) (all : AllSeen) : Type 0 where
  pub compat_is : all.compat ≡ compat
  pub clock : all.clock ≡ 0
  pub nothing : StandsForAll all []

-- a line that is read has this place by what was seen, and was seen then too
pub record IsRead (old new : AllSeen) (place : Place) (line : List ℕ) : Type 0 where
  pub has : HasPlace old (stamp_of line) place
  pub last : new.last ≡ place
  pub sees : SeesLine old new (stamp_of line) line place

-- a line that waits with this place and this number
abbrev pub waiting_of : Place → ℕ → List ℕ → Waiting
waiting_of place number line = record {
  time = place.time;
  goes_by = place.goes_by;
  serial = place.serial;
  ms = place.ms;
  node = place.node;
  rank = place.rank;
  number = number;
  line = line;
}

-- the line that comes is the one that was read, with its place
abbrev pub IsComing : Phase → ℕ → Waiting → Type 0
IsComing Between number item = ⊥
IsComing (Next place line) number item = item ≡ waiting_of place number line
IsComing AtEnd number item = ⊥

-- A line is due, beside these others that wait: between two lines of the log if the clock is more than the window past its place;
-- before the next one comes, if that says that its node was started, or if with it more bytes would wait than may; and at the end.
abbrev pub IsDue : Bounds → AllSeen → Phase → Waiting → List Waiting → Type 0
IsDue bounds all Between item others = item.time + bounds.window < all.clock
IsDue bounds all (Next place line) item others = (place.starts ≡ true) ⊎ (bounds.memory < bytes_of (item ∷ others) + length line)
IsDue bounds all AtEnd item others = ⊤

-- of the lines that had come and had not gone, none was before this one, and it was due
pub record IsNext (bounds : Bounds) (all : AllSeen) (before : List Motion) (item : Waiting) : Type 0 where
  pub others : List Waiting
  pub are : IsPermutation (came before) (went before ++ item ∷ others)
  pub least : IsLeast item others
  pub due : IsDue bounds all (phase before) item others

-- none of these lines that wait is due
abbrev pub AreEarly : Bounds → AllSeen → Phase → List Waiting → Type 0
AreEarly bounds all now waits =
    (item : Waiting) (others : List Waiting) → IsPermutation waits (item ∷ others) → IsDue bounds all now item others → ⊥

-- of the lines that had come and had not gone, none was due
pub record NoneIsDue (bounds : Bounds) (all : AllSeen) (before : List Motion) : Type 0 where
  pub waits : List Waiting
  pub are : IsPermutation (came before) (went before ++ waits)
  pub early : AreEarly bounds all (phase before) waits

-- an event is held no longer once a line of another one goes
abbrev pub Leaves : Bool → Event → AllSeen → AllSeen → Type 0
Leaves true event old new = new ≡ old
Leaves false event old new = ForgetsOf old new event.node (event.ms, event.serial)

abbrev pub Passes : Event → Waiting → AllSeen → AllSeen → Type 0
Passes event item old new = Leaves (is_one event item) event old new

-- Each line had its place by what was seen when it was read, each that went was the least of those that had come and had not gone,
-- and was due; no line was read, came, or was the last while one waited that was due; and this is what was seen at last.
abbrev pub InTurn : Bool → Bounds → AllSeen → List Motion → Type 0
InTurn compat bounds all [] = IsFresh compat all
InTurn compat bounds all (Read place line ∷ before) =
    (old : AllSeen) × InTurn compat bounds old before × (phase before ≡ Between) × IsRead old all place line × NoneIsDue bounds old before
InTurn compat bounds all (Came item ∷ before) =
    InTurn compat bounds all before × IsComing (phase before) (number_in before) item × NoneIsDue bounds all before
InTurn compat bounds all (Went item ∷ before) =
    (old : AllSeen) × InTurn compat bounds old before × IsNext bounds old before item × Passes (event_in before) item old all
InTurn compat bounds all (Ended ∷ before) = InTurn compat bounds all before × (phase before ≡ Between) × NoneIsDue bounds all before

-- Whenever a line went, each of those that had come and have a lesser place had gone.
abbrev pub LesserGoFirst : Type 0
LesserGoFirst =
    (compat : Bool) (bounds : Bounds) (all : AllSeen) (later before : List Motion) (item : Waiting)
    → InTurn compat bounds all (later ++ Went item ∷ before)
    → All (λ other. (is_lt (place_cmp other item) ≡ false) ⊎ Contains (went before) other) (came before)

-- Whenever a line was read, each of those that had come and whose place the clock was past by more than the window had gone.
abbrev pub PastHaveGone : Type 0
PastHaveGone =
    (compat : Bool) (bounds : Bounds) (all : AllSeen) (later before : List Motion) (place : Place) (line : List ℕ)
    → InTurn compat bounds all (later ++ Read place line ∷ before)
    → (seen : AllSeen) × InTurn compat bounds seen before
    × All (λ item. (seen.clock ≤ item.time + bounds.window) ⊎ Contains (went before) item) (came before)

-- Whenever a line came, all those had gone that had come before, or it and those that waited were within the memory.
abbrev pub FullMemoryHasGone : Type 0
FullMemoryHasGone =
    (compat : Bool) (bounds : Bounds) (all : AllSeen) (later before : List Motion) (item : Waiting)
    → InTurn compat bounds all (later ++ Came item ∷ before)
    → (waits : List Waiting) × IsPermutation (came before) (went before ++ waits)
    × ((waits ≡ []) ⊎ (bytes_of waits + length item.line ≤ bounds.memory))

-- Whenever a line came that says that its node was started, all those that had come before had gone.
abbrev pub AllHaveGone : Type 0
AllHaveGone =
    (compat : Bool) (bounds : Bounds) (all : AllSeen) (later before : List Motion) (item : Waiting) (place : Place) (line : List ℕ)
    → InTurn compat bounds all (later ++ Came item ∷ before) → phase before ≡ Next place line → place.starts ≡ true
    → IsPermutation (came before) (went before)

-- ---- what a sorter has of that

-- its bounds, what it has seen, also of processes, the event of the newest line that went, how many lines came, which of them wait,
-- and what was counted of those that went
pub record State : Type 0 where
  pub bounds : Bounds
  pub places : AllSeen
  pub kin : AllKept
  pub event : Event
  pub number : ℕ
  pub waits : List Waiting
  pub tally : Tally

-- what was counted is what went: a line would be late if its place is less than the greatest
pub record Counted (tally : Tally) (motions : List Motion) : Type 0 where
  pub events : tally.events ≡ events_in motions
  pub late : tally.late ≡ late_in motions
  pub greatest : (item : Waiting) → is_late (went motions) item ≡ is_less (spot_of item) tally.greatest

-- lines of a log came and went in turn, so that this is the phase and this the state
pub record Turns (compat : Bool) (now : Phase) (s : State) (given : List Told) (lines : List (List ℕ)) : Type 0 where
  pub motions : List Motion
  pub phase_is : phase motions ≡ now
  pub event_is : event_in motions ≡ s.event
  pub number_is : number_in motions ≡ s.number
  pub lines_are : texts_of (came motions) ≡ lines
  pub given_are : told_in compat motions ≡ given
  pub kin_compat : s.kin.compat ≡ compat
  pub kin_is : StandsForLines s.kin (reads_in motions)
  pub rest : IsPermutation (came motions) (went motions ++ s.waits)
  pub turns : InTurn compat s.bounds s.places motions
  pub counts : Counted s.tally motions

-- the line that was read waits
pub record Comes (old new : State) (item : Waiting) : Type 0 where
  pub come : IsPermutation (item ∷ old.waits) new.waits
  pub is : new ≡ record old { number = (old.number + 1) % 2 ^ 64; waits = new.waits }

-- one more event goes, if the line isn't of the one before it
abbrev pub begun_with : Event → Tally → Waiting → Tally
begun_with event tally item = if is_one event item then tally else record tally { events = tally.events + 1 }

-- what is counted after a line that went
abbrev pub tally_with : Event → Tally → Waiting → Tally
tally_with event tally item = tally_after (begun_with event tally item) (spot_of item)

-- a line goes, and of the state only what was seen, the event and what is counted change by that
pub record Turned (old new : State) (item : Waiting) (tally : Tally) : Type 0 where
  pub passes : Passes old.event item old.places new.places
  pub is : new ≡ record old { places = new.places; event = next_event old.event item; tally = tally }

-- the line of the least place goes
pub record GoesLeast (old new : State) (item : Waiting) : Type 0 where
  pub were : IsPermutation old.waits (item ∷ new.waits)
  pub least : IsLeast item new.waits
  pub turned : Turned (record old { waits = new.waits }) new item (tally_with old.event old.tally item)

-- whichever of the lines that wait is the least, it is due
abbrev pub MayGo : State → Phase → Type 0
MayGo s now = (item : Waiting) (others : List Waiting) → IsPermutation s.waits (item ∷ others) → IsLeast item others → IsDue s.bounds s.places now item others

-- in any phase
abbrev pub IsAny : Phase → Type 0
IsAny now = ⊤

-- all lines are due: a line was read that says that its node was started, or the log has ended
abbrev pub IsFree : Phase → Type 0
IsFree Between = ⊥
IsFree (Next place line) = place.starts ≡ true
IsFree AtEnd = ⊤

-- a line was read of this many bytes
abbrev pub IsOfBytes : ℕ → Phase → Type 0
IsOfBytes more (Next place line) = length line ≡ more
IsOfBytes more _ = ⊥

-- a line was read, and says that its node was started if this is so
abbrev pub StartsIf : Bool → Phase → Type 0
StartsIf starts (Next place line) = place.starts ≡ starts
StartsIf starts _ = ⊥
