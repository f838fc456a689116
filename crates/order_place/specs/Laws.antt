-- What holds of the place of a line by what was seen.
use Rattle.std.specs.Prelude.{◌≡◌, ◌≤◌, ◌+◌, ◌++◌, ℕ, List, ◌∷◌, Option, None, Some, min}
use Rattle.order_text.specs.Stamp.{Stamp}
use Rattle.order_calls.specs.declared.call.Call.{Call}
use Rattle.order_calls.specs.declared.call.Takes.TheVariants as takes
use Rattle.order_place.specs.declared.places.Place.{Place}
use Rattle.order_place.specs.declared.slot.Slot.{Slot}
use Rattle.order_place.specs.Places.{Seen, SeesNext, not_before, fork_number, node_of, is_boot, read_as}
use Rattle.order_place.specs.Nodes.{AllSeen, SeesOf, ForgetsOf, seen_by, slot_of, StandsForAll}
use Rattle.order_place.specs.Sights.{Sight, Saw, Wrote, StandsFor, others_in, event_in, call_in, call_after}

-- what is known stays what was seen of each node
abbrev pub SeesOn : Type 0
SeesOn =
    (old new : AllSeen) (s : Stamp) (line : List ℕ) (p : Place) (sights : List (List ℕ × Sight))
    → StandsForAll old sights → SeesOf old new s line p
    → StandsForAll new (seen_by (is_boot s.front) (node_of s.front) (Saw s (read_as old.compat s line) (slot_of p)) ++ sights)

abbrev pub WritesOn : Type 0
WritesOn =
    (old new : AllSeen) (name : List ℕ) (event : ℕ × ℕ) (sights : List (List ℕ × Sight))
    → StandsForAll old sights → ForgetsOf old new name event → StandsForAll new ((name, Wrote event) ∷ sights)

-- a line of an event that is held counts at the slot of the event's line before it
abbrev pub CountsTogether : Type 0
CountsTogether =
    (old new : Seen) (s : Stamp) (line : List ℕ) (slot : Slot) (sights : List Sight) (before : Slot)
    → StandsFor old sights → SeesNext old new s line slot → event_in sights (s.ms, s.number) ≡ Some before → slot ≡ before

-- A call of this serial number counts no earlier than this slot. At the same time it goes by no lesser number, if its own isn't less.
pub record GoesAfter (before slot : Slot) (serial : ℕ) : Type 0 where
  pub time : before.time ≤ slot.time
  pub number : slot.time ≡ before.time → min serial before.goes_by ≤ slot.goes_by

-- a call counts no earlier than the calls of its process before it and the forks that began it, as far as the clock had come with
-- them
abbrev pub KeepsOrder : Type 0
KeepsOrder =
    (old new : Seen) (s : Stamp) (line : List ℕ) (call : Call) (slot : Slot) (sights : List Sight) (before : Slot)
    → StandsFor old sights → SeesNext old new s line slot → event_in sights (s.ms, s.number) ≡ None
    → call_after sights line ≡ Some call → call_in sights call.pid ≡ Some before → GoesAfter before slot s.number

-- a fork counts at its entry, or at the time of its process's call before it if that is later, and goes right after that call
abbrev pub fork_slot : Stamp → Option Slot → Slot
fork_slot s before = record {
  time = not_before s.ms before;
  goes_by = fork_number (not_before s.ms before) s.number before;
}

abbrev pub ForksGoEarly : Type 0
ForksGoEarly =
    (old new : Seen) (s : Stamp) (line : List ℕ) (call : Call) (child : ℕ) (slot : Slot) (sights : List Sight)
    → StandsFor old sights → SeesNext old new s line slot → event_in sights (s.ms, s.number) ≡ None
    → call_after sights line ≡ Some call → call.child ≡ Some child → slot ≡ fork_slot s (call_in sights call.pid)

-- a line counts no earlier than its own time
abbrev pub CountsAfterEntry : Type 0
CountsAfterEntry =
    (old new : Seen) (s : Stamp) (line : List ℕ) (slot : Slot) (sights : List Sight)
    → StandsFor old sights → SeesNext old new s line slot → s.ms ≤ slot.time

-- A read of what is known to be a regular file counts at most 4 milliseconds after its entry, unless its process's call before
-- it, or the fork that began the process, counts later.
abbrev pub FilesDoNotWait : Type 0
FilesDoNotWait =
    (old new : Seen) (s : Stamp) (line : List ℕ) (call : Call) (slot : Slot) (sights : List Sight)
    → StandsFor old sights → SeesNext old new s line slot → event_in sights (s.ms, s.number) ≡ None
    → call_after sights line ≡ Some call → call.takes ≡ takes.File → slot.time ≤ not_before (s.ms + 4) (call_in sights call.pid)

-- whichever event is left out, the clock is at most 20 seconds past the times of the others
abbrev pub IsShared : Type 0
IsShared = (seen : Seen) (sights : List Sight) (serial : ℕ) → StandsFor seen sights → seen.clock.time ≤ others_in sights serial + 20000
