-- What was seen of a log, and what it says of the next line.
use Rattle.std.specs.Prelude.{◌≡◌, ◌≤◌, ◌==◌, ◌++◌, ℕ, List, [], ◌∷◌, Option, None, Some, max, if◌then◌else◌}
use Rattle.order_text.specs.Stamp.{Stamp}
use Rattle.order_calls.specs.declared.call.Call.{Call}
use Rattle.order_calls.specs.Deeds.{Said, is_file_in}
use Rattle.order_calls.specs.Known.{StandsFor as Stands}
use Rattle.order_calls.specs.Lines.{saying, deed_of, call_of}
use Rattle.order_place.specs.Clocks.{others_at, time_after}
use Rattle.order_place.specs.declared.slot.Slot.{Slot}
use Rattle.order_place.specs.Places.{Seen, is_event, call_at, event_at, held_at, held_after}

-- What was seen of a node: a line of this stamp, which counts at this slot; or that an event was written, and is held no
-- longer; or that the node was started.
pub data Sight : Type 0 where
  Saw : Stamp → List ℕ → Slot → Sight
  Wrote : ℕ × ℕ → Sight
  Started : Sight

-- the greatest time that a line of another serial number bore, of what was seen since the start, newest first
abbrev pub others_in : List Sight → ℕ → ℕ
others_in [] serial = 0
others_in (Saw s line slot ∷ before) serial = if serial == s.number then others_in before serial else max (others_in before serial) s.ms
others_in (Wrote event ∷ before) serial = others_in before serial
others_in (Started ∷ before) serial = 0

-- the greatest time of a line that was at most 20 seconds past the times of other events before it
abbrev pub clock_in : List Sight → ℕ
clock_in [] = 0
clock_in (Saw s line slot ∷ before) = time_after (clock_in before) (others_in before s.number) s.ms
clock_in (Wrote event ∷ before) = clock_in before
clock_in (Started ∷ before) = 0

-- the slot of the newest line of an event, unless the event was written since
abbrev pub event_in : List Sight → ℕ × ℕ → Option Slot
event_in [] event = None
event_in (Saw s line slot ∷ before) event = if is_event (s.ms, s.number) event then Some slot else event_in before event
event_in (Wrote written ∷ before) event = if is_event written event then None else event_in before event
event_in (Started ∷ before) event = event_in before event

-- what lines said of descriptors since the node was started
abbrev pub said_in : List Sight → List Said
said_in [] = []
said_in (Saw s line slot ∷ before) = saying (s.ms, s.number) (deed_of line) ++ said_in before
said_in (Wrote event ∷ before) = said_in before
said_in (Started ∷ before) = []

-- the call of a line, by what was seen before it
abbrev pub call_after : List Sight → List ℕ → Option Call
call_after before line = call_of (is_file_in (said_in before)) line

-- a line that doesn't begin its event is no further call
abbrev pub begun_or : Option Slot → Option Call → Slot → ℕ → Option Slot → Option Slot
begun_or None call slot pid before = held_after call slot pid before
begun_or (Some event) call slot pid before = before

-- The latest slot of the calls of a process and of the forks that began it, of their serial numbers and as far as the clock had come
-- with each: of the lines that began an event with one.
abbrev pub call_in : List Sight → ℕ → Option Slot
call_in [] pid = None
call_in (Saw s line slot ∷ before) pid =
    begun_or (event_in before (s.ms, s.number)) (call_after before line) (held_at slot.time s.number (clock_in (Saw s line slot ∷ before))) pid
    (call_in before pid)
call_in (Wrote event ∷ before) pid = call_in before pid
call_in (Started ∷ before) pid = None

-- what is known is what was seen, newest first
pub record StandsFor (seen : Seen) (sights : List Sight) : Type 0 where
  pub clock : seen.clock.time ≡ clock_in sights
  pub others : (serial : ℕ) → others_at seen.clock serial ≡ others_in sights serial
  pub second : seen.clock.second ≤ seen.clock.greatest
  pub calls : (pid : ℕ) → call_at seen pid ≡ call_in sights pid
  pub events : (event : ℕ × ℕ) → event_at seen event ≡ event_in sights event
  pub files : Stands seen.files (said_in sights)
  pub entry : (event : ℕ × ℕ) (slot : Slot) → event_at seen event ≡ Some slot → event.0 ≤ slot.time
