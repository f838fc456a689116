-- The places of lines.
use Rattle.std.specs.Prelude.{◌≡◌, ◌+◌, ◌||◌, ◌++◌, ℕ, List, [], Bool, false, Option, None, Some, drop, max, min, ◌==◌, nat_eq, nat_lt, codes, if◌then◌else◌}
use Rattle.std.specs.List.{starts_with, ends_with}
use Rattle.std.specs.Map.{lookup}
use Rattle.std.specs.declared.cmp.Ordering.{Ordering}
use Rattle.std.specs.Ordering.{nat_cmp, ordering_then, is_eq}
use Rattle.order_text.specs.Cut.{first_cut}
use Rattle.order_text.specs.Stamp.{Stamp, line_of}
use Rattle.order_text.specs.declared.rewrite.Rewrite.{Rewrite}
use Rattle.order_lines.specs.Own.{names_own}
use Rattle.order_lines.specs.Rules.{change_of}
use Rattle.order_calls.specs.declared.call.Call.{Call}
use Rattle.order_calls.specs.declared.call.Takes.{Takes}
use Rattle.order_calls.specs.declared.call.Takes.TheVariants as takes
use Rattle.order_calls.specs.Known.{Known, is_file_at}
use Rattle.order_calls.specs.Lines.{HearsIt, deed_of, call_of}
use Rattle.order_place.specs.declared.clock.Clock.{Clock}
use Rattle.order_place.specs.declared.places.Place.{Place}
use Rattle.order_place.specs.declared.slot.Slot.{Slot}
use Rattle.order_place.specs.Clocks.{clock_after}

-- What was seen of a node: its clock, the slot before which no call of a process counts, the one at which each event counts
-- that is held, by its time and its serial number, and which descriptors are known to be regular files.
pub record Seen : Type 0 where
  pub clock : Clock
  pub files : Known
  pub calls : List (ℕ × Slot)
  pub events : List ((ℕ × ℕ) × Slot)

-- one process
abbrev pub is_pid : ℕ → ℕ → Bool
is_pid a b = is_eq (nat_cmp a b)

-- events by time, then by serial number
abbrev pub event_cmp : ℕ × ℕ → ℕ × ℕ → Ordering
event_cmp a b = ordering_then (nat_cmp a.0 b.0) (nat_cmp a.1 b.1)

-- one event
abbrev pub is_event : ℕ × ℕ → ℕ × ℕ → Bool
is_event a b = is_eq (event_cmp a b)

-- A PROCTITLE stands after the other lines of its event, and an EOE after that. The record of a path that names a descriptor stands
-- before them, so that it is known what the event's call opened when the call's record is seen.
abbrev pub rank_of : Stamp → ℕ
rank_of s =
    if ends_with nat_eq s.front (codes "type=PROCTITLE msg=audit") then 2
    else if ends_with nat_eq s.front (codes "type=EOE msg=audit") then 3
    else if names_own s then 0 else 1

-- the name of the node that a line is of, as `node=NAME`; none if the line doesn't begin so
abbrev pub before_blank : Option (List ℕ × List ℕ) → List ℕ
before_blank None = []
before_blank (Some parts) = parts.0

abbrev pub node_of : List ℕ → List ℕ
node_of front = if starts_with nat_eq front (codes "node=") then before_blank (first_cut 32 front) else []

-- A node was started, or its audit daemon was, and what happened before that isn't in the log.
abbrev pub is_boot : List ℕ → Bool
is_boot front = ends_with nat_eq front (codes "type=SYSTEM_BOOT msg=audit") || ends_with nat_eq front (codes "type=DAEMON_START msg=audit")

-- A place is one of a line of this stamp: it bears the time, the serial number and the node of the line's event, its
-- rank within that, and whether the node was started.
pub record IsPlaceOf (s : Stamp) (p : Place) : Type 0 where
  pub node : p.node ≡ node_of s.front
  pub serial : p.serial ≡ s.number
  pub ms : p.ms ≡ s.ms
  pub rank : p.rank ≡ rank_of s
  pub starts : p.starts ≡ is_boot s.front

-- the slot before which no call of a process counts, if a call of it was seen, or the fork that began it
abbrev pub call_at : Seen → ℕ → Option Slot
call_at seen pid = lookup (is_pid pid) seen.calls

-- the slot at which an event counts, if it is held
abbrev pub event_at : Seen → ℕ × ℕ → Option Slot
event_at seen event = lookup (is_event event) seen.events

-- A call that may have waited counts at the time of the clock, and one that takes what stands in a regular file too, but at
-- most 4 milliseconds after its entry.
abbrev pub own_time : ℕ → ℕ → Takes → ℕ
own_time clock ms takes.Nothing = ms
own_time clock ms takes.File = max ms (min clock (ms + 4))
own_time clock ms takes.Awaited = max ms clock

-- not before this slot, if there is one
abbrev pub not_before : ℕ → Option Slot → ℕ
not_before time None = time
not_before time (Some before) = max time before.time

-- the time at which a call counts: not before its entry, nor before the process's call before it
abbrev pub call_time : Seen → ℕ → Call → ℕ
call_time seen ms call = not_before (own_time seen.clock.time ms call.takes) (call_at seen call.pid)

-- The number by which a fork goes among what counts at its time: that of its process's call before it, if that counts then too,
-- and else 0; but no greater one than its own.
abbrev pub fork_number : ℕ → ℕ → Option Slot → ℕ
fork_number time serial None = 0
fork_number time serial (Some before) = if time == before.time then min serial before.goes_by else 0

-- the number by which a call goes among what counts at its time: its serial number, if it isn't a fork
abbrev pub call_number : ℕ → ℕ → Option ℕ → Option Slot → ℕ
call_number time serial None before = serial
call_number time serial (Some child) before = fork_number time serial before

-- where a call counts
abbrev pub call_slot : Seen → ℕ × ℕ → Call → Slot
call_slot seen event call = record {
  time = call_time seen event.0 call;
  goes_by = call_number (call_time seen event.0 call) event.1 call.child (call_at seen call.pid);
}

-- where an event counts that begins with this line
abbrev pub first_slot : Seen → ℕ × ℕ → Option Call → Slot
first_slot seen event None = record { time = event.0; goes_by = event.1 }
first_slot seen event (Some call) = call_slot seen event call

-- where an event counts: at the slot of its first line
abbrev pub slot_or : Option Slot → Slot → Slot
slot_or None first = first
slot_or (Some slot) first = slot

abbrev pub event_slot : Seen → ℕ × ℕ → Option Call → Slot
event_slot seen event call = slot_or (event_at seen event) (first_slot seen event call)

-- the later of two slots, if there are two; of two at one time it has the greater number
abbrev pub later_of : Slot → Option Slot → Slot
later_of slot None = slot
later_of slot (Some before) =
    if slot.time == before.time then record { time = slot.time; goes_by = max slot.goes_by before.goes_by }
    else if nat_lt slot.time before.time then before else slot

-- the slot before which no call of a process counts, if this one's calls are held back to this slot
abbrev pub held_by : Option ℕ → Slot → ℕ → Option Slot → Option Slot
held_by None slot pid before = before
held_by (Some held) slot pid before = if is_pid held pid then Some (later_of slot before) else before

-- what holds back the calls after a call at this time: its serial number is theirs to follow, as far as the clock has come
abbrev pub held_at : ℕ → ℕ → ℕ → Slot
held_at time serial most = record { time = min time most; goes_by = serial }

-- the slots before which no calls of processes count, after a call: it holds back its process's calls, and those of its child
abbrev pub held_after : Option Call → Slot → ℕ → Option Slot → Option Slot
held_after None slot pid before = before
held_after (Some call) slot pid before = held_by call.child slot pid (held_by (Some call.pid) slot pid before)

abbrev pub calls_by : Seen → Option Call → ℕ × ℕ → ℕ → ℕ → Option Slot
calls_by seen call event most pid = held_after call (held_at (first_slot seen event call).time event.1 most) pid (call_at seen pid)

-- the calls of a process are held back to this slot, if there is one
pub record HoldsBack (old new : Seen) (held : Option ℕ) (slot : Slot) : Type 0 where
  pub each : (pid : ℕ) → call_at new pid ≡ held_by held slot pid (call_at old pid)

-- an event that is held has no further call; the first call of another holds calls back
abbrev pub calls_of : Seen → Option Slot → ℕ × ℕ → ℕ → Option Call → ℕ → Option Slot
calls_of seen (Some slot) event most call pid = call_at seen pid
calls_of seen None event most call pid = calls_by seen call event most pid

-- A line of an event was seen: the event is held at its slot, and its call is the last of the process if it is the first line.
pub record HoldsEvent (old new : Seen) (event : ℕ × ℕ) (most : ℕ) (call : Option Call) : Type 0 where
  pub clock : new.clock ≡ old.clock
  pub files : new.files ≡ old.files
  pub calls : (pid : ℕ) → call_at new pid ≡ calls_of old (event_at old event) event most call pid
  pub events : (other : ℕ × ℕ) → event_at new other ≡ (if is_event event other then Some (event_slot old event call) else event_at old other)

-- A line of this stamp and this call was seen, and counts at this slot: that of its event.
pub record Sees (old new : Seen) (s : Stamp) (call : Option Call) (at : Slot) : Type 0 where
  pub slot : at ≡ event_slot old (s.ms, s.number) call
  pub clock : new.clock ≡ clock_after old.clock s.ms s.number
  pub calls : (pid : ℕ) → call_at new pid
      ≡ calls_of old (event_at old (s.ms, s.number)) (s.ms, s.number) (clock_after old.clock s.ms s.number).time call pid
  pub events : (other : ℕ × ℕ) → event_at new other
      ≡ (if is_event (s.ms, s.number) other then Some (event_slot old (s.ms, s.number) call) else event_at old other)

-- ---- the line of a 32-bit call as it will be rewritten

-- a line with another text at the beginning of what stands after its stamp
abbrev pub read_with : Stamp → List ℕ → Option Rewrite → List ℕ
read_with s line None = line
read_with s line (Some r) = line_of (record s { rest = r.text ++ drop r.len s.rest })

-- how a line is read: if 32-bit calls are rewritten, as the 64-bit call that the rule writes
abbrev pub read_as : Bool → Stamp → List ℕ → List ℕ
read_as compat s line = read_with s line (change_of (record { join = false; compat = compat }) s)

-- the call of a line, by what was seen
abbrev pub call_by : Seen → List ℕ → Option Call
call_by seen line = call_of (is_file_at seen.files) line

-- A line of this stamp was seen, and counts at this slot. Its call is by what was known of descriptors, and what it says of
-- them is known from then on.
pub record SeesNext (old new : Seen) (s : Stamp) (line : List ℕ) (at : Slot) : Type 0 where
  pub sees : Sees old new s (call_by old line) at
  pub hears : HearsIt old.files new.files (s.ms, s.number) (deed_of line)

-- an event is held no longer
pub record Forgets (old new : Seen) (event : ℕ × ℕ) : Type 0 where
  pub clock : new.clock ≡ old.clock
  pub files : new.files ≡ old.files
  pub calls : (pid : ℕ) → call_at new pid ≡ call_at old pid
  pub events : (other : ℕ × ℕ) → event_at new other ≡ (if is_event event other then None else event_at old other)
