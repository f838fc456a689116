-- What follows for the calls of a process, and of its children, from the places of their lines.
use Rattle.std.specs.Prelude.{◌≡◌, ◌⊎◌, ◌≤◌, ◌<◌, ⊤, ℕ, Bool, true, false, List, [], ◌∷◌, ◌++◌, Option, None, Some}
use Rattle.std.specs.List.{Contains}
use Rattle.order_text.specs.Stamp.{Stamp, stamp_of}
use Rattle.order_calls.specs.declared.call.Call.{Call}
use Rattle.order_place.specs.declared.places.Place.{Place}
use Rattle.order_place.specs.declared.slot.Slot.{Slot}
use Rattle.order_place.specs.Places.{node_of, is_boot, read_as}
use Rattle.order_place.specs.Sights.{Sight, Saw, Wrote, clock_in, event_in, call_in, call_after}
use Rattle.order_place.specs.Nodes.{AllSeen, is_node, sights_of, seen_by, slot_of}
use Rattle.order_place.specs.Laws.{GoesAfter}
use Rattle.order_queue.specs.declared.waiting.Waiting.{Waiting}
use Rattle.audit_order.specs.declared.bounds.Bounds.{Bounds}
use Rattle.audit_order.specs.Tally.{is_late}
use Rattle.audit_order.specs.Turns.{Motion, Event, Read, Came, Went, Ended, came, went, is_one, InTurn, waiting_of}
use Rattle.audit_order.specs.Turns as turns

-- what is seen by a line that is read, of this stamp or of none
abbrev pub read_sights : Bool → Option Stamp → List ℕ → Place → List (List ℕ × Sight)
read_sights compat None line place = []
read_sights compat (Some s) line place = seen_by (is_boot s.front) (node_of s.front) (Saw s (read_as compat s line) (slot_of place))

-- an event was written, if a line of another one is
abbrev pub left_sights : Bool → Event → List (List ℕ × Sight)
left_sights true event = []
left_sights false event = (event.node, Wrote (event.ms, event.serial)) ∷ []

-- what was seen of the nodes of a log, newest first
abbrev pub sights_in : Bool → List Motion → List (List ℕ × Sight)
sights_in compat [] = []
sights_in compat (Read place line ∷ before) = read_sights compat (stamp_of line) line place ++ sights_in compat before
sights_in compat (Came item ∷ before) = sights_in compat before
sights_in compat (Went item ∷ before) = left_sights (is_one (turns.event_in before) item) (turns.event_in before) ++ sights_in compat before
sights_in compat (Ended ∷ before) = sights_in compat before

-- what was seen of the node of a line before it
abbrev pub sights_before : Bool → List Motion → Stamp → List Sight
sights_before compat before s = sights_of (node_of s.front) (sights_in compat before)

-- a line was read that begins the event of a call, and doesn't start its node
pub record BeginsCall (compat : Bool) (before : List Motion) (line : List ℕ) (stamp : Stamp) (call : Call) : Type 0 where
  pub bears : stamp_of line ≡ Some stamp
  pub runs : is_boot stamp.front ≡ false
  pub begins : event_in (sights_before compat before stamp) (stamp.ms, stamp.number) ≡ None
  pub is : call_after (sights_before compat before stamp) (read_as compat stamp line) ≡ Some call

-- it is a call of a process of which a call, or the fork that began it, was seen before, at latest at this slot
pub record CallsAgain (compat : Bool) (before : List Motion) (line : List ℕ) (serial : ℕ) (earlier : Slot) : Type 0 where
  pub stamp : Stamp
  pub call : Call
  pub of_call : BeginsCall compat before line stamp call
  pub numbered : stamp.number ≡ serial
  pub was : call_in (sights_before compat before stamp) call.pid ≡ Some earlier

-- In an ordered log a call counts no earlier than the calls of its process and the forks that began it, of those that were read
-- before, as far as the clock had come with each. If it counts at the time of the latest of them it goes by no lesser number, unless
-- its own serial number is less.
abbrev pub CallsCountInOrder : Type 0
CallsCountInOrder =
    (compat : Bool) (bounds : Bounds) (all : AllSeen) (later before : List Motion) (place : Place) (line : List ℕ) (serial : ℕ) (earlier : Slot)
    → InTurn compat bounds all (later ++ Read place line ∷ before) → CallsAgain compat before line serial earlier
    → GoesAfter earlier (slot_of place) serial

-- Of two lines the one that counts no later and goes by no greater number, and whose serial number is less, goes first, unless it is
-- late.
abbrev pub SerialsGoInOrder : Type 0
SerialsGoInOrder =
    (before : List Motion) (first second : Waiting) → Contains (went before) second
    → first.time ≤ second.time → first.goes_by ≤ second.goes_by → first.serial < second.serial
    → is_late (went before) first ≡ true

-- ---- calls that are read later

-- by a line of this stamp, or of none, this node isn't started
abbrev pub IsNoStart : List ℕ → Option Stamp → Type 0
IsNoStart node None = ⊤
IsNoStart node (Some s) = (is_node (node_of s.front) node ≡ false) ⊎ (is_boot s.front ≡ false)

-- no line was read by which this node is started
abbrev pub RunsOn : List ℕ → List Motion → Type 0
RunsOn node [] = ⊤
RunsOn node (Read place line ∷ before) = IsNoStart node (stamp_of line) × RunsOn node before
RunsOn node (Came item ∷ before) = RunsOn node before
RunsOn node (Went item ∷ before) = RunsOn node before
RunsOn node (Ended ∷ before) = RunsOn node before

-- a line was read that is the record of a call of this process of this node, or of a fork that began it, and the clock had come with
-- the call
pub record HoldsBack (compat : Bool) (before : List Motion) (place : Place) (line : List ℕ) (node : List ℕ) (pid serial : ℕ) : Type 0 where
  pub stamp : Stamp
  pub call : Call
  pub of_call : BeginsCall compat before line stamp call
  pub of_node : node_of stamp.front ≡ node
  pub holds : (call.pid ≡ pid) ⊎ (call.child ≡ Some pid)
  pub numbered : stamp.number ≡ serial
  pub in_time : place.time ≤ clock_in (Saw stamp (read_as compat stamp line) (slot_of place) ∷ sights_before compat before stamp)

-- a line was read that is the record of a call of this process of this node
pub record IsCallOf (compat : Bool) (before : List Motion) (line : List ℕ) (node : List ℕ) (pid serial : ℕ) : Type 0 where
  pub stamp : Stamp
  pub call : Call
  pub of_call : BeginsCall compat before line stamp call
  pub of_node : node_of stamp.front ≡ node
  pub of_process : call.pid ≡ pid
  pub numbered : stamp.number ≡ serial

-- A call that is read after another call of its process, or after the fork that began it, counts no earlier than that, and at the
-- same time it goes by no lesser number than its serial number, unless its own is less: if the clock had come with that one, and
-- the node isn't started in between.
abbrev pub LaterCallsCountLater : Type 0
LaterCallsCountLater =
    (compat : Bool) (bounds : Bounds) (all : AllSeen) (later more before : List Motion) (first : Place) (first_line : List ℕ)
    (second : Place) (second_line node : List ℕ) (pid serial number : ℕ)
    → InTurn compat bounds all (later ++ Read second second_line ∷ (more ++ Read first first_line ∷ before))
    → HoldsBack compat before first first_line node pid serial
    → IsCallOf compat (more ++ Read first first_line ∷ before) second_line node pid number → RunsOn node more
    → GoesAfter (record { time = first.time; goes_by = serial }) (slot_of second) number

-- ---- forks

-- a line was read that is the record of a fork which was entered at this time, whose process's calls before it count at latest at
-- this slot
pub record Forks (compat : Bool) (before : List Motion) (line : List ℕ) (ms : ℕ) (earlier : Option Slot) : Type 0 where
  pub stamp : Stamp
  pub call : Call
  pub child : ℕ
  pub of_call : BeginsCall compat before line stamp call
  pub forks : call.child ≡ Some child
  pub entered : stamp.ms ≡ ms
  pub was : call_in (sights_before compat before stamp) call.pid ≡ earlier

-- a line counts after this slot, if there is one
abbrev pub IsPast : Option Slot → Waiting → Type 0
IsPast None other = ⊤
IsPast (Some earlier) other = (earlier.time < other.time) ⊎ ((earlier.time ≡ other.time) × (earlier.goes_by < other.serial))

-- A line that isn't a fork counts no earlier than a fork was entered, and after the calls of the process that forked: as the calls of
-- its child do.
pub record FollowsFork (ms : ℕ) (earlier : Option Slot) (other : Waiting) : Type 0 where
  pub own : other.goes_by ≡ other.serial
  pub numbered : 0 < other.serial
  pub entered : ms ≤ other.time
  pub past : IsPast earlier other

-- Whenever a line went that follows a fork, the fork had gone, if it had come.
abbrev pub ForksGoFirst : Type 0
ForksGoFirst =
    (compat : Bool) (bounds : Bounds) (all : AllSeen) (later more before : List Motion) (place : Place) (line : List ℕ) (ms : ℕ)
    (earlier : Option Slot) (number : ℕ) (other : Waiting)
    → InTurn compat bounds all (later ++ Went other ∷ (more ++ Read place line ∷ before)) → Forks compat before line ms earlier
    → FollowsFork ms earlier other → Contains (came (more ++ Read place line ∷ before)) (waiting_of place number line)
    → Contains (went (more ++ Read place line ∷ before)) (waiting_of place number line)
