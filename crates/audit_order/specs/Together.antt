-- What follows for events from the places of their lines.
use Rattle.std.specs.Prelude.{◌≡◌, ◌⊎◌, Bool, true, false, is_some, List, ◌∷◌, ◌++◌}
use Rattle.std.specs.List.{All, Contains}
use Rattle.order_text.specs.Stamp.{stamp_of}
use Rattle.order_place.specs.Nodes.{AllSeen}
use Rattle.order_queue.specs.declared.waiting.Waiting.{Waiting}
use Rattle.audit_order.specs.declared.bounds.Bounds.{Bounds}
use Rattle.audit_order.specs.Tally.{is_late}
use Rattle.audit_order.specs.Turns.{Motion, Event, Went, no_event, came, went, is_one, InTurn}

-- the event of a line
abbrev pub event_of : Waiting → Event
event_of item = record { node = item.node; ms = item.ms; serial = item.serial }

-- of the lines of its event this one goes first
pub record BeginsEvent (before : List Motion) (first : Waiting) : Type 0 where
  pub known : is_one no_event first ≡ false
  pub stamped : is_some (stamp_of first.line) ≡ true
  pub none : All (λ other. is_one (event_of first) other ≡ false) (went before)

-- a line of the same event has come, and has a stamp
pub record IsOfEvent (before : List Motion) (first other : Waiting) : Type 0 where
  pub came : Contains (came before) other
  pub stamped : is_some (stamp_of other.line) ≡ true
  pub same : is_one (event_of first) other ≡ true

-- Once the first line of an event has gone, only lines of the event go, and late ones, as long as a line waits that had come by then.
-- Lines before the first stamp are of no event here, nor are lines without a stamp.
abbrev pub EventsGoTogether : Type 0
EventsGoTogether =
    (compat : Bool) (bounds : Bounds) (all : AllSeen) (later more before : List Motion) (first item last : Waiting)
    → InTurn compat bounds all (later ++ Went item ∷ (more ++ Went first ∷ before))
    → BeginsEvent before first → IsOfEvent before first last → (Contains (went (more ++ Went first ∷ before)) last → ⊥)
    → (is_one (event_of first) item ≡ true) ⊎ (is_late (went (more ++ Went first ∷ before)) item ≡ true)
