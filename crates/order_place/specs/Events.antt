-- The slots of the events that wait, of which the latest stands apart too.
use Rattle.std.specs.Prelude.{◌≡◌, ◌==◌, ◌&&◌, ℕ, List, Option, None, Some, if◌then◌else◌}
use Rattle.std.specs.Map.{lookup}
use Rattle.order_place.specs.declared.slot.Slot.{Slot}
use Rattle.order_place.specs.Places.{is_event}

-- what stands apart is what stands among the others at its event
abbrev pub IsLatest : Option ((ℕ × ℕ) × Slot) → List ((ℕ × ℕ) × Slot) → Type 0
IsLatest None events = Unit {0}
IsLatest (Some latest) events = lookup (is_event latest.0) events ≡ Some latest.1

-- the latest event, unless it is this one
abbrev pub latest_but : ℕ × ℕ → Option ((ℕ × ℕ) × Slot) → Option ((ℕ × ℕ) × Slot)
latest_but event None = None
latest_but event (Some latest) = if (latest.0.0 == event.0) && (latest.0.1 == event.1) then None else Some latest
