-- What stands apart of the events that wait.
use Rattle.std.proofs.Common.{◌≡◌, ◌∙◌, arith, refl, ap, ℕ, Bool, true, false, List, Option, None, Some, if◌then◌else◌}
use Rattle.std.specs.Prelude.{◌==◌, ◌&&◌}
use Rattle.std.specs.Map.{lookup}
use Rattle.std.proofs.lemmas.Bool.Decides.{nat_tests}
use Rattle.order_place.specs.declared.slot.Slot.{Slot}
use Rattle.order_place.specs.Places.{is_event}
use Rattle.order_place.specs.Events.{IsLatest, latest_but}

another : (a b : ℕ × ℕ) → ((b.0 == a.0) && (b.1 == a.1)) ≡ false → is_event a b ≡ false
another a b isnt = grind (arith, nat_tests, isnt)

latest_by : (b : Bool) (event : ℕ × ℕ) (latest : (ℕ × ℕ) × Slot) (es es2 : List ((ℕ × ℕ) × Slot)) → ((latest.0.0 == event.0) && (latest.0.1 == event.1)) ≡ b
    → lookup (is_event latest.0) es ≡ Some latest.1
    → lookup (is_event latest.0) es2 ≡ (if is_event event latest.0 then None else lookup (is_event latest.0) es)
    → IsLatest (if b then None else Some latest) es2
latest_by true event latest es es2 is there moved = tt
latest_by false event latest es es2 isnt there moved =
    moved ∙ ap (λ (c : Bool). if c then None else lookup (is_event latest.0) es) (another event latest.0 isnt) ∙ there

-- an event is forgotten, and the latest one is still there, if it is another
pub latest_left : (event : ℕ × ℕ) (latest : Option ((ℕ × ℕ) × Slot)) (es es2 : List ((ℕ × ℕ) × Slot)) → IsLatest latest es
    → ((other : ℕ × ℕ) → lookup (is_event other) es2 ≡ (if is_event event other then None else lookup (is_event other) es))
    → IsLatest (latest_but event latest) es2
latest_left event None es es2 there moved = tt
latest_left event (Some latest) es es2 there moved = latest_by _ event latest es es2 refl there (moved latest.0)
