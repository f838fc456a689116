-- What waits at each place once one of them has changed.
use Rattle.std.proofs.Common.{◌≡◌, ◌∙◌, sym, refl, ap, ℕ, Bool, true, false, List, Option, None, Some, if◌then◌else◌}
use Rattle.std.specs.Prelude.{unwrap_or}
use Rattle.std.specs.Map.{lookup}
use Rattle.order_rules.specs.declared.doors.Door.{Door}
use Rattle.order_rules.specs.Deeds.{is_one}
use Rattle.order_rules.specs.Doors.{nobody}
use Rattle.order_rules.specs.Known.{Meetings, waits_at}

pub door_taken : (old inside : Meetings) (waits2 : List (List ℕ × Door)) (place : List ℕ) → inside ≡ old
    → ((other : List ℕ) → is_one place other ≡ false → lookup (is_one other) waits2 ≡ lookup (is_one other) inside.waits)
    → (other : List ℕ) → is_one place other ≡ false → waits_at (record inside { waits = waits2 }) other ≡ waits_at old other
door_taken old inside waits2 place same moved other isnt =
    ap (λ (o : Option Door). unwrap_or o nobody) (moved other isnt) ∙ ap (λ (m : Meetings). waits_at m other) same

put_some : (b : Bool) (door : Door) (before after : Option Door) → after ≡ (if b then Some door else before)
    → unwrap_or after nobody ≡ (if b then door else unwrap_or before nobody)
put_some true door before after is = ap (λ (o : Option Door). unwrap_or o nobody) is
put_some false door before after is = ap (λ (o : Option Door). unwrap_or o nobody) is

put_none : (b : Bool) (door : Door) (before after : Option Door) → door ≡ nobody → after ≡ (if b then None else before)
    → unwrap_or after nobody ≡ (if b then door else unwrap_or before nobody)
put_none true door before after none is = ap (λ (o : Option Door). unwrap_or o nobody) is ∙ sym none
put_none false door before after none is = ap (λ (o : Option Door). unwrap_or o nobody) is

pub door_put : (old inside : Meetings) (waits2 : List (List ℕ × Door)) (place other : List ℕ) (door : Door) → inside ≡ old
    → lookup (is_one other) waits2 ≡ (if is_one place other then Some door else lookup (is_one other) inside.waits)
    → waits_at (record inside { waits = waits2 }) other ≡ (if is_one place other then door else waits_at old other)
door_put old inside waits2 place other door same moved =
    put_some (is_one place other) door (lookup (is_one other) inside.waits) (lookup (is_one other) waits2) moved
    ∙ ap (λ (m : Meetings). if is_one place other then door else waits_at m other) same

pub door_left : (old inside : Meetings) (waits2 : List (List ℕ × Door)) (place other : List ℕ) (door : Door) → inside ≡ old → door ≡ nobody
    → lookup (is_one other) waits2 ≡ (if is_one place other then None else lookup (is_one other) inside.waits)
    → waits_at (record inside { waits = waits2 }) other ≡ (if is_one place other then door else waits_at old other)
door_left old inside waits2 place other door same none moved =
    put_none (is_one place other) door (lookup (is_one other) inside.waits) (lookup (is_one other) waits2) none moved
    ∙ ap (λ (m : Meetings). if is_one place other then door else waits_at m other) same

changed_door : (b : Bool) (now before mid after : Door) → (b ≡ false → mid ≡ before) → after ≡ (if b then now else mid) → after ≡ (if b then now else before)
changed_door true now before mid after stays is = is
changed_door false now before mid after stays is = is ∙ stays refl

-- what waited at a place was taken out, and this was put back
pub door_changed : (old mid new : Meetings) (place other : List ℕ) (now : Door)
    → ((other : List ℕ) → is_one place other ≡ false → waits_at mid other ≡ waits_at old other)
    → waits_at new other ≡ (if is_one place other then now else waits_at mid other)
    → waits_at new other ≡ (if is_one place other then now else waits_at old other)
door_changed old mid new place other now stays is =
    changed_door (is_one place other) now (waits_at old other) (waits_at mid other) (waits_at new other) (stays other) is
