-- A walk forward on its way.
use Rattle.std.specs.Prelude.{◌≡◌, ◌↔◌, ◌⊎◌, ℕ, ◌+◌, ◌<◌, ◌≤◌, List, slice_set, Bool, true, Option, IfSome, count_by}
use Rattle.std.specs.List.{Contains}
use Rattle.flow_base.specs.declared.types.Flow.{Flow}
use Rattle.reach_model.specs.Flows.{source, target, place}
use Rattle.reach_model.specs.Marks.{IsMarked}
use Rattle.reach_model.specs.Paths.{Reaches, IsSince, Fore}
use Rattle.reach_model.specs.Rows.{Row, firsts, lasts}
use Rattle.query_walk.specs.declared.way_fore.WayFore.{WayFore}
use Rattle.query_walk.specs.Arrivals.{Arrival, IsDue, Leads, LeadsOn, arrival, at_place}
use Rattle.query_walk.specs.Links.{leaves}

-- The flows before place b are done. Marked is what u reaches by them. Each later flow out of a marked object that is no
-- earlier than a time enters a marked object, or its arrival waits, and no others wait.
pub record IsForeAt (F : List Flow) (known b u : ℕ) (s : Option ℕ) (marks : List Bool) (waits_at : Arrival → Type 0) : Type 0 where
  pub exact : (v : ℕ) → v < known → IsMarked marks v ↔ Reaches (λ f. (Contains F f × IsSince s f) × (place f < b)) 0 u v
  pub waits : (f : Flow) → Contains F f → IsMarked marks (source f) → IsSince s f → b ≤ place f → IsMarked marks (target f) ⊎ waits_at (arrival (place f) (target f))
  pub only : (a : Arrival) → waits_at a → b ≤ at_place a → (f : Flow) × Contains F f × IsMarked marks (source f) × Leads (source f) b s f a

-- An object is reached at a place: it is marked, and the arrivals of its flows after that place into objects that aren't marked
-- wait. The rows that leave it were read.
pub record IsReached (R : List Row) (at object : ℕ) (s : Option ℕ) (marks : List Bool) (waits_at : Arrival → Type 0) (steps : ℕ) (marks' : List Bool) (waits_at' : Arrival → Type 0) (steps' : ℕ) : Type 0 where
  pub marks_it : marks' ≡ slice_set marks object true
  pub joins : (a : Arrival) → waits_at' a ↔ (waits_at a ⊎ ((f : Flow) × Contains (lasts R) f × LeadsOn marks' object (at + 1) s f a))
  pub read : steps' ≡ steps + count_by (leaves object) (firsts R)

-- if the rows are observable, an object is reached at a place
abbrev pub ReachesAt : Option (List Row) → ℕ → ℕ → Option ℕ → WayFore → ℕ → WayFore → ℕ → Type 0
ReachesAt told at object s old before new now = IfSome told (λ R. IsReached R at object s old.marks (IsDue old.waiting) before new.marks (IsDue new.waiting) now)

-- if the rows are observable, the same, provided that the object wasn't marked
abbrev pub ReachesIfNew : Option (List Row) → ℕ → ℕ → Option ℕ → WayFore → ℕ → WayFore → ℕ → Type 0
ReachesIfNew told at object s old before new now = IfSome told (λ R. ¬ IsMarked old.marks object → IsReached R at object s old.marks (IsDue old.waiting) before new.marks (IsDue new.waiting) now)

-- if the rows are observable, marked is what u reaches by their last flows
abbrev pub IsForeOver : Option (List Row) → ℕ → ℕ → Option ℕ → List Bool → Type 0
IsForeOver told known u s marks = IfSome told (λ R. (v : ℕ) → v < known → IsMarked marks v ↔ Fore (lasts R) u s v)
