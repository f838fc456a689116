-- A walk backward on its way.
use Rattle.std.specs.Prelude.{◌≡◌, ◌↔◌, ℕ, ◌+◌, ◌<◌, ◌≤◌, List, [], ◌∷◌, ◌++◌, take, drop, slice_index_or, slice_set, count_by, Bool, true, Option, Some, IfSome}
use Rattle.std.specs.List.{Contains}
use Rattle.flow_base.specs.declared.types.Flow.{Flow}
use Rattle.reach_model.specs.Flows.{source, target, place}
use Rattle.reach_model.specs.Marks.{IsMarked}
use Rattle.reach_model.specs.Paths.{Back, IsUntil}
use Rattle.reach_model.specs.Rows.{Row, firsts}
use Rattle.reach_rows.specs.Kept.{IsLastOf, Enters}
use Rattle.query_walk.specs.declared.way_back.WayBack.{WayBack}
use Rattle.query_walk.specs.Links.{enters, enters_marked}
use Rattle.query_walk.specs.Waiting.{Joins, Waiting, Waits}
use Rattle.query_walk.specs.Ways.{IsHopOf, IsLed, IsWay}

-- The flows from n on are done. Marked is what reaches v by them. For each earlier flow into a marked object a flow into that
-- object waits that is no earlier, and no others wait. Each marked object except v is left by a hop, and each hop has a higher
-- place than the flows before n.
pub record IsBackAt (F : List Flow) (known n v : ℕ) (t : Option ℕ) (marks : List Bool) (waits_at : ℕ → Type 0) (hops : List Flow) : Type 0 where
  pub exact : (u : ℕ) → u < known → IsMarked marks u ↔ Back (drop n F) v t u
  pub waits : (j : ℕ) (d : Flow) → j < n → IsMarked marks (target (slice_index_or F j d)) → (i : ℕ) × waits_at i × (j ≤ i) × (i < n) × (target (slice_index_or F i d) ≡ target (slice_index_or F j d))
  pub only : (i : ℕ) (d : Flow) → waits_at i → i < n → IsMarked marks (target (slice_index_or F i d))
  pub way : IsWay (IsHopOf F t) v hops
  pub led : (u : ℕ) → IsMarked marks u → IsLed hops v u
  pub done : (f : Flow) (i : ℕ) (d : Flow) → Contains hops f → i < n → place (slice_index_or F i d) < place f

-- by f an object is found: f enters a marked object, isn't too late, and leaves an object that isn't marked yet
abbrev pub Finds : List Bool → Option ℕ → Flow → Type 0
Finds marks t f = IsMarked marks (target f) × ¬ IsMarked marks (source f) × IsUntil t f

-- An object is found by f at row i: it is marked, f is its hop, and the last row into it before i waits. The rows into it from
-- i on were read.
pub record IsFound (F : List Flow) (i : ℕ) (f : Flow) (marks : List Bool) (waits_at : ℕ → Type 0) (hops : List Flow) (steps : ℕ) (marks' : List Bool) (waits_at' : ℕ → Type 0) (hops' : List Flow) (steps' : ℕ) : Type 0 where
  pub marks_it : marks' ≡ slice_set marks (source f) true
  pub hop : hops' ≡ hops ++ f ∷ []
  pub last : Option ℕ
  pub is_last : IsLastOf (take i F) (Enters (source f)) last
  pub joins : Joins waits_at last waits_at'
  pub read : steps' ≡ steps + count_by (enters (source f)) (drop i F)

-- if the rows are observable, an object is found by f at one of them
abbrev pub FindsAt : Option (List Row) → ℕ → Flow → WayBack → ℕ → WayBack → ℕ → Type 0
FindsAt told i f old before new now = IfSome told (λ R. IsFound (firsts R) i f old.marks (Waits old.waiting) old.hops.items before new.marks (Waits new.waiting) new.hops.items now)

-- if the rows are observable, the same, provided that f finds an object
abbrev pub FindsIfNew : Option (List Row) → ℕ → Flow → Option ℕ → WayBack → ℕ → WayBack → ℕ → Type 0
FindsIfNew told i f t old before new now = IfSome told (λ R. Finds old.marks t f → IsFound (firsts R) i f old.marks (Waits old.waiting) old.hops.items before new.marks (Waits new.waiting) new.hops.items now)

-- if the rows are observable, a walk that stood after a row that waits stands at it
abbrev pub StepsBack : Option (List Row) → ℕ → ℕ → Option ℕ → WayBack → WayBack → Type 0
StepsBack told known i t old new = IfSome told (λ R. (v : ℕ) → Waits old.waiting i → IsBackAt (firsts R) known (i + 1) v t old.marks (Waits old.waiting) old.hops.items
    → IsBackAt (firsts R) known i v t new.marks (Waits new.waiting) new.hops.items)

-- if the rows are observable and the row enters a marked object, one step was counted for each row from it on into an object
-- that is marked now, and as many were counted before for the rows after it into objects that were marked then
abbrev pub CountsBack : Option (List Row) → ℕ → WayBack → ℕ → WayBack → ℕ → Type 0
CountsBack told i old before new now = IfSome told (λ R. ((d : Flow) → IsMarked old.marks (target (slice_index_or (firsts R) i d)))
    → now + count_by (enters_marked old.marks) (drop (i + 1) (firsts R)) ≡ before + count_by (enters_marked new.marks) (drop i (firsts R)))

-- if the rows are observable, the last row into v waits, if there is one, and no other
abbrev pub LastWaits : Option (List Row) → ℕ → Waiting → Type 0
LastWaits told v waiting = (link : Option ℕ) × IfSome told (λ R. IsLastOf (firsts R) (Enters v) link) × ((i : ℕ) → Waits waiting i ↔ (link ≡ Some i))

-- The walk is done: marked is what reaches v, and each marked object except v is left by a hop.
pub record IsBack (F : List Flow) (known v : ℕ) (t : Option ℕ) (marks : List Bool) (hops : List Flow) : Type 0 where
  pub exact : (u : ℕ) → u < known → IsMarked marks u ↔ Back F v t u
  pub way : IsWay (IsHopOf F t) v hops
  pub led : (u : ℕ) → IsMarked marks u → IsLed hops v u

-- if the rows are observable, a walk over their first flows is done
abbrev pub IsBackOver : Option (List Row) → ℕ → ℕ → Option ℕ → WayBack → Type 0
IsBackOver told known v t back = IfSome told (λ R. IsBack (firsts R) known v t back.marks back.hops.items)
