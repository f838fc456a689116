-- Paths as a walk backward finds them, from the last flow to the first.
use Rattle.std.specs.Prelude.{◌≡◌, ◌⊎◌, ℕ, ◌<◌, List, length, take, slice_index_or, Option, Some, None, IfSome}
use Rattle.std.specs.List.{Contains}
use Rattle.flow_base.specs.declared.types.Flow.{Flow}
use Rattle.reach_model.specs.Flows.{source, target, place}
use Rattle.reach_model.specs.Paths.{Back, IsUntil, Path}
use Rattle.reach_model.specs.Rows.{Row, firsts}

-- a flow of F that is no later than a time
abbrev pub IsHopOf : List Flow → Option ℕ → Flow → Type 0
IsHopOf F t f = Contains F f × IsUntil t f

-- a path from u to v by flows of F no later than t, or nothing exactly if there is none
abbrev pub IsShown : List Flow → ℕ → ℕ → Option ℕ → Option (List Flow) → Type 0
IsShown F u v t None = ¬ Back F v t u
IsShown F u v t (Some p) = Path (IsHopOf F t) 0 u v p

-- if the rows are observable, the same by their first flows
abbrev pub ShowsPath : Option (List Row) → ℕ → ℕ → Option ℕ → Option (List Flow) → Type 0
ShowsPath told u v t found = IfSome told (λ R. IsShown (firsts R) u v t found)

-- one of the flows H leaves u, or u is v
abbrev pub IsLed : List Flow → ℕ → ℕ → Type 0
IsLed H v u = (u ≡ v) ⊎ ((f : Flow) × Contains H f × (source f ≡ u))

-- Flows that lead to v, from the last to the first: each is allowed, has a lower place than the ones that were found before it,
-- and enters v or an object that one of those leaves.
pub record IsWay (S : Flow → Type 0) (v : ℕ) (H : List Flow) : Type 0 where
  pub meets : (f : Flow) → Contains H f → S f
  pub descends : (j k : ℕ) (d : Flow) → j < k → k < length H → place (slice_index_or H k d) < place (slice_index_or H j d)
  pub leads : (k : ℕ) (d : Flow) → k < length H → IsLed (take k H) v (target (slice_index_or H k d))

-- a path from u to whatever the hops lead to
abbrev pub IsTrace : List Flow → ℕ → List Flow → Type 0
IsTrace hops u path = (F : List Flow) (v : ℕ) (t : Option ℕ) → IsWay (IsHopOf F t) v hops → IsLed hops v u → Path (IsHopOf F t) 0 u v path
