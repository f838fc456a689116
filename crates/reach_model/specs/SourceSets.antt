-- The sources of an object in a list of flows.
use Rattle.std.specs.Prelude.{◌≡◌, ℕ, ◌<◌, List, None, ◌⊎◌}
use Rattle.std.specs.List.{Contains}
use Rattle.flow_base.specs.declared.types.Flow.{Flow}
use Rattle.reach_model.specs.Flows.{source, target, place}
use Rattle.reach_model.specs.Paths.{Reaches}
use Rattle.reach_model.specs.Sources.{first_at, IsSource}

-- f comes after each of the flows K
abbrev pub IsLater : List Flow → Flow → Type 0
IsLater K f = (g : Flow) → Contains K g → place g < place f

-- x is a source from which a path leads to v
abbrev pub HasSource : List Flow → ℕ → ℕ → Type 0
HasSource K v x = IsSource K x × Reaches (Contains K) 0 x v

-- f makes x a source: it leaves x, which had no flow
abbrev pub MakesSource : List Flow → Flow → ℕ → Type 0
MakesSource K f x = (first_at K x ≡ None) × (source f ≡ x)

-- the sources of v after f, in terms of those before it
abbrev pub HasSourceAfter : List Flow → Flow → ℕ → ℕ → Type 0
HasSourceAfter K f v x = HasSource K v x ⊎ ((MakesSource K f x × ((v ≡ source f) ⊎ (v ≡ target f))) ⊎ ((v ≡ target f) × HasSource K (source f) x))
