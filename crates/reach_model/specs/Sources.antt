-- First flows, the objects that are sources, and the starts of forward questions.
use Rattle.std.specs.Prelude.{◌≡◌, ℕ, ◌≤◌, List, [], ◌∷◌, Option, Some, None, ⊤, Bool, cond, ◌==◌, ◌||◌}
use Rattle.flow_base.specs.declared.types.Flow.{Flow}
use Rattle.reach_model.specs.Flows.{source, target, time}

-- f has x at an end
abbrev pub touches : Flow → ℕ → Bool
touches f x = (source f == x) || (target f == x)

-- the first flow that has x at an end
abbrev pub first_at : List Flow → ℕ → Option Flow
first_at [] x = None
first_at (f ∷ F) x = cond (touches f x) (Some f) (first_at F x)

-- x is an object whose first flow leaves it
abbrev pub IsSource : List Flow → ℕ → Type 0
IsSource F x = (f : Flow) × (first_at F x ≡ Some f) × (source f ≡ x)

-- a start is allowed by a first flow if it is no later than that flow
abbrev pub StartsBy : Option Flow → ℕ → Type 0
StartsBy None s = ⊤
StartsBy (Some f) s = s ≤ time f

-- no start, or one that is no later than the first flow of u, so that it leaves out no flow of u
abbrev pub IsStartAllowed : List Flow → ℕ → Option ℕ → Type 0
IsStartAllowed F u None = ⊤
IsStartAllowed F u (Some s) = StartsBy (first_at F u) s
