-- Paths in time order, and what they reach.
use Rattle.std.specs.Prelude.{◌≡◌, ℕ, suc, ◌≤◌, List, [], ◌∷◌, Option, Some, None, ⊤}
use Rattle.std.specs.List.{Contains}
use Rattle.flow_base.specs.declared.types.Flow.{Flow}
use Rattle.reach_model.specs.Flows.{source, target, time, place}

-- The empty list is a path from u to u. A flow and then a list is a path from u to v if the flow is allowed and leaves u,
-- and the list is a path from its target to v by later flows. All places are n or above.
abbrev pub Path : (Flow → Type 0) → ℕ → ℕ → ℕ → List Flow → Type 0
Path S n u v [] = u ≡ v
Path S n u v (f ∷ p) = S f × (n ≤ place f) × (source f ≡ u) × Path S (suc (place f)) (target f) v p

-- some path from u to v, by allowed flows with places from n on
abbrev pub Reaches : (Flow → Type 0) → ℕ → ℕ → ℕ → Type 0
Reaches S n u v = (p : List Flow) × Path S n u v p

-- a flow that is no later than a time; without one, every flow
abbrev pub IsUntil : Option ℕ → Flow → Type 0
IsUntil None f = ⊤
IsUntil (Some t) f = time f ≤ t

-- a flow that is no earlier than a time; without one, every flow
abbrev pub IsSince : Option ℕ → Flow → Type 0
IsSince None f = ⊤
IsSince (Some s) f = s ≤ time f

-- a path from u to v by flows of F with times at most t
abbrev pub Back : List Flow → ℕ → Option ℕ → ℕ → Type 0
Back F v t u = Reaches (λ f. Contains F f × IsUntil t f) 0 u v

-- a path from u to v by flows of F with times at least s
abbrev pub Fore : List Flow → ℕ → Option ℕ → ℕ → Type 0
Fore F u s v = Reaches (λ f. Contains F f × IsSince s f) 0 u v

-- the place of a path's last flow
abbrev pub last_place : List Flow → ℕ
last_place [] = 0
last_place (f ∷ []) = place f
last_place (f ∷ g ∷ p) = last_place (g ∷ p)
