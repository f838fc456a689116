-- Links in a list of kept flows, by its order.
use Rattle.std.specs.Prelude.{◌≡◌, ◌≢◌, ℕ, ◌<◌, List, length, slice_index_or}
use Rattle.std.specs.List.{Contains}
use Rattle.flow_base.specs.declared.types.Flow.{Flow}
use Rattle.reach_model.specs.Flows.{source, target}
use Rattle.reach_model.specs.Rows.{Row}

-- K has a flow from u to v and no later flow into u
pub record HasLink (K : List Flow) (u v : ℕ) : Type 0 where
  pub index : ℕ
  pub within : index < length K
  pub from : (d : Flow) → source (slice_index_or K index d) ≡ u
  pub to : (d : Flow) → target (slice_index_or K index d) ≡ v
  pub no_inflow_since : (k : ℕ) (d : Flow) → index < k → k < length K → target (slice_index_or K k d) ≢ u

-- no row has one object at both ends
abbrev pub EndsDiffer : List Row → Type 0
EndsDiffer R = (r : Row) → Contains R r → source r.first ≢ target r.first
