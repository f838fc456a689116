-- Lists of flows.
use Rattle.std.specs.Prelude.{◌≡◌, ◌≢◌, ℕ, ◌<◌, ◌≤◌, List, length, slice_index_or}
use Rattle.flow_base.specs.declared.types.Flow.{Flow}

-- the object that a flow leaves, by its number
abbrev pub source : Flow → ℕ
source f = f.from.0

-- the object that it enters
abbrev pub target : Flow → ℕ
target f = f.to.0

-- its time in milliseconds
abbrev pub time : Flow → ℕ
time f = f.at.ms

-- its place among the flows
abbrev pub place : Flow → ℕ
place f = f.at.place

-- places are 0, 1, 2 and so on, times never fall, and no flow has one object at both ends
pub record IsLawful (F : List Flow) : Type 0 where
  pub places : (k : ℕ) (d : Flow) → k < length F → place (slice_index_or F k d) ≡ k
  pub times : (j k : ℕ) (d : Flow) → j ≤ k → k < length F → time (slice_index_or F j d) ≤ time (slice_index_or F k d)
  pub ends : (k : ℕ) (d : Flow) → k < length F → source (slice_index_or F k d) ≢ target (slice_index_or F k d)
