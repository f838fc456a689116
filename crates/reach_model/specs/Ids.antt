-- Sets of objects as ascending lists of their numbers.
use Rattle.std.specs.Prelude.{ℕ, ◌<◌, List, length, map, slice_index_or}
use Rattle.flow_base.specs.declared.types.EntityId.{EntityId}

-- the numbers of objects
abbrev pub numbers : List EntityId → List ℕ
numbers ids = map (λ i. i.0) ids

-- each number is below all later ones
abbrev pub IsAscending : List ℕ → Type 0
IsAscending xs = (j k : ℕ) → j < k → k < length xs → slice_index_or xs j 0 < slice_index_or xs k 0
