-- Rows that are found by their links.
use Rattle.std.specs.Prelude.{◌≡◌, ℕ, ◌+◌, ◌==◌, if◌then◌else◌, Bool, List, Option, Some, None, IfSome, nat_lt, slice_index_or, false, take, drop, count_by}
use Rattle.flow_base.specs.declared.types.Flow.{Flow}
use Rattle.reach_model.specs.Flows.{source, target}
use Rattle.reach_model.specs.Rows.{Row, firsts}
use Rattle.reach_rows.specs.Kept.{IsLastOf, Enters}

-- a link to a row below a bound; another one leads nowhere
abbrev pub link_below : Option ℕ → ℕ → Option ℕ
link_below None bound = None
link_below (Some index) bound = if nat_lt index bound then Some index else None

-- one more than the row that a link names
abbrev pub link_end : Option ℕ → ℕ
link_end None = 0
link_end (Some index) = index + 1

-- whether a flow enters x, and whether it leaves x
abbrev pub enters : ℕ → Flow → Bool
enters x f = target f == x

abbrev pub leaves : ℕ → Flow → Bool
leaves x f = source f == x

-- whether a flow enters a marked object, and whether it leaves one
abbrev pub enters_marked : List Bool → Flow → Bool
enters_marked marks f = slice_index_or marks (target f) false

abbrev pub leaves_marked : List Bool → Flow → Bool
leaves_marked marks f = slice_index_or marks (source f) false

-- if the rows are observable, a link names the last row into x before an index
abbrev pub LinksInto : Option (List Row) → ℕ → ℕ → Option ℕ → Type 0
LinksInto told x index link = IfSome told (λ R. IsLastOf (take index (firsts R)) (Enters x) link)

-- if the rows are observable, one step was counted for each row into x from an index on
abbrev pub CountsInto : Option (List Row) → ℕ → ℕ → ℕ → ℕ → Type 0
CountsInto told x index before now = IfSome told (λ R. now ≡ before + count_by (enters x) (drop index (firsts R)))

-- if the rows are observable, one step was counted for each row out of x
abbrev pub CountsFrom : Option (List Row) → ℕ → ℕ → ℕ → Type 0
CountsFrom told x before now = IfSome told (λ R. now ≡ before + count_by (leaves x) (firsts R))

-- if the rows are observable, one step was counted for each row into a marked object, or for each row out of one
abbrev pub CountsIntoMarked : Option (List Row) → List Bool → ℕ → ℕ → Type 0
CountsIntoMarked told marks before now = IfSome told (λ R. now ≡ before + count_by (enters_marked marks) (firsts R))

abbrev pub CountsFromMarked : Option (List Row) → List Bool → ℕ → ℕ → Type 0
CountsFromMarked told marks before now = IfSome told (λ R. now ≡ before + count_by (leaves_marked marks) (firsts R))
