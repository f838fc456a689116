-- What the tables of a mode owe for the rows that they stand for.
use Rattle.std.specs.Prelude.{◌≡◌, ◌≢◌, ℕ, ◌<◌, ◌^◌, List, length, slice_index_or, ⊤, ◌⊎◌}
use Rattle.std.specs.List.{Contains}
use Rattle.flow_base.specs.declared.types.Flow.{Flow}
use Rattle.reach_model.specs.declared.modes.Mode.{Mode}
use Rattle.reach_model.specs.declared.modes.Verdict.{Verdict}
use Rattle.reach_model.specs.declared.modes.Verdict.TheVariants.{Drop, Add, Extend}
use Rattle.reach_model.specs.Flows.{source, target, place}
use Rattle.reach_model.specs.Rows.{Row, SamePair}
use Rattle.reach_model.specs.ByRows.{IsVerdictByRows}
use Rattle.reach_rows.specs.Kept.{ComesAfter}

-- so few rows that one more can be counted
abbrev pub AreFew : List Row → Type 0
AreFew R = length R < 2 ^ 63

-- f comes after the rows R, and the mode has this verdict on it
pub record IsNext (mode : Mode) (R : List Row) (f : Flow) (d : Verdict) : Type 0 where
  pub after : ComesAfter R f
  pub differ : source f ≢ target f
  pub verdict : IsVerdictByRows mode R f d
  pub few : AreFew R

-- a row that was kept before comes back after the rows R, in their order
pub record IsRecalled (R : List Row) (r : Row) : Type 0 where
  pub pair : SamePair r.last r.first
  pub differ : source r.first ≢ target r.first
  pub after : (s : Row) → Contains R s → place s.first < place r.first
  pub few : AreFew R

-- some row has x at an end
abbrev pub HasEnd : List Row → ℕ → Type 0
HasEnd R x = (r : Row) × Contains R r × ((source r.last ≡ x) ⊎ (target r.last ≡ x))

-- a verdict that names no row but one of f's pair, and keeps a flow with an end that no row has
abbrev pub FitsRows : List Row → Flow → Verdict → Type 0
FitsRows R f Drop = HasEnd R (source f) × HasEnd R (target f)
FitsRows R f Add = ⊤
FitsRows R f (Extend i) = (i < length R) × ((d : Row) → SamePair (slice_index_or R i d).last f)
