-- What the tables of continuous mode say of the rows.
use Rattle.std.specs.Prelude.{◌≡◌, ℕ, max, cond, nat_lt, nat_eq, ◌<◌, ◌≤◌, List, length, slice_index_or, Option, Some, None, ◌⊎◌}
use Rattle.std.specs.List.{Contains}
use Rattle.indexmap.specs.IndexMap as index
use Rattle.flow_base.specs.declared.types.Flow.{Flow}
use Rattle.reach_model.specs.Flows.{source, target, place}
use Rattle.reach_model.specs.Pairs.{pair_eq}
use Rattle.reach_model.specs.Rows.{Row, SamePair}
use Rattle.reduce_continuous.specs.declared.places.Run.{Run}
use Rattle.reduce_continuous.specs.declared.tables.Continuous.{Continuous}

-- a place that is there and comes after another
abbrev pub IsAfter : Option ℕ → ℕ → Type 0
IsAfter None n = ⊥
IsAfter (Some last) n = n < last

-- the greater of a place that may be there and another
abbrev pub raised : Option ℕ → ℕ → Option ℕ
raised None n = Some n
raised (Some m) n = Some (max m n)

-- the run that ends later
abbrev pub later_run : Option Run → Run → Run
later_run None run = run
later_run (Some old) run = cond (nat_lt old.place run.place) run old

-- the greatest place of a last flow that meets P
pub record IsLastOf (R : List Row) (P : Flow → Type 0) (n : ℕ) : Type 0 where
  pub row : Row
  pub there : Contains R row
  pub meets : P row.last
  pub at : place row.last ≡ n
  pub greatest : (s : Row) → Contains R s → P s.last → place s.last ≤ n

abbrev pub IsGreatest : List Row → (Flow → Type 0) → Option ℕ → Type 0
IsGreatest R P None = (s : Row) → Contains R s → ¬ P s.last
IsGreatest R P (Some n) = IsLastOf R P n

-- a row of a pair that is there
pub record NamesRow (R : List Row) (u v : ℕ) (run : Run) : Type 0 where
  pub within : run.row < length R
  pub from : (d : Row) → source (slice_index_or R run.row d).last ≡ u
  pub to : (d : Row) → target (slice_index_or R run.row d).last ≡ v

abbrev pub MayName : List Row → ℕ → ℕ → Option Run → Type 0
MayName R u v None = Unit {0}
MayName R u v (Some run) = NamesRow R u v run

-- the last row of a pair
pub record IsRunOf (R : List Row) (u v : ℕ) (run : Run) : Type 0 where
  pub within : run.row < length R
  pub from : (d : Row) → source (slice_index_or R run.row d).last ≡ u
  pub to : (d : Row) → target (slice_index_or R run.row d).last ≡ v
  pub at : (d : Row) → place (slice_index_or R run.row d).last ≡ run.place
  pub greatest : (s : Row) → Contains R s → source s.last ≡ u → target s.last ≡ v → place s.last ≤ run.place

abbrev pub IsRun : List Row → ℕ → ℕ → Option Run → Type 0
IsRun R u v None = (s : Row) → Contains R s → ¬ ((source s.last ≡ u) × (target s.last ≡ v))
IsRun R u v (Some run) = IsRunOf R u v run

-- the tables are those of the rows R
pub record HasTables (c : Continuous) (R : List Row) : Type 0 where
  pub runs : (u v : ℕ) → IsRun R u v (index.get pair_eq c.runs (u, v))
  pub into : (u : ℕ) → IsGreatest R (λ h. target h ≡ u) (index.get nat_eq c.into u)
  pub out : (u : ℕ) → IsGreatest R (λ h. source h ≡ u) (index.get nat_eq c.out u)

-- and so is the count
pub record StandsFor (c : Continuous) (R : List Row) : Type 0 where
  pub count : c.count ≡ length R
  pub tables : HasTables c R

-- each run names a row of its pair
abbrev pub HasRuns : Continuous → List Row → Type 0
HasRuns c R = (u v : ℕ) → MayName R u v (index.get pair_eq c.runs (u, v))

-- the tables were given the rows R, in any order
pub record Holds (c : Continuous) (R : List Row) : Type 0 where
  pub count : c.count ≡ length R
  pub runs : HasRuns c R

-- room for this many more flows
abbrev pub HasRoom : Continuous → ℕ → Type 0
HasRoom c n = (n ≤ index.spare c.runs) × (n ≤ index.spare c.into) × (n ≤ index.spare c.out)

-- S is R with f in the row at a place
pub record Takes (R S : List Row) (f : Flow) (row : ℕ) : Type 0 where
  pub within : row < length S
  pub at : (d : Row) → (slice_index_or S row d).last ≡ f
  pub members : (s : Row) → Contains S s → (f ≡ s.last) ⊎ Contains R s
  pub others : (s : Row) → Contains R s → ¬ SamePair s.last f → Contains S s
  pub in_place : (i : ℕ) (d : Row) → i < length R → ¬ SamePair (slice_index_or R i d).last f → (i < length S) × (slice_index_or S i d ≡ slice_index_or R i d)

-- S has a row of f's pair at a place, and the rows R between other objects stay where they were
pub record Names (R S : List Row) (f : Flow) (row : ℕ) : Type 0 where
  pub within : row < length S
  pub pair : (d : Row) → SamePair (slice_index_or S row d).last f
  pub in_place : (i : ℕ) (d : Row) → i < length R → ¬ SamePair (slice_index_or R i d).last f → (i < length S) × (slice_index_or S i d ≡ slice_index_or R i d)
