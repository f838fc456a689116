-- Lists of rows, and how the code's rows are read as such.
use Rattle.std.specs.Prelude.{◌≡◌, ◌≢◌, ℕ, suc, ◌<◌, ◌≤◌, ◌^◌, max, List, [], ◌∷◌, length, take, slice_index_or, Option, Some, None, ◌==◌, ⊤}
use Rattle.std.specs.List.{Contains}
use Rattle.flow_base.specs.declared.types.Flow.{Flow}
use Rattle.reach_model.specs.Flows.{source, target, time, place}
use Rattle.reach_model.specs.Numbers.{IsNumbered, beyond}
use Rattle.reach_model.specs.Sources.{first_at}
use Rattle.reach_model.specs.Rows.{Row, SamePair, firsts, lasts}
use Rattle.reach_rows.specs.declared.questions.First.{First}
use Rattle.reach_rows.specs.declared.rows.Row.{Row as KeptRow}

-- the flows between which a row of the code lies
abbrev pub row_of_kept : KeptRow → Row
row_of_kept r = record {
  first = record { from = r.from; to = r.to; how = r.first.how; at = r.first.at; serial = r.first.serial };
  last = record { from = r.from; to = r.to; how = r.last.how; at = r.last.at; serial = r.last.serial };
}

-- What holds of every list of rows that is told. A row's flows have one pair of ends, which differ. First flows ascend by
-- place, no time falls along them, and they number the objects by first appearance. No two rows have one last flow.
pub record AreRows (R : List Row) : Type 0 where
  pub pairs : (r : Row) → Contains R r → SamePair r.last r.first
  pub ends_differ : (r : Row) → Contains R r → source r.first ≢ target r.first
  pub ordered : (r : Row) → Contains R r → place r.first ≤ place r.last
  pub ascend : (i j : ℕ) (d : Flow) → i < j → j < length (firsts R) → place (slice_index_or (firsts R) i d) < place (slice_index_or (firsts R) j d)
  pub times : (i j : ℕ) (d : Flow) → i ≤ j → j < length (firsts R) → time (slice_index_or (firsts R) i d) ≤ time (slice_index_or (firsts R) j d)
  pub numbered : IsNumbered (firsts R)
  pub lasts_apart : (i j : ℕ) (d : Flow) → i < j → j < length (lasts R) → place (slice_index_or (lasts R) i d) ≢ place (slice_index_or (lasts R) j d)

-- a flow that enters an object, and one that leaves it
abbrev pub Enters : ℕ → Flow → Type 0
Enters x f = target f ≡ x

abbrev pub Leaves : ℕ → Flow → Type 0
Leaves x f = source f ≡ x

-- the last flow that meets P is the one at i
pub record IsLastAt (K : List Flow) (P : Flow → Type 0) (i : ℕ) : Type 0 where
  pub within : i < length K
  pub meets : (d : Flow) → P (slice_index_or K i d)
  pub no_later : (j : ℕ) (d : Flow) → i < j → j < length K → ¬ P (slice_index_or K j d)

-- where the last flow that meets P is, if there is one
abbrev pub IsLastOf : List Flow → (Flow → Type 0) → Option ℕ → Type 0
IsLastOf K P None = (g : Flow) → Contains K g → ¬ P g
IsLastOf K P (Some i) = IsLastAt K P i

-- the first flow with x at an end has this stamp, and leaves x or not
pub record IsFirstOf (K : List Flow) (x : ℕ) (first : First) : Type 0 where
  pub by : Flow
  pub is : first_at K x ≡ Some by
  pub at : first.at ≡ by.at
  pub out : first.out ≡ (source by == x)

-- the row at an index, with its links to the greatest earlier rows with its target and with its source
pub record IsRowAt (R : List Row) (index : ℕ) (row : KeptRow) : Type 0 where
  pub is : (d : Row) → slice_index_or R index d ≡ row_of_kept row
  pub before_to : IsLastOf (take index (firsts R)) (Enters row.to.0) row.before_to
  pub before_from : IsLastOf (take index (firsts R)) (Leaves row.from.0) row.before_from

-- f comes after all flows of the rows, and no earlier in time
pub record ComesAfter (R : List Row) (f : Flow) : Type 0 where
  pub firsts : (r : Row) → Contains R r → place r.first < place f
  pub lasts : (r : Row) → Contains R r → place r.last < place f
  pub first_times : (r : Row) → Contains R r → time r.first ≤ time f
  pub last_times : (r : Row) → Contains R r → time r.last ≤ time f

-- f goes on with the numbering of this many objects: its ends differ, each is known or the next one, its source before its
-- target, and the objects can be counted in 32 bits
pub record GoesOn (count : ℕ) (f : Flow) : Type 0 where
  pub ends_differ : source f ≢ target f
  pub source_known_or_next : source f ≤ count
  pub target_known_or_next : target f ≤ max count (suc (source f))
  pub few : beyond f < 2 ^ 32

-- each of these flows goes on with the numbering that those before it leave
abbrev pub GoOn : ℕ → List Flow → Type 0
GoOn count [] = ⊤
GoOn count (f ∷ more) = GoesOn count f × GoOn (max count (beyond f)) more

-- how many objects are known after these flows, if this many were known before them
abbrev pub known_after : ℕ → List Flow → ℕ
known_after count [] = count
known_after count (f ∷ more) = known_after (max count (beyond f)) more
