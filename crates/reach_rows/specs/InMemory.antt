-- Rows in memory, as contracts see them.
use Rattle.std.specs.Prelude.{ℕ, ◌*◌, ◌<◌, ◌≤◌, ◌^◌, List, length, map, take, slice_index_or}
use Rattle.flow_base.specs.declared.types.Flow.{Flow}
use Rattle.reach_model.specs.Rows.{Row, firsts}
use Rattle.reach_rows.specs.Kept.{AreRows, row_of_kept, IsLastOf, Enters, Leaves}
use Rattle.reach_rows.specs.Objects.{AreObjects}
use Rattle.reach_rows.specs.declared.objects.Object.{Object}
use Rattle.reach_rows.specs.declared.rows.Row.{Row as KeptRow}

-- the rows, and room for this many more of them and for this many more objects
pub record InMemory : Type 0 where
  pub rows : List Row
  pub rows_room : ℕ
  pub objects_room : ℕ

-- room for this many flows: a row each and two objects
abbrev pub HasRoom : InMemory → ℕ → Type 0
HasRoom m n = (n ≤ m.rows_room) × (2 * n ≤ m.objects_room)

-- the links of a row after the first flows K of the rows before it
pub record HasLinks (K : List Flow) (row : KeptRow) : Type 0 where
  pub before_to : IsLastOf K (Enters row.to.0) row.before_to
  pub before_from : IsLastOf K (Leaves row.from.0) row.before_from

-- lawful rows with their links, and what is known of their objects, of which there are few
pub record AreKept (rows : List KeptRow) (objects : List Object) : Type 0 where
  pub lawful : AreRows (map row_of_kept rows)
  pub links : (i : ℕ) (d : KeptRow) → i < length rows → HasLinks (take i (firsts (map row_of_kept rows))) (slice_index_or rows i d)
  pub known : AreObjects (firsts (map row_of_kept rows)) objects
  pub few : length objects < 2 ^ 32
