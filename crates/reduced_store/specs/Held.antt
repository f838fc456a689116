-- The rows of a store, as contracts see them.
use Rattle.std.specs.Prelude.{◌≡◌, ℕ, ◌+◌, ◌*◌, ◌<◌, ◌≤◌, ◌^◌, Bool, true, false, List, length, map, take, slice_index_or, Option, Some, None}
use Rattle.reach_model.specs.Rows.{Row, firsts}
use Rattle.reach_rows.specs.Kept.{row_of_kept}
use Rattle.reach_rows.specs.InMemory.{HasLinks}
use Rattle.reach_rows.specs.declared.rows.Row.{Row as KeptRow}
use Rattle.reach_rows.specs.Objects.{AreObjects}
use Rattle.reach_rows.specs.declared.objects.Object.{Object}
use Rattle.saved_rows.specs.Joining.{Joined, MOST}

-- the rows, whether they are lawful, room for this many more of them and for this many more objects, and where the rows stand
pub record Held : Type 0 where
  pub rows : List Row
  pub lawful : Bool
  pub rows_room : ℕ
  pub objects_room : ℕ
  pub placed : Joined

-- the rows, if they are observable
abbrev pub told_if : Bool → List Row → Option (List Row)
told_if true R = Some R
told_if false R = None

-- room for this many flows: a row each and two objects, and no more rows than there may be
abbrev pub HasRoom : Held → ℕ → Type 0
HasRoom h n = (n ≤ h.rows_room) × ((2 * n ≤ h.objects_room) × (length h.rows + n ≤ MOST))

-- rows with their links, and what is known of their objects, of which there are few
pub record AreHeld (rows : List KeptRow) (objects : List Object) : Type 0 where
  pub links : (i : ℕ) (d : KeptRow) → i < length rows → HasLinks (take i (firsts (map row_of_kept rows))) (slice_index_or rows i d)
  pub known : AreObjects (firsts (map row_of_kept rows)) objects
  pub few : length objects < 2 ^ 32
