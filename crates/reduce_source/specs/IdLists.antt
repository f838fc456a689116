-- Lists of ids of pages, one for each object.
use Rattle.std.specs.Prelude.{ℕ, ◌≤◌, List, [], length, slice_index_or}
use Rattle.reduce_source.specs.Pools.{AreHeldIn}
use Rattle.reduce_source.specs.declared.pools.Pools.{Pools}

-- each object has the list of the ids of its pages: a page or block that one set alone has is in no other list, and one that no
-- set has in none; and no list has more pages
pub record AreHeld (sets : List (List ℕ)) (pools : Pools) (width : ℕ) : Type 0 where
  pub ids : (v : ℕ) → AreHeldIn v pools (slice_index_or sets v [])
  pub narrow : (v : ℕ) → length (slice_index_or sets v []) ≤ width
