-- The sets of all objects.
use Rattle.std.specs.Prelude.{◌≡◌, ℕ, ◌≤◌, List, [], length, slice_index_or}
use Rattle.std.specs.Vec.{vec_capacity}
use Rattle.flow_base.specs.declared.types.Flow.{Flow}
use Rattle.reach_model.specs.Flows.{source, target}
use Rattle.reduce_source.specs.Pools.{Has}
use Rattle.reduce_source.specs.declared.shared.Shared.{Shared}

-- the ids of the pages of the set of an object; an object past the end has none
abbrev pub ids_of : Shared → ℕ → List ℕ
ids_of s v = slice_index_or s.sets.items v []

-- the set of an object has a number
abbrev pub HasNumber : Shared → ℕ → ℕ → Type 0
HasNumber s v n = Has s.pools (ids_of s v) n

-- the sets of both ends of a flow have all pages that they may have
abbrev pub IsWide : Shared → Flow → Type 0
IsWide s f = (s.width ≤ length (ids_of s (source f))) × (s.width ≤ length (ids_of s (target f)))

-- the lists of ids are as long as before, there is room for as many pages and blocks in all, and
-- sets may have as many pages
pub record IsAsWide (old new : Shared) : Type 0 where
  pub places : (v : ℕ) → length (ids_of new v) ≡ length (ids_of old v)
  pub objects : length new.sets.items ≡ length old.sets.items
  pub pages : vec_capacity new.pools.pages.slots ≡ vec_capacity old.pools.pages.slots
  pub blocks : vec_capacity new.pools.blocks.slots ≡ vec_capacity old.pools.blocks.slots
  pub width : new.width ≡ old.width
