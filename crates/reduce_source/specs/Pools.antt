-- The sets in the pools of blocks and pages.
use Rattle.std.specs.Prelude.{◌≡◌, ℕ, ◌+◌, ◌*◌, ◌/◌, ◌%◌, ◌<◌, ◌≤◌, ◌^◌, List, slice_index}
use Rattle.std.specs.Vec.{vec_len, vec_capacity}
use Rattle.reduce_source.specs.BitsOf.{HasBit}
use Rattle.reduce_source.specs.Blocks.{words_of, id_on, flat}
use Rattle.reduce_source.specs.Owners.{AreHeldBy, AreKept, Changes, Replaces}
use Rattle.reduce_source.specs.Pages.{PutsPage}
use Rattle.reduce_source.specs.declared.pools.Pools.{Pools}

-- the id at a place of a page
abbrev pub page_id : Pools → ℕ → ℕ → ℕ
page_id pools id k = id_on pools.pages.slots.items id k

-- the words of the block at a place of a page
abbrev pub words_on : Pools → ℕ → ℕ → List ℕ
words_on pools id k = words_of pools.blocks.slots.items (page_id pools id k)

-- the words of the block at a place of the set with these pages
abbrev pub words_at : Pools → List ℕ → ℕ → List ℕ
words_at pools pages k = words_on pools (slice_index pages (k / 16)) (k % 16)

-- the set with these pages has a number: the block for its 512 numbers has a bit
abbrev pub Has : Pools → List ℕ → ℕ → Type 0
Has pools pages n = HasBit (words_at pools pages (n / 512)) (n % 512)

-- the set of x may have these pages and their blocks
pub record AreHeldIn (x : ℕ) (pools : Pools) (list : List ℕ) : Type 0 where
  pub pages : AreHeldBy x pools.pages.slots.items (slice_index list)
  pub blocks : AreHeldBy x pools.blocks.slots.items (flat pools.pages.slots.items list)

-- other sets than that of x may have these pages and their blocks
pub record AreKeptIn (x : ℕ) (pools : Pools) (list : List ℕ) : Type 0 where
  pub pages : AreKept x pools.pages.slots.items (slice_index list)
  pub blocks : AreKept x pools.blocks.slots.items (flat pools.pages.slots.items list)

-- there is room for this many pages more and for the blocks at all their places, and there are ids for them
pub record Fits (most : ℕ) (pools : Pools) : Type 0 where
  pub pages : vec_len pools.pages.slots + most ≤ vec_capacity pools.pages.slots
  pub blocks : vec_len pools.blocks.slots + 16 * most ≤ vec_capacity pools.blocks.slots
  pub few_pages : vec_len pools.pages.slots + most < 2 ^ 32
  pub few_blocks : vec_len pools.blocks.slots + 16 * most < 2 ^ 32

-- at most this many pages and the blocks at their places were added
pub record Adds (most : ℕ) (old new : Pools) : Type 0 where
  pub pages : vec_len new.pages.slots ≤ vec_len old.pages.slots + most
  pub blocks : vec_len new.blocks.slots ≤ vec_len old.blocks.slots + 16 * most

-- the pages and blocks are as before
abbrev pub HasSameValues : Pools → Pools → Type 0
HasSameValues old new = (new.pages.slots.items ≡ old.pages.slots.items) × (new.blocks.slots.items ≡ old.blocks.slots.items)

-- the set of x changed pages and blocks, and at most this many pages and the blocks at their places were added
pub record ChangesBoth (x most : ℕ) (old new : Pools) : Type 0 where
  pub pages : Changes x most old.pages.slots new.pages.slots
  pub blocks : Changes x (16 * most) old.blocks.slots new.blocks.slots

-- the set of x has the page `next` in place of its page `mine`
pub record ReplacesPage (x mine next : ℕ) (old new : Pools) : Type 0 where
  pub page : Replaces x mine next old.pages.slots new.pages.slots
  pub blocks : PutsPage x 16 (page_id old mine) (page_id new next) old.blocks.slots new.blocks.slots
