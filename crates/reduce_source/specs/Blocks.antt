-- Blocks and pages by their ids, and sets of numbers as lists of ids of blocks.
use Rattle.std.specs.Prelude.{ℕ, ◌/◌, ◌%◌, List, [], Option, Some, None, slice_index}
use Rattle.reduce_source.specs.Slots.{value_of}
use Rattle.reduce_source.specs.declared.block.Block.{Block}
use Rattle.reduce_source.specs.declared.page.Page.{Page}
use Rattle.reduce_source.specs.declared.slot.Slot.{Slot}

-- the words of a block; without a block there are none
abbrev pub words_in : Option Block → List ℕ
words_in None = []
words_in (Some block) = block.words

-- the words of the block with an id; the id 0 is that of no bits
abbrev pub words_of : List (Slot Block) → ℕ → List ℕ
words_of slots id = words_in (value_of slots id)

-- the ids of a page; without a page there are none
abbrev pub ids_in : Option Page → List ℕ
ids_in None = []
ids_in (Some page) = page.ids

-- the id at a place of the page with an id; the id 0 is that of a page of the ids 0
abbrev pub id_on : List (Slot Page) → ℕ → ℕ → ℕ
id_on slots id k = slice_index (ids_in (value_of slots id)) k

-- the flattened list of these pages: the ids of the blocks of a set, by place
abbrev pub flat : List (Slot Page) → List ℕ → ℕ → ℕ
flat slots pages k = id_on slots (slice_index pages (k / 16)) (k % 16)
