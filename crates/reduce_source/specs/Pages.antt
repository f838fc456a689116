-- Pages of the list of a set, and what a set does to the blocks of one.
use Rattle.std.specs.Prelude.{◌≡◌, ◌≢◌, ℕ, ◌/◌, ◌%◌}
use Rattle.std.specs.declared.vec.Vec.{Vec}
use Rattle.reduce_source.specs.Blocks.{words_of}
use Rattle.reduce_source.specs.Owners.{AreHeldBy, Changes}
use Rattle.reduce_source.specs.declared.block.Block.{Block}
use Rattle.reduce_source.specs.declared.slot.Slot.{Slot}

-- these are the ids of one page of a flattened list
abbrev pub IsPage : ℕ → (ℕ → ℕ) → (ℕ → ℕ) → Type 0
IsPage page ids list = (k : ℕ) → k / 16 ≡ page → list k ≡ ids (k % 16)

-- two flattened lists differ at most at one page
abbrev pub DifferAt : ℕ → (ℕ → ℕ) → (ℕ → ℕ) → Type 0
DifferAt page old new = (k : ℕ) → k / 16 ≢ page → new k ≡ old k

-- the set of x has the ids `next` in place of the ids `mine` of a page, whichever of its list that is: it may have them, and the
-- blocks of its other pages are as before; at most this many blocks were added
pub record PutsPage {A : Type 0} (x most : ℕ) (mine next : ℕ → ℕ) (old new : Vec (Slot Block) A) : Type 0 where
  pub held : (page : ℕ) (before after : ℕ → ℕ) → IsPage page mine before → IsPage page next after → DifferAt page before after → AreHeldBy x old.items before → AreHeldBy x new.items after
  pub beside : (page : ℕ) (list : ℕ → ℕ) → IsPage page mine list → AreHeldBy x old.items list → (k : ℕ) → k / 16 ≢ page → words_of new.items (list k) ≡ words_of old.items (list k)
  pub changes : Changes x most old new
