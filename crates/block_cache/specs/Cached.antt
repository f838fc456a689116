-- What a cache of blocks holds, and when it is a cache of what a disk reads as.
use Rattle.std.specs.Prelude.{◌≡◌, ◌≤◌, ◌<◌, ◌+◌, ◌*◌, ℕ, Bool, true, List, length, take, drop, Result, Ok}
use Rattle.std.specs.List.{Contains}
use Rattle.std.specs.Map.{keys_of}

-- how many bytes a block has
abbrev pub BLOCK : ℕ
BLOCK = 4096

-- the n bytes from a place on, or as many of them as there are
abbrev pub range : ℕ → ℕ → List ℕ → List ℕ
range at n bytes = take n (drop at bytes)

-- there are all bytes of a range, which may be empty
abbrev pub HasRange : ℕ → ℕ → List ℕ → Type 0
HasRange at n bytes = 0 < n → at + n ≤ length bytes

-- the block of this number
abbrev pub block_of : ℕ → List ℕ → List ℕ
block_of number bytes = range (number * BLOCK) BLOCK bytes

-- the blocks that are held, each with its number, and the place before which the bytes of the disk are firm
pub record Cached : Type 0 where
  pub blocks : List (ℕ × List ℕ)
  pub firm : ℕ

-- a held block ends no later than the firm bytes, and is what stands there
pub record IsBlockOf (bytes : List ℕ) (firm number : ℕ) (held : List ℕ) : Type 0 where
  pub firmly : number * BLOCK + BLOCK ≤ firm
  pub same : held ≡ block_of number bytes

-- so is each block of a cache
abbrev pub IsCacheOf : List ℕ → Cached → Type 0
IsCacheOf bytes cache = (number : ℕ) (held : List ℕ) → Contains cache.blocks (number, held) → IsBlockOf bytes cache.firm number held

-- a block of this number is held
abbrev pub IsHeld : ℕ → List (ℕ × List ℕ) → Type 0
IsHeld number blocks = Contains (keys_of blocks) number

-- so is each block that has a byte of a range
abbrev pub HoldsRange : ℕ → ℕ → List (ℕ × List ℕ) → Type 0
HoldsRange at n blocks = (number : ℕ) → number * BLOCK < at + n → at < number * BLOCK + BLOCK → IsHeld number blocks

-- A read that fills its buffer without a call on the disk. What was held is held after it.
pub record SparesDisk {D E : Type 0} (old new : D) (result : Result Bool E) (before after : List (ℕ × List ℕ)) : Type 0 where
  pub filled : result ≡ Ok true
  pub disk : new ≡ old
  pub keeps : (number : ℕ) → IsHeld number before → IsHeld number after

-- each held block is whole
abbrev pub AreWhole : List (ℕ × List ℕ) → Type 0
AreWhole blocks = (number : ℕ) (held : List ℕ) → Contains blocks (number, held) → length held ≡ BLOCK

-- a piece is that of a held block from a place in it on
pub record IsOfBlock (blocks : List (ℕ × List ℕ)) (number from : ℕ) (piece : List ℕ) : Type 0 where
  pub held : List ℕ
  pub there : Contains blocks (number, held)
  pub whole : length held ≡ BLOCK
  pub same : piece ≡ range from (length piece) held
