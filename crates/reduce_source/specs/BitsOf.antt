-- The bits of a block.
use Rattle.std.specs.Prelude.{◌≡◌, ℕ, ◌/◌, ◌%◌, List, slice_index}
use Rattle.std.specs.Int.{bit_at}

-- a block has a bit
abbrev pub HasBit : List ℕ → ℕ → Type 0
HasBit words j = bit_at (slice_index words (j / 64)) (j % 64) ≡ 1
