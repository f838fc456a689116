-- Objects that are marked or not, in words of 64 bits.
use Rattle.std.specs.Prelude.{◌==◌, ◌/◌, ◌%◌, ℕ, List, map, Bool, slice_index_or}
use Rattle.std.specs.List.{range_with_len}
use Rattle.std.specs.Int.{bit_at}

-- whether the bit of a place is set
abbrev pub is_set : List ℕ → ℕ → Bool
is_set words place = bit_at (slice_index_or words (place / 64) 0) (place % 64) == 1

-- of each of the first objects whether its bit is set
abbrev pub marks_of : List ℕ → ℕ → List Bool
marks_of words count = map (is_set words) (range_with_len 0 count)
