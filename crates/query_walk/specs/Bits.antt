-- Places of which each is set or not, in words of 64 bits.
use Rattle.std.specs.Prelude.{◌≡◌, ◌/◌, ◌%◌, ℕ, ◌≤◌, List, slice_index_or}
use Rattle.std.specs.Int.{bit_at}

-- the bit of a place
abbrev pub IsSet : List ℕ → ℕ → Type 0
IsSet words place = bit_at (slice_index_or words (place / 64) 0) (place % 64) ≡ 1

-- the first place that is set from another one on
pub record IsFirstSet (words : List ℕ) (from place : ℕ) : Type 0 where
  pub low : from ≤ place
  pub set : IsSet words place
  pub first : (p : ℕ) → from ≤ p → IsSet words p → place ≤ p
