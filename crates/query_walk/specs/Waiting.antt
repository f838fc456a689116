-- Rows that wait to be read.
use Rattle.std.specs.Prelude.{◌≡◌, ◌⊎◌, ℕ, ◌+◌, ◌-◌, ◌<◌, ◌≤◌, ◌↔◌, List, Option, Some}
use Rattle.query_walk.specs.Bits.{IsSet}

-- a number of rows, and a bit for each of them, from the last row to the first
pub record Waiting : Type 0 where
  pub rows : ℕ
  pub bits : List ℕ

-- a row waits
pub record Waits (waiting : Waiting) (index : ℕ) : Type 0 where
  pub low : index < waiting.rows
  pub set : IsSet waiting.bits (waiting.rows - (index + 1))

-- one more row waits, if there is one
abbrev pub Joins : (ℕ → Type 0) → Option ℕ → (ℕ → Type 0) → Type 0
Joins old link new = (index : ℕ) → new index ↔ (old index ⊎ (link ≡ Some index))

-- the greatest row below a bound that waits
pub record IsNext (waits : ℕ → Type 0) (below index : ℕ) : Type 0 where
  pub low : index < below
  pub waited : waits index
  pub greatest : (other : ℕ) → waits other → other < below → other ≤ index
