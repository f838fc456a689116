-- Where Kept rows stand that stand one after the other.
use Rattle.std.specs.Prelude.{◌≡◌, ℕ, suc, ◌+◌, ◌-◌, ◌*◌, ◌<◌, ◌≤◌, ◌^◌, List, length, slice_index_or}
use Rattle.saved_rows.specs.declared.runs.Run.{Run}

-- how many bytes a Kept row has
abbrev pub KEPT : ℕ
KEPT = 46

-- of these runs it is the one at k that has the row at an index
pub record IsRunOf (runs : List Run) (index k : ℕ) : Type 0 where
  pub within : k < length runs
  pub begun : (d : Run) → (slice_index_or runs k d).first ≤ index
  pub before : (d : Run) → suc k < length runs → index < (slice_index_or runs (suc k) d).first

-- where the Kept row of the row at an index stands, if this is its run
abbrev pub place_in : Run → ℕ → ℕ
place_in run index = run.place + KEPT * (index - run.first)

-- The runs of this many rows: each row has one, and each of their places is of 64 bits.
pub record AreRuns (count : ℕ) (runs : List Run) : Type 0 where
  pub some : 0 < count → 0 < length runs
  pub first : (d : Run) → 0 < count → (slice_index_or runs 0 d).first ≡ 0
  pub begun : (k : ℕ) (d : Run) → k < length runs → (slice_index_or runs k d).first ≤ count
  pub fit : (index k : ℕ) (d : Run) → index < count → IsRunOf runs index k → place_in (slice_index_or runs k d) index + KEPT < 2 ^ 64
