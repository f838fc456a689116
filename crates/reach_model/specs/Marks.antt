-- Sets of objects as a mark for each number.
use Rattle.std.specs.Prelude.{◌≡◌, ℕ, List, slice_index_or, Bool, true, false}

-- the object with the number u is marked
abbrev pub IsMarked : List Bool → ℕ → Type 0
IsMarked marks u = slice_index_or marks u false ≡ true
