-- Rows with other last marks.
use Rattle.std.specs.Prelude.{ℕ, zero, suc, List, [], ◌∷◌}
use Rattle.reach_rows.specs.declared.rows.Mark.{Mark}
use Rattle.reach_rows.specs.declared.rows.Row.{Row}

-- the rows, of which the one at an index has this last mark now
abbrev pub with_mark : ℕ → Mark → List Row → List Row
with_mark i mark [] = []
with_mark zero mark (r ∷ R) = record r { last = mark } ∷ R
with_mark (suc i) mark (r ∷ R) = r ∷ with_mark i mark R
