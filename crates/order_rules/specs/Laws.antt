-- What holds of lines that are written otherwise.
use Rattle.std.specs.Prelude.{◌≡◌, ◌≤◌, ℕ, List, Option, Some, length}
use Rattle.order_text.specs.Stamp.{Stamp, stamp_of}
use Rattle.order_text.specs.declared.rewrite.Rewrite.{Rewrite}

-- what is replaced stands after the stamp of a line
pub record FitsLine (line : List ℕ) (made : Rewrite) : Type 0 where
  pub fits : (s : Stamp) → stamp_of line ≡ Some s → made.len ≤ length s.rest
