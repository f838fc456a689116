-- What was written of lines that are undone.
use Rattle.std.specs.Prelude.{◌≡◌, ℕ, List, ◌++◌, Option, map}
use Rattle.std.specs.Io.KnownBytes.{Appends}
use Rattle.order_text.specs.Undo.{undone}
use Rattle.audit_order.specs.Start.{Start}
use Rattle.audit_order.specs.Lines.{text_of}

-- each of these lines was written as it was before it was changed, or waits so to be handed on
pub record Undid (before : Start) (now : Option (List ℕ)) (pending : List ℕ) (lines : List (List ℕ)) : Type 0 where
  pub done : List ℕ
  pub appends : Appends before.written now done
  pub text : done ++ pending ≡ text_of (map undone lines)
