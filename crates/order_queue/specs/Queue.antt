-- Lines that wait, and which of them is taken first.
use Rattle.std.specs.Prelude.{ℕ, List, length, map}
use Rattle.std.specs.List.{sum_by}
use Rattle.order_queue.specs.declared.waiting.Waiting.{Waiting}

-- the lines that wait, in no order that is claimed, and the bytes of all of them
pub record Held : Type 0 where
  pub waits : List Waiting
  pub bytes : ℕ

-- the text of a line that waits
abbrev pub text_of : Waiting → List ℕ
text_of w = w.line

-- the texts of lines that wait
abbrev pub texts_of : List Waiting → List (List ℕ)
texts_of waits = map text_of waits

-- the bytes of lines that wait
abbrev pub bytes_of : List Waiting → ℕ
bytes_of waits = sum_by (λ w. length w.line) waits
