use Rattle.order_text.proofs.UndoLemmas.{written_told}
use Rattle.order_text.proofs.laws.rewritten_lines_are_told.Goals as goal

pub returns : goal.returns
returns c = written_told
