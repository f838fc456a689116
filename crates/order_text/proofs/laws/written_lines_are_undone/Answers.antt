use Rattle.order_text.proofs.UndoLemmas.{written_undone}
use Rattle.order_text.proofs.laws.written_lines_are_undone.Goals as goal

pub returns : goal.returns
returns c = written_undone
