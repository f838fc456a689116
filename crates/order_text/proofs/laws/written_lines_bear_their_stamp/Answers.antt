use Rattle.order_text.proofs.UndoLemmas.{written_stays}
use Rattle.order_text.proofs.laws.written_lines_bear_their_stamp.Goals as goal

pub returns : goal.returns
returns c = written_stays
