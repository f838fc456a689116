use Rattle.order_text.proofs.LineLemmas.{written_one}
use Rattle.order_text.proofs.laws.written_lines_are_one_line.Goals as goal

pub returns : goal.returns
returns c = written_one
