use Rattle.audit_order.proofs.FeedLemmas.{text_lines}
use Rattle.audit_order.proofs.laws.written_lines_are_lines.Goals as goal

pub returns : goal.returns
returns c = text_lines
