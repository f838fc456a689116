use Rattle.audit_lex.proofs.HistoryLaws.{joined}
use Rattle.audit_lex.proofs.laws.pieces_are_joined.Goals as goal

pub returns : goal.returns
returns c = joined
