use Rattle.audit_lex.proofs.HistoryLaws.{stay, few}
use Rattle.audit_lex.proofs.laws.lines_stay.Goals as goal

pub returns-clause-stay : goal.returns-clause-stay
returns-clause-stay c = stay

pub returns-clause-few : goal.returns-clause-few
returns-clause-few c = few
