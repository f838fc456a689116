use Rattle.audit_lex.proofs.ClassLaws.{class_holds, class_is}
use Rattle.audit_lex.proofs.laws.lines_have_one_class.Goals as goal

pub returns : goal.returns
returns c = λ limit line class. (class_holds limit line class, class_is limit line class)
