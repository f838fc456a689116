use Rattle.audit_lex.proofs.TallyLaws.{all_counted, each_counted}
use Rattle.audit_lex.proofs.laws.lines_are_counted.Goals as goal

pub returns-clause-counted : goal.returns-clause-counted
returns-clause-counted c = all_counted

pub returns-clause-each : goal.returns-clause-each
returns-clause-each c = each_counted
