use Rattle.report_json.proofs.AskLaws.{found_is_asked, else_nothing_is}
use Rattle.report_json.proofs.ask.read_question.Goals as goal

pub returns-clause-ok : goal.returns-clause-ok
returns-clause-ok c = rw c.ok_or.ensures.value (found_is_asked c.args.line.now c.asked.result _ c.asked.ensures)

pub returns-clause-bad : goal.returns-clause-bad
returns-clause-bad c = rw c.ok_or.ensures.value (else_nothing_is c.args.line.now c.asked.result _ c.asked.ensures)
