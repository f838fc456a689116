use Rattle.std.proofs.Common.{ap}
use Rattle.audit_lex.specs.History.{Cuts}
use Rattle.audit_lex.proofs.HistoryLemmas.{more_tail, more_line}
use Rattle.audit_lex.proofs.laws.line_feeds_end_lines.Goals as goal

pub returns-clause-lines : goal.returns-clause-lines
returns-clause-lines c = λ history part none. ap (λ (cuts : Cuts). cuts.lines) (more_tail history part none)

pub returns-clause-tail : goal.returns-clause-tail
returns-clause-tail c = λ history part none. ap (λ (cuts : Cuts). cuts.tail) (more_tail history part none)

pub returns-clause-ended : goal.returns-clause-ended
returns-clause-ended c = λ history part none. ap (λ (cuts : Cuts). cuts.lines) (more_line history part none)

pub returns-clause-nothing_left : goal.returns-clause-nothing_left
returns-clause-nothing_left c = λ history part none. ap (λ (cuts : Cuts). cuts.tail) (more_line history part none)
