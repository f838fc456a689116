use Rattle.std.proofs.Common.{ap, ◌∙◌}
use Rattle.audit_lex.specs.History.{Cuts, lines_of, tail_of}
use Rattle.audit_lex.proofs.HistoryLaws.{after_settle, settled_empty, settled_twice}
use Rattle.audit_lex.proofs.laws.settles_end_tails.Goals as goal

pub returns-clause-ended : goal.returns-clause-ended
returns-clause-ended c = after_settle

pub returns-clause-nothing_left : goal.returns-clause-nothing_left
returns-clause-nothing_left c = λ history. ap (λ (cuts : Cuts). cuts.tail) (after_settle history) ∙ settled_empty (lines_of history) (tail_of history)

pub returns-clause-twice : goal.returns-clause-twice
returns-clause-twice c = settled_twice
