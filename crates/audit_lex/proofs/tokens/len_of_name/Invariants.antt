use Rattle.audit_lex.proofs.TokenLemmas.{NoEnd}
use Rattle.audit_lex.proofs.tokens.len_of_name.Given as goal

abbrev pub invariant-loop-place : goal.invariant-loop-place
invariant-loop-place l = NoEnd l.text l.place
