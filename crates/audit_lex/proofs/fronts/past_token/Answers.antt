use Rattle.std.proofs.Common.{inl, inr}
use Rattle.audit_lex.proofs.PastTokens.{past_plain}
use Rattle.audit_lex.proofs.fronts.past_token.Goals as goal
use Rattle.audit_lex.proofs.fronts.past_token.Goals.{then-end-text-via-then-end-text, then-end-text-via-else-end-text+then-text-end-eq32}

pub returns-then-end-text-clause-rest : goal.returns-then-end-text-clause-rest
returns-then-end-text-clause-rest c = past_plain c.args.text.now c.place_of_space_or_quote-end.result c.place_of_space_or_quote-end.ensures.place
    (elim c.then-end-text.branch [
      | then-end-text-via-then-end-text w ↦ inl w.if-end-text.true
      | then-end-text-via-else-end-text+then-text-end-eq32 w ↦ inr w.if-text-end-eq32.true
    ])
