use Rattle.std.proofs.Common.{arith}
use Rattle.audit_lex.proofs.OtherTokens.{past_cut}
use Rattle.audit_lex.proofs.fronts.past_others.Goals as goal

pub returns-clause-same : goal.returns-clause-same
returns-clause-same c =
    let last = c.last_space in
    past_cut c.args.first c.args.text.now last.result c.if-text-ne32.false (λ k below. c.place_of_stop-stop.ensures.before k (omega (arith, below, last.ensures.within))) last.ensures.space
