use Rattle.std.proofs.Common.{refl}
use Rattle.std.proofs.lemmas.Result.{err_from_is_err_and}
use Rattle.audit_cli.proofs.TrialLemmas.{memory_causes}
use Rattle.audit_cli.proofs.trial.totals_now.Goals as goal

-- rows in memory never fail and are always observable
pub returns-in_err-reply-clause-memory : goal.returns-in_err-reply-clause-memory
returns-in_err-reply-clause-memory g c =
    let p = err_from_is_err_and c.from_residual.result c.from_residual.ensures.1 in
    rw (p.1, p.2) (c.in_err-reply.ensures.memory (λ s. (refl, λ none. none)) (λ s. (s.rows, refl)))

pub returns-in_err-reply-clause-causes : goal.returns-in_err-reply-clause-causes
returns-in_err-reply-clause-causes g c =
    let p = err_from_is_err_and c.from_residual.result c.from_residual.ensures.1 in
    rw (p.1, p.2) (memory_causes c.in_err-reply.field-0.0 (c.in_err-reply.ensures.memory (λ s. (refl, λ none. none)) (λ s. (s.rows, refl))))

pub returns-clause-totals : goal.returns-clause-totals
returns-clause-totals g c = λ limits h stands. record { stat = c.in_ok-reply.reply; counts = c.in_ok-reply.ensures.reply limits h stands; totals_are = c.totals_in.ensures }
