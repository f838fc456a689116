use Rattle.std.proofs.Common.{refl}
use Rattle.std.proofs.lemmas.Result.{err_from_is_err_and}
use Rattle.audit_cli.proofs.TrialLemmas.{counts_last, memory_causes}
use Rattle.audit_cli.proofs.trial.count_back.Goals as goal

-- rows in memory never fail and are always observable
pub returns-in_err-reply-clause-memory : goal.returns-in_err-reply-clause-memory
returns-in_err-reply-clause-memory g c =
    let p = err_from_is_err_and c.from_residual.result c.from_residual.ensures.1 in
    rw (p.1, p.2) (c.in_err-reply.ensures.memory (λ s. (refl, λ none. none)) (λ s. (s.rows, refl)))

pub returns-in_err-reply-clause-causes : goal.returns-in_err-reply-clause-causes
returns-in_err-reply-clause-causes g c =
    let p = err_from_is_err_and c.from_residual.result c.from_residual.ensures.1 in
    rw (p.1, p.2) (memory_causes c.in_err-reply.field-0.0 (c.in_err-reply.ensures.memory (λ s. (refl, λ none. none)) (λ s. (s.rows, refl))))

pub returns-clause-reached : goal.returns-clause-reached
returns-clause-reached g c = λ limits h stands.
    counts_last g.R.Reducer.mode limits h c.args.known _ c.in_ok-reply.reply c.if-known-eq0.false (c.in_ok-reply.ensures.reply limits h stands) c.size_of.ensures
