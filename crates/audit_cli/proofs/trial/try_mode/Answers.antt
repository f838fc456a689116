use Rattle.std.proofs.Common.{◌∷◌, [], ℕ, List, subst, take}
use Rattle.std.specs.Io.KnownBytes.{Appends}
use Rattle.std.proofs.lemmas.Result.{err_from_is_err_and}
use Rattle.audit_cli.specs.Trials.{settled}
use Rattle.audit_cli.proofs.TrialLemmas.{not_tried, tried_one, tried_half}
use Rattle.audit_cli.proofs.trial.try_mode.Goals as goal

pub returns-in_err-line-clause-tried : goal.returns-in_err-line-clause-tried
returns-in_err-line-clause-tried g c =
    let p = err_from_is_err_and c.from_residual.result c.from_residual.ensures.1 in
    rw (p.1, p.2) (not_tried c.args.limits.now (settled c.args.log.now) (g.R.Reducer.mode ∷ []) _ _ c.in_err-line.ensures.due)

pub returns-in-Ok-clause-tried : goal.returns-in-Ok-clause-tried
returns-in-Ok-clause-tried g c =
    let wrote = subst (λ (bytes : List ℕ). Appends (g.O.Sink.written c.args.out.now) (g.O.Sink.written c.put_all.new.sink) bytes) c.as_slice.ensures c.in-Ok.ensures.bytes in
    tried_one g.R.Reducer.mode c.args.limits.now (settled c.args.log.now) _ _ c.in_ok-line.line c.in_ok-line.ensures.line c.in_ok-line.ensures.fits wrote

pub returns-clause-tried : goal.returns-clause-tried
returns-clause-tried g c =
    let wrote = subst (λ (bytes : List ℕ). Appends (g.O.Sink.written c.args.out.now) (g.O.Sink.written c.put_all.new.sink) (take c.in-Err.field-0.done bytes)) c.as_slice.ensures c.in-Err.ensures.bytes in
    tried_half g.R.Reducer.mode c.args.limits.now (settled c.args.log.now) _ _ c.in_ok-line.line c.in-Err.field-0.done c.in_ok-line.ensures.line wrote
