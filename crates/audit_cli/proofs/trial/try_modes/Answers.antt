use Rattle.std.proofs.Common.{◌∷◌, []}
use Rattle.std.proofs.lemmas.Result.{err_from_is_err_and}
use Rattle.reach_model.specs.declared.modes.Mode.TheVariants as mode
use Rattle.audit_cli.specs.Trials.{settled}
use Rattle.audit_cli.proofs.TrialLemmas.{tried_short, tried_then}
use Rattle.audit_cli.proofs.trial.try_modes.Goals as goal

pub returns-in_err-_plain-clause-tried : goal.returns-in_err-_plain-clause-tried
returns-in_err-_plain-clause-tried g c =
    let limits = c.args.limits.now in
    let h = settled c.args.log.now in
    let p = err_from_is_err_and c.from_residual.result c.from_residual.ensures.1 in
    rw (p.1, p.2) (tried_short limits h (mode.Plain ∷ []) (mode.Continuous ∷ mode.Full ∷ mode.Source ∷ []) _ _ _ c.in_err-_plain.ensures.tried)

pub returns-in_err-_continuous-clause-tried : goal.returns-in_err-_continuous-clause-tried
returns-in_err-_continuous-clause-tried g c =
    let limits = c.args.limits.now in
    let h = settled c.args.log.now in
    let p = err_from_is_err_and c.from_residual-in_err-_continuous.result c.from_residual-in_err-_continuous.ensures.1 in
    let two = tried_then c.what_fits_never_stops.ensures limits h (mode.Plain ∷ []) (mode.Continuous ∷ []) _ _ _ _ c.in_ok-_plain.ensures.tried c.in_err-_continuous.ensures.tried in
    rw (p.1, p.2) (tried_short limits h (mode.Plain ∷ mode.Continuous ∷ []) (mode.Full ∷ mode.Source ∷ []) _ _ _ two)

pub returns-in_err-_full-clause-tried : goal.returns-in_err-_full-clause-tried
returns-in_err-_full-clause-tried g c =
    let limits = c.args.limits.now in
    let h = settled c.args.log.now in
    let p = err_from_is_err_and c.from_residual-in_err-_full.result c.from_residual-in_err-_full.ensures.1 in
    let two = tried_then c.what_fits_never_stops.ensures limits h (mode.Plain ∷ []) (mode.Continuous ∷ []) _ _ _ _ c.in_ok-_plain.ensures.tried c.in_ok-_continuous.ensures.tried in
    let three = tried_then c.what_fits_never_stops.ensures limits h (mode.Plain ∷ mode.Continuous ∷ []) (mode.Full ∷ []) _ _ _ _ two c.in_err-_full.ensures.tried in
    rw (p.1, p.2) (tried_short limits h (mode.Plain ∷ mode.Continuous ∷ mode.Full ∷ []) (mode.Source ∷ []) _ _ _ three)

pub returns-clause-tried : goal.returns-clause-tried
returns-clause-tried g c =
    let limits = c.args.limits.now in
    let h = settled c.args.log.now in
    let two = tried_then c.what_fits_never_stops.ensures limits h (mode.Plain ∷ []) (mode.Continuous ∷ []) _ _ _ _ c.in_ok-_plain.ensures.tried c.in_ok-_continuous.ensures.tried in
    let three = tried_then c.what_fits_never_stops.ensures limits h (mode.Plain ∷ mode.Continuous ∷ []) (mode.Full ∷ []) _ _ _ _ two c.in_ok-_full.ensures.tried in
    tried_then c.what_fits_never_stops.ensures limits h (mode.Plain ∷ mode.Continuous ∷ mode.Full ∷ []) (mode.Source ∷ []) _ _ _ _ three c.try_mode-4.ensures.tried
