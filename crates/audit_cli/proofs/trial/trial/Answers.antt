use Rattle.std.proofs.lemmas.Result.{err_from_is_err_and}
use Rattle.audit_cli.specs.Trials.{all_modes, trial_history}
use Rattle.dialogue.specs.declared.halt.Halt.TheVariants as halt
use Rattle.audit_cli.proofs.TrialLemmas.{not_tried, same_log}
use Rattle.audit_cli.proofs.trial.trial.Goals as goal

pub returns-in_err-log-clause-tried : goal.returns-in_err-log-clause-tried
returns-in_err-log-clause-tried g c =
    let p = err_from_is_err_and c.from_residual.result c.from_residual.ensures.1 in
    rw (p.1, p.2) (not_tried c.args.limits.now (trial_history c.args.seed c.args.events) all_modes _ halt.NoMemory tt)

pub returns-clause-tried : goal.returns-clause-tried
returns-clause-tried g c = same_log c.args.limits.now _ _ _ _ _ _ _ _ c.as_slice.ensures c.in_ok-log.ensures c.try_modes.ensures.tried
