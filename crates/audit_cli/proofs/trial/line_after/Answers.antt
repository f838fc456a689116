use Rattle.std.proofs.lemmas.Result.{err_from_is_err_and}
use Rattle.audit_cli.specs.Trials.{settled}
use Rattle.dialogue.proofs.HearLemmas.{on_ok}
use Rattle.audit_cli.proofs.TrialLemmas.{memory_due}
use Rattle.audit_cli.proofs.trial.line_after.Goals as goal

pub line_now-requires-clause-stands : goal.line_now-requires-clause-stands
line_now-requires-clause-stands g c =
    let new = c.requires.begun in
    record { limits = new.0; h = settled c.args.log.now; stands = c.in_ok-follow.ensures.stands new.0 new.1 }

pub returns-in_err-follow-clause-due : goal.returns-in_err-follow-clause-due
returns-in_err-follow-clause-due g c = λ limits stands.
    let p = err_from_is_err_and c.from_residual.result c.from_residual.ensures.1 in
    rw (p.1, p.2) (c.in_err-follow.ensures.due limits stands)

pub returns-clause-line : goal.returns-clause-line
returns-clause-line g c = λ limits stands. c.line_now.ensures.line limits (settled c.args.log.now) (c.in_ok-follow.ensures.stands limits stands)

pub returns-clause-fits : goal.returns-clause-fits
returns-clause-fits g c = λ limits stands. on_ok c.line_now.result _ (c.in_ok-follow.ensures.stands limits stands).fits

pub returns-clause-due : goal.returns-clause-due
returns-clause-due g c = λ limits stands. memory_due c.line_now.result _ c.line_now.ensures.memory
