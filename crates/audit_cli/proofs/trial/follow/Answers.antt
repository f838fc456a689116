use Rattle.std.proofs.Common.{[], ◌∷◌}
use Rattle.std.proofs.lemmas.Result.{err_from_is_err_and}
use Rattle.audit_lex.specs.History.{Settle, with_bytes}
use Rattle.ingest.specs.Stops.{Stops}
use Rattle.audit_cli.specs.Trials.{settled}
use Rattle.dialogue.proofs.MomentLemmas.{due_for}
use Rattle.audit_cli.proofs.trial.follow.Goals as goal

pub returns-in-Err-clause-due : goal.returns-in-Err-clause-due
returns-in-Err-clause-due g c = λ limits stands.
    let stops = c.in-Err.ensures.stop limits [] stands in
    rw c.halt_of.ensures (due_for c.in-Err.stop.why limits [] c.args.log.now c.in-Err.stop.done (Stops limits (settled c.args.log.now)) stops.by
    (λ full over. c.stops_stay.ensures limits (with_bytes [] c.args.log.now) (Settle ∷ []) full over))

pub returns-in_err-_events-clause-due : goal.returns-in_err-_events-clause-due
returns-in_err-_events-clause-due g c = λ limits stands.
    let p = err_from_is_err_and c.from_residual.result c.from_residual.ensures.1 in
    rw (p.1, p.2) (c.in_err-_events.ensures.due limits (with_bytes [] c.args.log.now) (c.in-Ok.ensures.ok limits [] stands))

pub returns-clause-stands : goal.returns-clause-stands
returns-clause-stands g c = λ limits stands. c.in_ok-_events.ensures.stands limits (with_bytes [] c.args.log.now) (c.in-Ok.ensures.ok limits [] stands)
