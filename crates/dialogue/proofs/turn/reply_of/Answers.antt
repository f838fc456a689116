use Rattle.std.proofs.Common.{ap, Err}
use Rattle.dialogue.specs.StoreHalts.{ask_halt}
use Rattle.dialogue.proofs.MomentLemmas.{asked_due, asked_with, none_told}
use Rattle.dialogue.proofs.turn.reply_of.Goals as goal

pub returns-in-Err-clause-memory : goal.returns-in-Err-clause-memory
returns-in-Err-clause-memory g c = λ never always. rw c.halt_of_ask.ensures (ap ask_halt (c.in-Err.ensures.always never always))

-- rows that stand for a history are observable, so no place is without a row
pub returns-in-Err-clause-due : goal.returns-in-Err-clause-due
returns-in-Err-clause-due g c = λ limits h stands.
    let told = stands.joined.kept_are.told in
    rw c.halt_of_ask.ensures (asked_due c.in-Err.fault (λ place is. none_told _ _ (c.in-Err.ensures.cause.bad_store place (ap Err is)) told))

pub returns-in-Err-clause-causes : goal.returns-in-Err-clause-causes
returns-in-Err-clause-causes g c = rw c.halt_of_ask.ensures (asked_with c.in-Err.fault _ _ (λ is. c.in-Err.ensures.cause.store_fault (ap Err is)) (λ place is. c.in-Err.ensures.hidden place (ap Err is)))
