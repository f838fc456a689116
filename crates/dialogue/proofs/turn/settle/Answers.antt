use Rattle.std.proofs.Common.{ap, Err}
use Rattle.dialogue.proofs.MomentLemmas.{due_where}
use Rattle.report_json.specs.declared.reply.Reply.TheVariants as reply
use Rattle.dialogue.proofs.turn.settle.Goals as goal

pub returns-in-Ok-clause-reply : goal.returns-in-Ok-clause-reply
returns-in-Ok-clause-reply g c = λ limits h stands. ap reply.Settle (c.events.ensures.all limits _ (c.in-Ok.ensures.ok limits h stands))

pub returns-in-Err-clause-due : goal.returns-in-Err-clause-due
returns-in-Err-clause-due g c = λ limits h stands. rw c.halt_of.ensures (due_where c.in-Err.why _ (λ full is. c.in-Err.ensures.full full (ap Err is) limits h stands))
