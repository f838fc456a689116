use Rattle.std.proofs.Common.{arith, subst, List, Option}
use Rattle.flow_base.specs.declared.types.EntityId.{EntityId}
use Rattle.kept_flows.specs.Answering.{AnswersFor}
use Rattle.ingest.specs.Events.{flows_in}
use Rattle.ingest.proofs.Asked.{answered_so}
use Rattle.ingest.proofs.replies.answer_question.Goals as goal

pub returns-in-Ok-Some-clause-reply : goal.returns-in-Ok-Some-clause-reply
returns-in-Ok-Some-clause-reply g c = λ limits s released stands.
    let found = subst (λ (o : Option (List EntityId)). AnswersFor g.R.Reducer.mode (flows_in limits released) c.args.question.now o) c.in-Ok-Some.field-0-is (c.in-Ok-Some.ensures.exact limits s released stands) in
    answered_so _ limits _ s released c.args.question.now stands c.mode.result c.in-Ok-Some.ids _ c.mode.ensures c.say.ensures
    (omega (arith, c.if-subject-known.false, c.known.ensures, c.subject.ensures)) found
