use Rattle.std.proofs.Common.{sym, subst}
use Rattle.report_json.specs.declared.ask.Ask.{Ask}
use Rattle.ingest.specs.Replies.{IsReply}
use Rattle.ingest.proofs.Answered.{if_ok_so}
use Rattle.ingest.proofs.EngineSteps.{engine_own}
use Rattle.ingest.proofs.FewActs.{few_asked}
use Rattle.ingest.proofs.engine.Ingest.ask.Goals as goal

pub invariant_of-self : goal.invariant_of-self
invariant_of-self g c = few_asked _ _ _ c.self.invariant c.answer_question.ensures.same

pub invariant_of-self-in-Why-1 : goal.invariant_of-self-in-Why-1
invariant_of-self-in-Why-1 g c = few_asked _ _ _ c.self.invariant c.answer_why.ensures.same

pub returns-in-Why-clause-reply : goal.returns-in-Why-clause-reply
returns-in-Why-clause-reply g c =
    if_ok_so c.answer_why.result _ _ (λ said so limits h stands.
    let own = engine_own limits _ _ h c.self.view_is stands in
    subst (λ (a : Ask). IsReply g.R.Reducer.mode limits h a said) (sym c.in-Why.is) (so limits _ _ own.joined))
    c.answer_why.ensures.reply
