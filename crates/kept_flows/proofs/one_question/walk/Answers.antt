use Rattle.std.proofs.Common.{ℕ, ◌↔◌, sym, subst}
use Rattle.std.specs.List.{Contains}
use Rattle.std.specs.Option.{IfSome}
use Rattle.std.specs.Result.{IfOk}
use Rattle.reach_model.specs.Ids.{numbers}
use Rattle.reach_rows.specs.declared.questions.Question.{Question}
use Rattle.reach_rows.specs.Asked.{IsAnswer, counted}
use Rattle.kept_flows.proofs.one_question.walk.Goals as goal

pub returns-in-Back-clause-exact : goal.returns-in-Back-clause-exact
returns-in-Back-clause-exact g c = subst (λ (q : Question). IfOk c.backward.result (λ ids. IfSome (g.W.Rows.rows c.args.rows.now) (λ R. (x : ℕ) → Contains (numbers ids) x ↔ IsAnswer q (counted q R) x))) (sym c.in-Back.is) c.backward.ensures.exact

pub returns-in-Fore-clause-exact : goal.returns-in-Fore-clause-exact
returns-in-Fore-clause-exact g c = subst (λ (q : Question). IfOk c.forward.result (λ ids. IfSome (g.W.Rows.rows c.args.rows.now) (λ R. (x : ℕ) → Contains (numbers ids) x ↔ IsAnswer q (counted q R) x))) (sym c.in-Fore.is) c.forward.ensures.exact
