use Rattle.std.proofs.Common.{◌∙◌, sym}
use Rattle.std.proofs.lemmas.Result.{on_ok_weaker}
use Rattle.order_calls.proofs.HeldLemmas.{ran_with, ran_without}
use Rattle.order_calls.proofs.held.Held.run.Goals as goal

pub returns-in-Some : goal.returns-in-Some
returns-in-Some c = on_ok_weaker c.set.result
    (λ sets n. ran_with c.args.self.now c.set.new.self c.clear.new.self.entries c.in-Some.thing n c.clear.ensures.empty (sym c.get-input.ensures ∙ c.in-Some.is) (sets n))
    c.set.ensures

pub returns-in-None : goal.returns-in-None
returns-in-None c = λ n. ran_without c.args.self.now c.clear.new.self.entries n c.clear.ensures.empty (sym c.get-input.ensures ∙ c.in-None.is)
