use Rattle.std.proofs.Common.{◌∙◌, ap}
use Rattle.std.proofs.lemmas.Result.{IfOk-weaker}
use Rattle.order_calls.specs.Deeds.{given}
use Rattle.order_calls.proofs.FileLemmas.{found}
use Rattle.order_calls.proofs.files.Files.gift.Goals as goal

pub returns-in-Some : goal.returns-in-Some
returns-in-Some c = IfOk-weaker c.gift.result _ _
    (λ made gives n. gives n ∙ ap (given c.args.ms c.args.pid c.args.parent) (found c.args.self.now _ c.args.pid n _ c.self.view_is c.in-Some.ensures.value))
    c.gift.ensures
