use Rattle.std.proofs.lemmas.Result.{on_ok_weaker}
use Rattle.order_calls.proofs.FileLemmas.{heard}
use Rattle.order_calls.proofs.files.Files.hear.Goals as goal

pub returns-clause-stands : goal.returns-clause-stands
returns-clause-stands c = on_ok_weaker c.note.result
    (λ hears before stands. heard c.args.self.now c.note.new.self (c.args.ms, c.args.serial) c.args.said before hears stands)
    c.note.ensures
