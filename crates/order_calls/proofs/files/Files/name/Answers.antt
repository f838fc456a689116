use Rattle.std.proofs.Common.{◌∙◌, sym, ap}
use Rattle.std.proofs.lemmas.Result.{on_ok_weaker}
use Rattle.order_calls.specs.Known.{Known, opened_at}
use Rattle.order_calls.proofs.FileLemmas.{named_some}
use Rattle.order_calls.proofs.files.Files.name.Goals as goal

pub returns-in-Some : goal.returns-in-Some
returns-in-Some c = on_ok_weaker c.set.result
    (λ b. named_some c.args.self.now _ c.set.new.self c.remove.new.self.entries (c.args.ms, c.args.serial) c.in-Some.pid c.in-Some.fd c.args.file _ c.self.view_is
    (ap (λ (k : Known). opened_at k (c.args.ms, c.args.serial)) (sym c.self.view_is) ∙ sym c.in-Some.ensures.value) c.told.ensures c.remove.ensures.updates.0 b)
    c.set.ensures
