use Rattle.std.proofs.lemmas.Result.{on_ok_weaker}
use Rattle.order_calls.proofs.FileLemmas.{copied}
use Rattle.order_calls.proofs.files.Files.copy.Goals as goal

pub returns : goal.returns
returns c = on_ok_weaker c.set.result
    (λ b serial. copied c.args.self.now c.set.new.self c.args.ms serial c.args.pid c.args.from c.args.to _ _ c.get.ensures c.copy_of-thing.ensures b)
    c.set.ensures
