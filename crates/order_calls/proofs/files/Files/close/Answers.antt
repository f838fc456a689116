use Rattle.std.proofs.lemmas.Result.{on_ok_weaker}
use Rattle.order_calls.proofs.FileLemmas.{closed}
use Rattle.order_calls.proofs.files.Files.close.Goals as goal

pub returns : goal.returns
returns c = on_ok_weaker c.set.result (λ b event. closed c.args.self.now c.set.new.self event c.args.pid c.args.fd b) c.set.ensures
