use Rattle.order_calls.proofs.FileLemmas.{begins}
use Rattle.order_calls.proofs.files.Files.begin.Goals as goal

pub returns : goal.returns
returns c = λ event. begins c.args.self.now _ c.remove.new.self.entries event c.args.pid c.self.view_is c.remove.ensures.updates.0
