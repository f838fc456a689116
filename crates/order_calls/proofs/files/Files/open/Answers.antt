use Rattle.order_calls.proofs.FileLemmas.{opened}
use Rattle.order_calls.proofs.files.Files.open.Goals as goal

pub returns : goal.returns
returns c = opened c.args.self.now c.set.new.self _ c.insert.new.self.entries (c.args.ms, c.args.serial) c.args.pid c.args.fd c.self.view_is c.in_ok-set.ensures c.in_ok-insert.ensures.updates.0
