use Rattle.order_calls.proofs.FileLemmas.{ends}
use Rattle.order_calls.proofs.files.Files.end.Goals as goal

pub returns : goal.returns
returns c = ends c.args.self.now _ c.remove.new.self.entries (c.args.ms, c.args.serial) c.self.view_is c.remove.ensures.updates.0
