use Rattle.order_calls.proofs.FileLemmas.{kept}
use Rattle.order_calls.proofs.files.Files.keep.Goals as goal

pub returns : goal.returns
returns c = kept c.args.self.now _ c.insert.new.self.entries c.args.pid c.args.held c.self.view_is c.in_ok-insert.ensures.updates.0
