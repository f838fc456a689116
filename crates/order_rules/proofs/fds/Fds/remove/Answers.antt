use Rattle.order_rules.proofs.FdLemmas.{fd_removed}
use Rattle.order_rules.proofs.fds.Fds.remove.Goals as goal

pub returns : goal.returns
returns c = λ n. fd_removed c.args.self.now _ c.remove.new.self.entries c.remove-2.new.self.entries c.args.fd n c.self.view_is (c.remove.ensures.updates.0 n) (c.remove-2.ensures.updates.0 n)
