use Rattle.order_rules.proofs.FdLemmas.{fd_kept, fd_marked}
use Rattle.order_rules.proofs.fds.Fds.put.Goals as goal

pub returns-then-held : goal.returns-then-held
returns-then-held c = λ n. fd_kept c.args.self.now _ c.insert.new.self.entries c.remove.new.self.entries c.args.fd n c.args.held c.self.view_is c.if-held.true (c.in_ok-insert.ensures.updates.0 n) (c.remove.ensures.updates.0 n)

pub returns : goal.returns
returns c = λ n. fd_marked c.args.self.now _ c.remove-2.new.self.entries c.insert-2.new.self.entries c.args.fd n c.args.held c.self.view_is c.if-held.false (c.remove-2.ensures.updates.0 n) (c.in_ok-insert-2.ensures.updates.0 n)
