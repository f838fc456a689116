use Rattle.order_calls.proofs.HeldLemmas.{put}
use Rattle.order_calls.proofs.held.Held.set.Goals as goal

pub returns : goal.returns
returns c = λ n. put _ c.args.self.now c.insert.new.self.entries c.args.fd c.args.thing n c.self.view_is (c.in_ok-insert.ensures.updates.0 n)
