use Rattle.order_queue.proofs.TurnLemmas.{joined}
use Rattle.order_queue.proofs.heap.Heap.push.Goals as goal

pub returns-clause-ok : goal.returns-clause-ok
returns-clause-ok c = joined _ _ _ _ c.self.view_is c.in_ok-push.ensures.permutation
