use Rattle.audit_order.proofs.ReadLemmas.{at_done}
use Rattle.audit_order.proofs.run.order_run.Goals as goal

pub returns-clause-ordered : goal.returns-clause-ordered
returns-clause-ordered g c = λ bytes told. rw c.status_of.ensures (at_done c.order.result _ (c.order.ensures.ordered bytes told))
