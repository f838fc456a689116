use Rattle.audit_order.proofs.ReadLemmas.{at_done}
use Rattle.audit_order.proofs.run.undo_run.Goals as goal

pub returns-clause-undone : goal.returns-clause-undone
returns-clause-undone g c = λ bytes told. rw c.status_of.ensures (at_done c.undo.result _ (c.undo.ensures.undone bytes told))
