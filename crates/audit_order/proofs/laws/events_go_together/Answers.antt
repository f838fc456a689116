use Rattle.audit_order.proofs.TogetherLemmas.{events_go_together}
use Rattle.audit_order.proofs.laws.events_go_together.Goals as goal

pub returns : goal.returns
returns c = events_go_together
