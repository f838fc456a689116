use Rattle.audit_order.proofs.FeedLemmas.{undone_orders}
use Rattle.audit_order.proofs.laws.ordered_logs_are_undone.Goals as goal

pub returns : goal.returns
returns c = undone_orders
