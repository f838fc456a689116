use Rattle.audit_order.proofs.ShownLemmas.{peers_by_rules}
use Rattle.audit_order.proofs.laws.no_peer_is_added_without_its_rule.Goals as goal

pub returns : goal.returns
returns c = peers_by_rules
