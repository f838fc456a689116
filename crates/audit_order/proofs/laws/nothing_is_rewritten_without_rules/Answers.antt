use Rattle.audit_order.proofs.ShownLemmas.{rewrites_by_rules}
use Rattle.audit_order.proofs.laws.nothing_is_rewritten_without_rules.Goals as goal

pub returns : goal.returns
returns c = rewrites_by_rules
