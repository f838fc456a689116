use Rattle.order_rules.proofs.LawLemmas.{rewrite_off}
use Rattle.order_rules.proofs.laws.nothing_changes_without_a_rule.Goals as goal

pub returns : goal.returns
returns c = rewrite_off
