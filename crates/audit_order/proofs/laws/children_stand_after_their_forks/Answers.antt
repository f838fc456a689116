use Rattle.audit_order.proofs.OwnLemmas.{forks_go_first}
use Rattle.audit_order.proofs.laws.children_stand_after_their_forks.Goals as goal

pub returns : goal.returns
returns c = forks_go_first
