use Rattle.audit_order.proofs.OwnLemmas.{calls_count_in_order, serials_go_in_order}
use Rattle.audit_order.proofs.BackLemmas.{later_calls_count_later}
use Rattle.audit_order.proofs.laws.calls_keep_their_order.Goals as goal

pub returns-clause-counts : goal.returns-clause-counts
returns-clause-counts c = calls_count_in_order

pub returns-clause-goes : goal.returns-clause-goes
returns-clause-goes c = serials_go_in_order

pub returns-clause-later : goal.returns-clause-later
returns-clause-later c = later_calls_count_later
