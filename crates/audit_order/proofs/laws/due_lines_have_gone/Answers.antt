use Rattle.audit_order.proofs.DueLemmas.{past_have_gone, full_memory_has_gone, all_have_gone}
use Rattle.audit_order.proofs.laws.due_lines_have_gone.Goals as goal

pub returns-clause-past : goal.returns-clause-past
returns-clause-past c = past_have_gone

pub returns-clause-memory : goal.returns-clause-memory
returns-clause-memory c = full_memory_has_gone

pub returns-clause-starts : goal.returns-clause-starts
returns-clause-starts c = all_have_gone
