use Rattle.order_queue.proofs.RowLemmas.{least_of_heap}
use Rattle.order_queue.proofs.queue.first_of.Goals as goal

pub returns-else-row_leads-clause-first : goal.returns-else-row_leads-clause-first
returns-else-row_leads-clause-first c =
    least_of_heap c.first-else-row_leads.result c.args.row.now c.args.heap.now c.first-else-row_leads.ensures.first (c.row_leads.ensures.no c.if-row_leads.false)
