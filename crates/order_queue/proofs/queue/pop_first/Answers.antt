use Rattle.std.proofs.Common.{refl}
use Rattle.order_queue.proofs.RowLemmas.{first_of_row, first_of_heap, taken_of_heap}
use Rattle.order_queue.proofs.queue.pop_first.Goals as goal

pub returns-then-row_leads-clause-least : goal.returns-then-row_leads-clause-least
returns-then-row_leads-clause-least c =
    first_of_row c.pop.result c.args.row.now c.pop.new.self c.args.heap.now c.pop.ensures.first c.pop.ensures.some (c.row_leads.ensures.yes c.if-row_leads.true)

pub returns-else-row_leads-clause-least : goal.returns-else-row_leads-clause-least
returns-else-row_leads-clause-least c =
    first_of_heap c.pop-else-row_leads.result c.args.heap.now c.pop-else-row_leads.new.self c.args.row.now c.pop-else-row_leads.ensures.first
    c.pop-else-row_leads.ensures.some (c.row_leads.ensures.no c.if-row_leads.false)

pub returns-else-row_leads-clause-some : goal.returns-else-row_leads-clause-some
returns-else-row_leads-clause-some c =
    taken_of_heap c.pop-else-row_leads.result c.args.row.now c.args.heap.now c.pop-else-row_leads.new.self c.pop-else-row_leads.ensures.some
