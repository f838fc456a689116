use Rattle.order_queue.proofs.RowLemmas.{leads}
use Rattle.order_queue.proofs.queue.row_leads.Goals as goal

pub returns-in-Some-Some-clause-yes : goal.returns-in-Some-Some-clause-yes
returns-in-Some-Some-clause-yes c = λ yes.
    leads c.in-Some-Some.one.now c.in-Some-Some.other.now c.args.row.now c.args.heap.now c.in-Some-Some.ensures.first c.in-Some-Some.ensures'.first
    (c.is_no_later.ensures.yes yes)

pub returns-in-Some-Some-clause-no : goal.returns-in-Some-Some-clause-no
returns-in-Some-Some-clause-no c = λ no.
    leads c.in-Some-Some.other.now c.in-Some-Some.one.now c.args.heap.now c.args.row.now c.in-Some-Some.ensures'.first c.in-Some-Some.ensures.first
    (c.is_no_later.ensures.no no)
