use Rattle.std.proofs.lemmas.Result.{on_ok_weaker}
use Rattle.order_queue.proofs.RowLemmas.{put_in_row, put_in_heap}
use Rattle.order_queue.proofs.queue.put.Goals as goal

pub returns-then-may_end_with-clause-ok : goal.returns-then-may_end_with-clause-ok
returns-then-may_end_with-clause-ok c =
    on_ok_weaker c.push.result (λ is. put_in_row c.args.entry c.args.row.now c.args.heap.now c.push.new.self is) c.push.ensures.ok

pub returns-else-may_end_with-clause-ok : goal.returns-else-may_end_with-clause-ok
returns-else-may_end_with-clause-ok c =
    on_ok_weaker c.push-else-may_end_with.result
    (λ moved. put_in_heap c.args.entry c.args.row.now c.args.heap.now c.push-else-may_end_with.new.self moved)
    c.push-else-may_end_with.ensures.ok
