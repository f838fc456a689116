use Rattle.std.proofs.Common.{◌∙◌, ap, refl}
use Rattle.std.proofs.lemmas.Result.{on_ok_weaker}
use Rattle.order_queue.specs.Queue.{Held}
use Rattle.audit_order.specs.Lines.{Written}
use Rattle.audit_order.specs.Turns.{AtEnd}
use Rattle.audit_order.proofs.SortLemmas.{ends, writes_besides, hands_on}
use Rattle.audit_order.proofs.release.finish.Goals as goal

pub returns-clause-goes : goal.returns-clause-goes
returns-clause-goes g c = on_ok_weaker c.flush.result
    (λ handed before lines s. hands_on AtEnd before _ _ c.write_end.new.sorter _ lines handed c.flush.ensures.left refl
    (writes_besides AtEnd before _ c.release_all.new.sorter c.write_end.new.sorter lines c.in_ok-write_end.ensures.keeps c.in_ok-write_end.ensures.state
    (c.in_ok-release_all.ensures.goes AtEnd tt before lines (ends before _ _ lines s))))
    c.flush.ensures.bytes

pub returns-clause-none : goal.returns-clause-none
returns-clause-none g c = on_ok_weaker c.flush.result
    (λ handed. ap (λ (q : Held). q.waits) c.in_ok-write_end.ensures.waits ∙ c.in_ok-release_all.ensures.none)
    c.flush.ensures.bytes

pub returns-clause-written : goal.returns-clause-written
returns-clause-written g c = on_ok_weaker c.flush.result (λ handed. ap (λ (w : Written). w.pending) c.flush.ensures.left) c.flush.ensures.bytes
