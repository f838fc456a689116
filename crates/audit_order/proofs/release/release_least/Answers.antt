use Rattle.std.proofs.Common.{◌∙◌, ap, length}
use Rattle.std.proofs.lemmas.Result.{on_ok_weaker}
use Rattle.order_queue.specs.Queue.{Held}
use Rattle.audit_order.proofs.SortLemmas.{moves}
use Rattle.audit_order.proofs.release.release_least.Goals as goal

pub returns-clause-goes : goal.returns-clause-goes
returns-clause-goes g c = on_ok_weaker c.flush_much.result
    (λ goes at may before lines s. goes at tt before lines (moves at before _ _ _ lines may c.in_ok-write_least.ensures.moves s))
    c.flush_much.ensures.goes

pub returns-clause-fewer : goal.returns-clause-fewer
returns-clause-fewer g c =
    on_ok_weaker c.flush_much.result
    (λ goes. ap (λ (q : Held). length q.waits) c.flush_much.ensures.waits ∙ c.in_ok-write_least.ensures.fewer)
    c.flush_much.ensures.goes
