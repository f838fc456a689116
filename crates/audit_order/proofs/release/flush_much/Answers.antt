use Rattle.std.proofs.Common.{refl}
use Rattle.std.proofs.lemmas.Result.{on_ok_weaker}
use Rattle.audit_order.proofs.SortLemmas.{hands_on}
use Rattle.audit_order.proofs.release.flush_much.Goals as goal

pub returns-clause-goes : goal.returns-clause-goes
returns-clause-goes g c = on_ok_weaker c.flush.result
    (λ handed at any before lines s. hands_on at before _ _ _ _ lines handed c.flush.ensures.left refl s)
    c.flush.ensures.bytes
