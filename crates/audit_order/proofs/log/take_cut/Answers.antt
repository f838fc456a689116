use Rattle.std.proofs.lemmas.Result.{on_ok_weaker}
use Rattle.audit_order.proofs.log.take_cut.Goals as goal

pub returns-clause-takes : goal.returns-clause-takes
returns-clause-takes g c = on_ok_weaker c.take_line.result
    (λ takes. (c.if-line.false, takes))
    c.take_line.ensures.takes
