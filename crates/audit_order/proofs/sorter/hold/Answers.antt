use Rattle.std.proofs.Common.{refl}
use Rattle.std.proofs.lemmas.Result.{on_ok_weaker}
use Rattle.audit_order.proofs.sorter.hold.Goals as goal

pub returns-clause-holds : goal.returns-clause-holds
returns-clause-holds c = on_ok_weaker c.push.result (λ come. record { comes = record { come = come; is = refl }; writer = refl }) c.push.ensures.ok
