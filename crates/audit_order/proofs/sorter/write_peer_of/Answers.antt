use Rattle.std.proofs.Common.{sym, subst}
use Rattle.std.specs.Prelude.{IfSome}
use Rattle.std.proofs.lemmas.Result.{on_ok_weaker}
use Rattle.audit_order.specs.Lines.{IsPeer}
use Rattle.audit_order.proofs.CourseLemmas.{keeps_peer}
use Rattle.audit_order.proofs.sorter.write_peer_of.Goals as goal

pub returns-in-Some : goal.returns-in-Some
returns-in-Some c = on_ok_weaker c.write_peer.result
    (λ a. keeps_peer _ _ _ a (subst IsPeer (sym c.as_slice.ensures) (subst (λ f. IfSome f IsPeer) c.in-Some.is c.in_ok-peer_of_call.ensures)))
    c.write_peer.ensures
