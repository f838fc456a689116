use Rattle.std.proofs.Common.{sym, subst}
use Rattle.std.specs.Prelude.{IfSome}
use Rattle.std.proofs.lemmas.Result.{on_ok_weaker}
use Rattle.audit_order.specs.Lines.{IsEnd}
use Rattle.audit_order.proofs.CourseLemmas.{keeps_end}
use Rattle.audit_order.proofs.sorter.write_end_of.Goals as goal

pub returns-in-Some-clause-keeps : goal.returns-in-Some-clause-keeps
returns-in-Some-clause-keeps c = on_ok_weaker c.write_added.result
    (λ a. keeps_end _ _ _ a (subst IsEnd (sym c.as_slice.ensures) (subst (λ f. IfSome f IsEnd) c.in-Some.is c.in_ok-end_of_call.ensures)))
    c.write_added.ensures
