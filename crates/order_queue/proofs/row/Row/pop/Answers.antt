use Rattle.std.proofs.Common.{List, subst}
use Rattle.std.specs.Prelude.{IfSome}
use Rattle.order_queue.specs.Order.{IsFirst}
use Rattle.order_queue.specs.declared.waiting.Waiting.{Waiting}
use Rattle.order_queue.proofs.RowLemmas.{row_popped}
use Rattle.order_queue.proofs.row.Row.pop.Goals as goal

pub returns-clause-first : goal.returns-clause-first
returns-clause-first c =
    subst (λ (l : List Waiting). IfSome c.pop_front.result (λ e. IsFirst e l)) c.self.view_is
    (row_popped c.pop_front.result c.self.inside.entries.items c.pop_front.new.self.items c.pop_front.ensures.items c.self.invariant)
