use Rattle.std.proofs.Common.{rules, ◌<◌, length, List, subst}
use Rattle.std.specs.Prelude.{IfSome}
use Rattle.std.specs.Option.{IsSome}
use Rattle.order_queue.specs.Order.{IsFirst}
use Rattle.order_queue.specs.declared.waiting.Waiting.{Waiting}
use Rattle.order_queue.proofs.RowLemmas.{row_front}
use Rattle.order_queue.proofs.row.Row.first.Goals as goal

pub returns-clause-first : goal.returns-clause-first
returns-clause-first c =
    let some : IsSome c.front.result → 0 < length c.self.inside.entries.items = λ is. search rules in
    subst (λ (l : List Waiting). IfSome c.front.result (λ x. IsFirst x.now l)) c.self.view_is
    (row_front c.front.result c.self.inside.entries.items c.self.invariant some c.front.ensures.lookup)
