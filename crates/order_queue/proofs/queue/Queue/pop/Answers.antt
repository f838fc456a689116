use Rattle.std.proofs.Common.{ap, length, arith}
use Rattle.order_queue.specs.Queue.{Held}
use Rattle.order_queue.specs.declared.waiting.Waiting.{Waiting}
use Rattle.order_queue.proofs.TurnLemmas.{fewer_bytes}
use Rattle.order_queue.proofs.queue.Queue.pop.Goals as goal

pub overflow_sub-self : goal.overflow_sub-self
overflow_sub-self c =
    let sum = fewer_bytes _ _ _ c.in_ok-entry.ensures.some in
    let same = ap (λ (w : Waiting). length w.line) c.into_waiting-item.ensures in
    omega (arith, sum, same, c.self.invariant, ap length c.as_slice.ensures)

pub invariant_of-self-2 : goal.invariant_of-self-2
invariant_of-self-2 c =
    let sum = fewer_bytes _ _ _ c.in_ok-entry.ensures.some in
    let same = ap (λ (w : Waiting). length w.line) c.into_waiting-item.ensures in
    omega (arith, sum, same, c.self.invariant, ap length c.as_slice.ensures)

pub returns-clause-bytes : goal.returns-clause-bytes
returns-clause-bytes c =
    let sum = fewer_bytes _ _ _ c.in_ok-entry.ensures.some in
    let same = ap (λ (w : Waiting). length w.line) c.into_waiting-item.ensures in
    omega (arith, sum, same, c.self.invariant, ap length c.as_slice.ensures, ap (λ (h : Held). h.bytes) c.self.view_is)
