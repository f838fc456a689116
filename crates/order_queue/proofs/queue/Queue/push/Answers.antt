use Rattle.std.proofs.Common.{ap, subst, length, arith, List, ◌∷◌, ◌++◌}
use Rattle.std.specs.List.Sorted.{IsPermutation}
use Rattle.order_queue.specs.Queue.{Held}
use Rattle.order_queue.specs.declared.waiting.Waiting.{Waiting}
use Rattle.order_queue.proofs.TurnLemmas.{more_bytes}
use Rattle.order_queue.proofs.queue.Queue.push.Goals as goal

pub invariant_of-self-2 : goal.invariant_of-self-2
invariant_of-self-2 c =
    let sum = more_bytes _ _ _ c.in_ok-put.ensures.ok in
    let same = ap (λ (w : Waiting). length w.line) c.in_ok-entry.ensures in
    omega (arith, sum, same, c.self.invariant, ap length c.as_slice.ensures)

pub returns-clause-ok : goal.returns-clause-ok
returns-clause-ok c =
    subst (λ (l : List Waiting). IsPermutation (c.args.item ∷ l) (c.put.new.row ++ c.put.new.heap)) (ap (λ (h : Held). h.waits) c.self.view_is)
    (subst (λ (w : Waiting). IsPermutation (w ∷ (c.self.inside.row ++ c.self.inside.heap)) (c.put.new.row ++ c.put.new.heap)) c.in_ok-entry.ensures
    c.in_ok-put.ensures.ok)
