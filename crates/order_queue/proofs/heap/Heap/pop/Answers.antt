use Rattle.order_queue.proofs.TurnLemmas.{left}
use Rattle.order_queue.proofs.RowLemmas.{heap_popped}
use Rattle.order_queue.proofs.heap.Heap.pop.Goals as goal

pub returns-clause-first : goal.returns-clause-first
returns-clause-first c = heap_popped c.in_ok-entry.field-0 _ _ _ c.self.view_is c.in_ok-entry.ensures.permutation (c.in_ok-entry.ensures.below_top c.self.invariant)

pub returns-clause-some : goal.returns-clause-some
returns-clause-some c = left c.in_ok-entry.field-0 _ _ _ c.self.view_is c.in_ok-entry.ensures.permutation
