use Rattle.std.proofs.Common.{rules, ◌<◌, length, heap_items}
use Rattle.order_queue.proofs.RowLemmas.{heap_top}
use Rattle.order_queue.proofs.heap.Heap.first.Goals as goal

pub returns-clause-first : goal.returns-clause-first
returns-clause-first c =
    let some : 0 < length (heap_items c.self.inside.entries) = search rules in
    heap_top c.in_ok-entry.field-0.now _ _ c.self.view_is some c.in_ok-entry.ensures.lookup (c.in_ok-entry.ensures.greatest c.self.invariant)
