use Rattle.std.proofs.Common.{heap_items, heap_len}
use Rattle.std.specs.List.{Contains}
use Rattle.std.specs.BinaryHeap.{IsHeap}
use Rattle.query_walk.specs.Arrivals.{StayFrom, by_place, place_after}
use Rattle.query_walk.proofs.queue.Queue.next.Given as goal

-- the arrivals from the first place on still wait
abbrev pub invariant-loop-least : goal.invariant-loop-least
invariant-loop-least l = record {
  heap : IsHeap by_place (heap_items l.self-inside.heap);
  stay : StayFrom (Contains (heap_items l.initial.self-inside.heap)) (place_after l.after) (Contains (heap_items l.self-inside.heap));
}

abbrev pub decreases-loop-least : goal.decreases-loop-least
decreases-loop-least l = heap_len l.self-inside.heap
