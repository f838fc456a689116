use Rattle.std.proofs.Common.{◌≡◌, ◌≤◌, length}
use Rattle.audit_order.specs.Halts.{GoesUp}
use Rattle.audit_order.specs.Turns.{IsOfBytes}
use Rattle.audit_order.specs.Sorted.{GoesIf}
use Rattle.audit_order.proofs.release.make_room.Given as goal

-- nothing was lost so far
abbrev pub invariant-loop-sorter : goal.invariant-loop-sorter
invariant-loop-sorter g l =
    let sink = g.O.Sink in
    record {
      goes : GoesIf (IsOfBytes l.more) (sink.written l.initial.sink) l.initial.sorter (sink.written l.sink) l.sorter;
      counts : GoesUp (sink.faults l.initial.sink) (sink.faults l.sink) (sink.spent l.initial.sink) (sink.spent l.sink);
      bounds : l.sorter.bounds ≡ l.initial.sorter.bounds;
      fewer : length l.sorter.queue.waits ≤ length l.initial.sorter.queue.waits;
    }

abbrev pub decreases-loop-sorter : goal.decreases-loop-sorter
decreases-loop-sorter g l = length l.sorter.queue.waits
