use Rattle.std.proofs.Common.{◌≡◌, ◌≤◌, ◌-◌, ◌^◌, length, take, map}
use Rattle.audit_lex.specs.History.{Byte}
use Rattle.audit_order.specs.Halts.{GoesUp}
use Rattle.audit_order.specs.Reads.{TakesAlso}
use Rattle.audit_order.proofs.log.take_piece.Given as goal

-- the first `done` bytes were taken
abbrev pub invariant-loop-done : goal.invariant-loop-done
invariant-loop-done g l =
    let sink = g.O.Sink in
    record {
      limit : l.cut.limit ≡ 2 ^ 60;
      within : l.done ≤ length l.piece;
      takes : TakesAlso g.T.Taker.stands (sink.written l.initial.sink) l.initial.cut l.initial.taker (sink.written l.sink) l.cut l.taker (map Byte (take l.done l.piece));
      counts : GoesUp (sink.faults l.initial.sink) (sink.faults l.sink) (sink.spent l.initial.sink) (sink.spent l.sink);
    }

abbrev pub decreases-loop-done : goal.decreases-loop-done
decreases-loop-done g l = length l.piece - l.done
