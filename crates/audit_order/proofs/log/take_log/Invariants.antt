use Rattle.std.proofs.Common.{◌≡◌, ◌<◌, ◌^◌, List, ℕ, Some, length}
use Rattle.audit_order.specs.Halts.{GoesUp}
use Rattle.audit_order.proofs.ReadLemmas.{InLog}
use Rattle.audit_order.proofs.log.take_log.Given as goal

-- some of the log was taken
abbrev pub invariant-loop : goal.invariant-loop
invariant-loop g l =
    let sink = g.O.Sink in
    let source = g.L.Source in
    record {
      limit : l.cut.limit ≡ 2 ^ 60;
      some : 0 < length l.buf;
      takes : (bytes : List ℕ) → source.left l.initial.log ≡ Some bytes
          → InLog g.T.Taker.stands bytes (source.left l.log) (sink.written l.initial.sink) l.initial.cut l.initial.taker (sink.written l.sink) l.cut l.taker;
      counts : GoesUp (sink.faults l.initial.sink) (sink.faults l.sink) (sink.spent l.initial.sink) (sink.spent l.sink);
      reads : GoesUp (source.faults l.initial.log) (source.faults l.log) (source.spent l.initial.log) (source.spent l.log);
    }
