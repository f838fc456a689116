use Rattle.std.proofs.Common.{◌<◌, ℕ, take, length, ap, arith}
use Rattle.audit_order.proofs.ReadLemmas.{begins_log, goes_on_log, ends_log}
use Rattle.audit_order.proofs.log.take_log.Goals as goal

pub loop-init : goal.loop-init
loop-init g c = record {
  limit = c.requires.limit;
  some = c.requires.some;
  takes = λ bytes told. begins_log g.T.Taker.stands bytes (g.L.Source.left c.args.log.now) (g.O.Sink.written c.args.sink.now) c.args.cut.now c.args.taker.now told;
  counts = record { later = omega arith; stays = λ s. s };
  reads = record { later = omega arith; stays = λ s. s };
}

pub returns-then-count-eq0-clause-takes : goal.returns-then-count-eq0-clause-takes
returns-then-count-eq0-clause-takes g c = λ bytes told.
    let some : 0 < length c.read.new.buf = omega (arith, c.loop.invariant.some, c.read.auto.buf) in
    (ends_log g.T.Taker.stands bytes (g.L.Source.left c.loop.log) (g.L.Source.left c.read.new.self) (g.O.Sink.written c.args.sink.now) (g.O.Sink.written c.loop.sink)
    c.args.cut.now c.loop.cut c.args.taker.now c.loop.taker (take c.in-Ok.count c.read.new.buf)
    (ap (λ (n : ℕ). take n c.read.new.buf) c.if-count-eq0.true) (c.loop.invariant.takes bytes told) c.in-Ok.ensures.bytes.0
    (c.in-Ok.ensures.bytes.1 c.if-count-eq0.true some)).takes

pub returns-then-count-eq0-clause-whole : goal.returns-then-count-eq0-clause-whole
returns-then-count-eq0-clause-whole g c = λ bytes told.
    let some : 0 < length c.read.new.buf = omega (arith, c.loop.invariant.some, c.read.auto.buf) in
    (ends_log g.T.Taker.stands bytes (g.L.Source.left c.loop.log) (g.L.Source.left c.read.new.self) (g.O.Sink.written c.args.sink.now) (g.O.Sink.written c.loop.sink)
    c.args.cut.now c.loop.cut c.args.taker.now c.loop.taker (take c.in-Ok.count c.read.new.buf)
    (ap (λ (n : ℕ). take n c.read.new.buf) c.if-count-eq0.true) (c.loop.invariant.takes bytes told) c.in-Ok.ensures.bytes.0
    (c.in-Ok.ensures.bytes.1 c.if-count-eq0.true some)).none

pub loop-preserved : goal.loop-preserved
loop-preserved g c = record {
  limit = c.take_piece.ensures.limit;
  some = omega (arith, c.loop.invariant.some, c.read.auto.buf);
  takes = λ bytes told.
      goes_on_log g.T.Taker.stands bytes (g.L.Source.left c.loop.log) (g.L.Source.left c.read.new.self) (g.O.Sink.written c.args.sink.now) (g.O.Sink.written c.loop.sink) (g.O.Sink.written c.take_piece.new.sink)
      c.args.cut.now c.loop.cut c.take_piece.new.cut c.args.taker.now c.loop.taker c.take_piece.new.taker (take c.in-Ok.count c.read.new.buf)
      (c.loop.invariant.takes bytes told) c.in-Ok.ensures.bytes.0 c.in_ok-take_piece.ensures.takes;
  counts = record {
    later = omega (arith, c.loop.invariant.counts.later, c.take_piece.ensures.counts.later);
    stays = λ s. c.take_piece.ensures.counts.stays (c.loop.invariant.counts.stays s);
  };
  reads = record {
    later = omega (arith, c.loop.invariant.reads.later, c.read.ensures.cause.later);
    stays = λ s. c.read.ensures.cause.stays (c.loop.invariant.reads.stays s);
  };
}
