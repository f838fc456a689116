use Rattle.std.proofs.Common.{take}
use Rattle.audit_order.proofs.ReadLemmas.{part_took}
use Rattle.audit_order.proofs.log.take_part.Goals as goal

pub returns-clause-takes : goal.returns-clause-takes
returns-clause-takes g c =
    part_took g.T.Taker.stands (g.O.Sink.written c.args.sink.now) (g.O.Sink.written c.take_next.new.sink) c.args.cut.now c.next.new.self c.args.taker.now c.take_next.new.taker
    (take c.in_ok-count.count c.args.piece.now) c.in_ok-count.line c.in_ok-count.ensures.line c.in_ok-count.ensures.stands c.in_ok-take_next.ensures.takes
