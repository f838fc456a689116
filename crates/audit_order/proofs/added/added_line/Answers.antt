use Rattle.audit_order.proofs.CourseLemmas.{added_pieces}
use Rattle.audit_order.proofs.added.added_line.Goals as goal

pub returns : goal.returns
returns c = record {
  node = c.args.node.now;
  time = c.args.stamp.now.time.now;
  serial = c.args.stamp.now.serial.now;
  is = added_pieces _ _ _ _ _ _ _ _ _ _ _ _ _ _ _ _ _ _ c.in_ok-line.ensures c.in_ok-append.ensures.ok c.in_ok-append-2.ensures.ok c.in_ok-append-3.ensures.ok
      c.in_ok-append-4.ensures.ok c.in_ok-append-5.ensures.ok c.in_ok-append-6.ensures.ok c.in_ok-append-7.ensures.ok c.in_ok-append-8.ensures.ok;
}
