use Rattle.order_queue.proofs.RowLemmas.{no_later}
use Rattle.order_queue.proofs.entry.is_no_later.Goals as goal

pub returns-in_default : goal.returns-in_default
returns-in_default c = record {
  yes = λ e. no_later c.args.one.now c.args.other.now c.cmp.result c.cmp.ensures c.in_default.not-Greater;
  no = λ e. absurd (cc e);
}
