use Rattle.order_text.specs.Seen.{stamp_seen}
use Rattle.order_queue.proofs.MarkLemmas.{marked}
use Rattle.order_queue.proofs.marks.lengths_of.Goals as goal

pub returns : goal.returns
returns c = λ line is. marked line (stamp_seen c.args.stamp.now) is
