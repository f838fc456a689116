use Rattle.std.proofs.Common.{rules}
use Rattle.std.proofs.lemmas.Result.{on_ok_weaker}
use Rattle.order_text.specs.Seen.{stamp_seen}
use Rattle.order_kin.proofs.NodeLemmas.{stamped_read, unstamped_read}
use Rattle.order_kin.proofs.families.Families.read.Goals as goal

pub returns-in-None-clause-reads : goal.returns-in-None-clause-reads
returns-in-None-clause-reads c = unstamped_read c.args.self.now c.args.line.now (search rules)

pub returns-in-Some-clause-reads : goal.returns-in-Some-clause-reads
returns-in-Some-clause-reads c = on_ok_weaker c.read_stamped.result
    (λ reads. stamped_read c.args.self.now c.read_stamped.new.self c.args.line.now (stamp_seen c.in-Some.stamp) (search rules) reads)
    c.read_stamped.ensures.reads
