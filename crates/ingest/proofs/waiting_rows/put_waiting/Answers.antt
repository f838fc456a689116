use Rattle.ingest.proofs.WaitingRowLemmas.{waiting_put}
use Rattle.ingest.proofs.waiting_rows.put_waiting.Goals as goal

pub returns : goal.returns
returns c = waiting_put c.args.join.now c.args.to.now c.put_groups.new.to c.parts.result c.put_groups.result c.parts.ensures c.put_groups.ensures
