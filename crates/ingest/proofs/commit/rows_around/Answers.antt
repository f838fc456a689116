use Rattle.ingest.proofs.CommitRowLemmas.{rows_put}
use Rattle.ingest.proofs.commit.rows_around.Goals as goal

pub returns : goal.returns
returns c = rows_put c.args.tables.now c.args.join.now c.args.state c.in_ok-rows.rows c.put_waiting.new.to c.push.new.self c.in_ok-rows.ensures c.in_ok-put_waiting.ensures c.in_ok-push.ensures.ok
