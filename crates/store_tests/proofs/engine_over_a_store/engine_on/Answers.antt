use Rattle.std.proofs.Common.{ap}
use Rattle.batch_log.specs.Log.{Log}
use Rattle.store_tests.proofs.engine_over_a_store.engine_on.Goals as goal

pub returns-in-Ok-restore : goal.returns-in-Ok-restore
returns-in-Ok-restore g c =
    c.what_can_commit_still_can.ensures c.in-Ok.opened.store c.in-Ok-restore.engine.joined.keep c.in-Ok-restore.ensures.alike
    (record {
      usable = ap (λ (l : Log). l.usable) c.in-Ok.ensures.log;
      stands = λ told. c.in-Ok.ensures.stands (c.in-Ok.ensures.uses.told_before told);
    })
