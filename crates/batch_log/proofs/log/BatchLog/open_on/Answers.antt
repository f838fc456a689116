use Rattle.std.proofs.Common.{inr, sym, ◌∙◌}
use Rattle.outside.proofs.Moments.{settles_by_sync}
use Rattle.batch_log.proofs.log.BatchLog.open_on.Goals as goal

-- the reads after the sync leave what it left
pub returns-clause-durable : goal.returns-clause-durable
returns-clause-durable g c = λ told.
    let looks = c.read_log.ensures.looks in
    inr (λ image now. c.in_ok-settle.ensures.durable image (looks.image image now) ∙ sym (looks.same (c.settle.ensures.looks.tells told)))

pub returns-clause-settles : goal.returns-clause-settles
returns-clause-settles g c = λ told.
    let state = g.D.Disk.state in
    let looks = c.settle.ensures.looks in
    inr (settles_by_sync (state c.args.disk.now) (state c.settle.new.disk) (state c.read_log.new.disk) (g.met.D.Disk.lawful c.settle.new.disk)
    looks c.in_ok-settle.ensures.durable c.read_log.ensures.looks (looks.tells told))
