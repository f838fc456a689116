use Rattle.std.proofs.Common.{◌∙◌, ◌+◌, ap}
use Rattle.outside.specs.Disk.{put_at}
use Rattle.outside.proofs.Moments.{leaves_in_a_row}
use Rattle.batch_log.specs.Batches.{IsBeforeOrAfter}
use Rattle.batch_log.proofs.Images.{staging_leaves, opening_leaves}
use Rattle.batch_log.proofs.put.put_after.Goals as goal

pub returns-in_err-write_through-clause-any_moment : goal.returns-in_err-write_through-clause-any_moment
returns-in_err-write_through-clause-any_moment g c = λ told most payloads payload is short each.
    staging_leaves most payloads c.args.gate payload _ _ c.args.staged.now each c.write_through.ensures.any_moment

pub returns-clause-any_moment : goal.returns-clause-any_moment
returns-clause-any_moment g c = λ told most payloads payload is short each.
    let old = g.D.Disk.state c.args.disk.now in
    let gate = c.args.gate in
    let before = each old.reads ((g.met.D.Disk.lawful c.args.disk.now).read_is_image told) in
    let mid_is = c.in_ok-write_through.ensures.written told ∙ ap (λ staged. put_at (gate + 1) staged old.reads) is in
    leaves_in_a_row _ _ _ (IsBeforeOrAfter most payloads payload)
    (staging_leaves most payloads gate payload _ _ c.args.staged.now each c.write_through.ensures.any_moment)
    (opening_leaves most payloads gate payload old _ _ before short mid_is c.in_ok-write_through.ensures.durable c.write_through-2.ensures.any_moment)
