use Rattle.std.proofs.Common.{[]}
use Rattle.outside.proofs.Moments.{leaves_in_a_row}
use Rattle.batch_log.specs.Batches.{IsBeforeOrAfter}
use Rattle.batch_log.proofs.Images.{first_gate_leaves, after_first_gate}
use Rattle.batch_log.proofs.put.put_first.Goals as goal

pub returns-in_err-write_through-clause-any_moment : goal.returns-in_err-write_through-clause-any_moment
returns-in_err-write_through-clause-any_moment g c = λ told most payload is short only.
    first_gate_leaves most payload _ _ only c.write_through.ensures.any_moment

pub returns-clause-any_moment : goal.returns-clause-any_moment
returns-clause-any_moment g c = λ told most payload is short only.
    let old = g.D.Disk.state c.args.disk.now in
    let mid = g.D.Disk.state c.write_through.new.disk in
    let each = after_first_gate most old mid (c.requires.empty told) (c.in_ok-write_through.ensures.written told) c.in_ok-write_through.ensures.durable in
    leaves_in_a_row _ _ _ (IsBeforeOrAfter most [] payload)
    (first_gate_leaves most payload _ _ only c.write_through.ensures.any_moment)
    (c.put_after.ensures.any_moment (c.write_through.ensures.uses.still_told told) most [] payload is short each)
