use Rattle.std.proofs.Common.{List, ℕ, sym, subst}
use Rattle.outside.specs.Disk.{LeavesOnly}
use Rattle.batch_log.specs.Batches.{HasBatches, IsBeforeOrAfter}
use Rattle.batch_log.proofs.put.put_batch.Goals as goal

pub returns-in-Some-clause-any_moment : goal.returns-in-Some-clause-any_moment
returns-in-Some-clause-any_moment g c = λ told most payloads payload is short each.
    c.put_after.ensures.any_moment told most payloads payload is short (λ image now. subst (λ last. HasBatches most payloads last image) c.in-Some.is (each image now))

-- an empty disk has no batch
pub returns-in-None-clause-any_moment : goal.returns-in-None-clause-any_moment
returns-in-None-clause-any_moment g c = λ told most payloads payload is short each.
    let old = g.D.Disk.state c.args.disk.now in
    let new = g.D.Disk.state c.put_first.new.disk in
    let none = λ (image : List ℕ) (now : old.image image). subst (λ last. HasBatches most payloads last image) c.in-None.is (each image now) in
    let first = none old.reads ((g.met.D.Disk.lawful c.args.disk.now).read_is_image told) in
    subst (λ (before : List (List ℕ)). LeavesOnly old new (IsBeforeOrAfter most before payload)) (sym first.0)
    (c.put_first.ensures.any_moment told most payload is short (λ image now. (none image now).1))
