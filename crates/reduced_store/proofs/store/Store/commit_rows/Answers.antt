use Rattle.std.proofs.Common.{◌≡◌, ◌∙◌, ◌↔◌, ℕ, List, Some, inr, length, subst}
use Rattle.std.specs.Result.{IsErrOf}
use Rattle.outside.specs.Disk.{LeavesOnly}
use Rattle.batch_log.specs.Log.{passed}
use Rattle.batch_log.specs.Batches.{IsBeforeOrAfter}
use Rattle.batch_log.specs.declared.log.CommitFault.TheVariants as commit
use Rattle.reduced_store.specs.OnDisk.{UnlessNoMemory}
use Rattle.reduced_store.proofs.store.Store.commit_rows.Goals as goal

pub returns-in-Ok-clause-any_moment : goal.returns-in-Ok-clause-any_moment
returns-in-Ok-clause-any_moment g c = λ told payloads each.
    let state = g.D.Disk.state in
    subst (λ (p : List ℕ). LeavesOnly (state c.args.self.now.disk) (state c.commit.new.self.disk) (IsBeforeOrAfter c.args.self.now.log.most payloads p)) c.in-Ok.ensures.payload.is (c.commit.ensures.any_moment told payloads each)

pub returns-in-Ok-clause-full : goal.returns-in-Ok-clause-full
returns-in-Ok-clause-full g c = λ full.
    subst (λ (p : List ℕ). UnlessNoMemory c.commit.result (IsErrOf c.commit.result (commit.Full full) ↔ (passed c.args.self.now.log (length p) ≡ Some full))) c.in-Ok.ensures.payload.is (c.commit.ensures.full full)

pub returns-in-Ok-clause-leads : goal.returns-in-Ok-clause-leads
returns-in-Ok-clause-leads g c = λ told. c.spell.ensures.leads ((g.met.D.Disk.lawful c.args.self.now.disk).told_is.0 told)

pub returns-in-Err-clause-leads : goal.returns-in-Err-clause-leads
returns-in-Err-clause-leads g c = λ told. c.spell.ensures.leads ((g.met.D.Disk.lawful c.args.self.now.disk).told_is.0 told)
