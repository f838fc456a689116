use Rattle.std.proofs.Common.{◌≡◌, ◌∷◌, ◌∙◌, ap, length, rules, ℕ}
use Rattle.outside.specs.Disk.{put_at}
use Rattle.batch_log.specs.Log.{next_gate, log_after}
use Rattle.batch_log.specs.Batches.{OPEN, after_gate}
use Rattle.batch_log.proofs.Causes.{if_ok, full_goes_on}
use Rattle.batch_log.proofs.Writing.{length_after_gate}
use Rattle.batch_log.proofs.Images.{adds_when_ok}
use Rattle.batch_log.proofs.log.BatchLog.commit.Goals as goal

pub returns-in_err-admit-clause-full : goal.returns-in_err-admit-clause-full
returns-in_err-admit-clause-full g c = λ full.
    full_goes_on c.admit.result c.from_residual.result c.in_err-admit.field-0.0 full c.in_err-admit.was c.from_residual.ensures.1 (c.admit.ensures.full full)

pub returns-clause-any_moment : goal.returns-clause-any_moment
returns-clause-any_moment g c = λ told payloads each.
    let is : c.as_slice.result.now ≡ after_gate c.args.payload.now = search rules in
    c.put.ensures.any_moment told payloads c.args.payload.now is c.in_ok-admit.ensures.short each

pub returns-clause-log : goal.returns-clause-log
returns-clause-log g c =
    let is : c.as_slice.result.now ≡ after_gate c.args.payload.now = search rules in
    c.put.ensures.log ∙ ap (λ (n : ℕ). log_after c.args.self.now n c.put.result) (ap length is ∙ length_after_gate c.args.payload.now)

pub returns-clause-adds : goal.returns-clause-adds
returns-clause-adds g c = λ told payloads before.
    let is : c.as_slice.result.now ≡ after_gate c.args.payload.now = search rules in
    let payload = c.args.payload.now in
    let old = (g.D.Disk.state c.args.disk.now).reads in
    adds_when_ok c.put.result c.args.self.now c.put.new.self payloads payload old (g.D.Disk.state c.put.new.disk).reads
    (c.put.ensures.log ∙ ap (λ (n : ℕ). log_after c.args.self.now n c.put.result) (ap length is ∙ length_after_gate payload))
    before c.in_ok-admit.ensures.short
    (if_ok c.put.result (λ (written : (g.D.Disk.state c.put.new.disk).reads ≡ put_at (next_gate c.args.self.now) (OPEN ∷ c.as_slice.result.now) old).
    written ∙ ap (λ bytes. put_at (next_gate c.args.self.now) (OPEN ∷ bytes) old) is) (c.put.ensures.written told))
