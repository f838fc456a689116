use Rattle.std.proofs.Common.{ℕ, List, ◌≡◌, inr, drop, sym, subst, arith}
use Rattle.std.proofs.lemmas.List.Elements.{All-push}
use Rattle.std.specs.List.{All}
use Rattle.batch_log.specs.Payloads.{Fits}
use Rattle.outside.proofs.Moments.{uses_in_a_row}
use Rattle.outside.specs.Looking.{looks_in_a_row}
use Rattle.batch_log.specs.Batches.{BreaksAt}
use Rattle.batch_log.specs.Finding.{Finds}
use Rattle.batch_log.proofs.Known.{known_more, known_broken}
use Rattle.batch_log.proofs.open.read_batches.Goals as goal

pub loop-gate-preserved : goal.loop-gate-preserved
loop-gate-preserved g c =
    let so_far = c.loop-gate.invariant in
    let state = g.D.Disk.state in
    let old = state c.args.disk.now in
    let gate = c.loop-gate.gate in
    let length = c.in-Open.length in
    record {
      within = inr (omega (arith, c.in_ok-look_at.ensures.within length c.in-Open.is));
      known = λ told.
          let finds = subst (λ (reads : List ℕ). Finds c.args.most (drop gate reads) c.in_ok-look_at.field-0) (so_far.looks.same told) (c.in_ok-look_at.ensures.finds (so_far.looks.tells told)) in
          known_more c.args.most old.reads gate c.loop-gate.batches (so_far.known told) c.in_ok-look_at.field-0 length c.push.new.self finds c.in-Open.is c.in_ok-push-in-Open.ensures.ok;
      fits = subst (All Fits) (sym c.in_ok-push-in-Open.ensures.ok)
          (All-push Fits c.loop-gate.batches (record { gate = gate; length = length }) so_far.fits
          (omega (arith, c.in_ok-look_at.ensures.within length c.in-Open.is, c.ranges.end.fits)));
      looks = looks_in_a_row old (state c.loop-gate.disk) (state c.look_at.new.disk) so_far.looks c.look_at.ensures.looks;
      uses = uses_in_a_row _ _ _ so_far.uses c.look_at.ensures.uses;
    }

pub returns-in-Broken-clause-bad : goal.returns-in-Broken-clause-bad
returns-in-Broken-clause-bad g c = λ told place is.
    let so_far = c.loop-gate.invariant in
    let old = g.D.Disk.state c.args.disk.now in
    let gate = c.loop-gate.gate in
    let finds = subst (λ (reads : List ℕ). Finds c.args.most (drop gate reads) c.in_ok-look_at.field-0) (so_far.looks.same told) (c.in_ok-look_at.ensures.finds (so_far.looks.tells told)) in
    let same : gate ≡ place = cc is in
    subst (λ (at : ℕ). BreaksAt c.args.most at old.reads) same
    (known_broken c.args.most old.reads gate c.loop-gate.batches (so_far.known told) c.in_ok-look_at.field-0 (omega (arith, c.requires.end told)) finds c.in-Broken.is)
