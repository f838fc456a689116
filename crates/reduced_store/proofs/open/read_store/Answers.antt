use Rattle.std.proofs.Common.{◌≡◌, ◌∙◌, ap, inl, inr, sym, subst, if◌then◌else◌, Some, None}
use Rattle.std.proofs.lemmas.Result.{err_from_is_err_and}
use Rattle.batch_log.specs.declared.open.LogFault.TheVariants.{StoreFault}
use Rattle.batch_log.specs.Finding.{places}
use Rattle.store_check.specs.Conditions.{bounds_of}
use Rattle.reduced_store.specs.Opening.{StopsAt, last_gate}
use Rattle.reduced_store.specs.Placing.{AreThere, StandOn}
use Rattle.reduced_store.proofs.PlaceLemmas.{stand_on}
use Rattle.reduced_store.proofs.OpenLemmas.{durable_by_looking, settles_by_looking, not_blamed, repeats_at, lawful_by_place}
use Rattle.reduced_store.proofs.open.read_store.Goals as goal

pub returns-in_err-found-clause-bad : goal.returns-in_err-found-clause-bad
returns-in_err-found-clause-bad g c = λ told place is.
    let reads = (g.D.Disk.state c.args.disk.now).reads in
    let most = c.args.limits.now.payload in
    let opened = c.in_ok-log.ensures.opened told in
    let payloads = opened.0 in
    let listed = c.as_slice.ensures ∙ opened.2 in
    let there = c.listed_batches_have_their_payloads.ensures most payloads c.in_ok-log.log.last reads opened.1 in
    let there_now = subst (λ b. AreThere reads b payloads) (sym listed) there in
    let looks = c.open_on.ensures.looks in
    let there_then = subst (λ r. AreThere r c.as_slice.result.now payloads) (sym (looks.same told)) there_now in
    let p = err_from_is_err_and c.from_residual-in_err-found.result c.from_residual-in_err-found.ensures.1 in
    let a = p.1 in
    let b = p.2 in
    let stops = c.in_err-found.ensures.bad (looks.tells told) payloads there_then place cc in
    inr (inl (payloads, (c.in_ok-log.log.last, opened.1), subst (λ b. StopsAt (bounds_of c.args.limits.now) b payloads place) listed stops))

pub returns-in_err-found-clause-settles : goal.returns-in_err-found-clause-settles
returns-in_err-found-clause-settles g c = λ told.
    let state = g.D.Disk.state in
    let settles = not_blamed (c.in_ok-log.log, c.in_ok-log.batches) StoreFault (c.in_ok-log.ensures.settles told) in
    inr (settles_by_looking (state c.args.disk.now) (state c.open_on.new.disk) (state c.read_batches.new.disk) settles c.read_batches.ensures.looks (c.open_on.ensures.looks.tells told))

pub returns-in-Some-clause-bad : goal.returns-in-Some-clause-bad
returns-in-Some-clause-bad g c = λ told place is.
    let reads = (g.D.Disk.state c.args.disk.now).reads in
    let limits = c.args.limits.now in
    let found = c.in_ok-found.found in
    let last = c.last_gate-last.result in
    let opened = c.in_ok-log.ensures.opened told in
    let payloads = opened.0 in
    let listed = c.as_slice.ensures ∙ opened.2 in
    let there = c.listed_batches_have_their_payloads.ensures limits.payload payloads c.in_ok-log.log.last reads opened.1 in
    let there_now = subst (λ b. AreThere reads b payloads) (sym listed) there in
    let looks = c.open_on.ensures.looks in
    let there_then = subst (λ r. AreThere r c.as_slice.result.now payloads) (sym (looks.same told)) there_now in
    let here = c.in_ok-found.ensures.store (looks.tells told) payloads there_then in
    let last_is : last ≡ last_gate (places 0 payloads) = c.last_gate-last.ensures ∙ ap last_gate (c.as_slice-2.ensures ∙ opened.2) in
    let at : (if found.rows.lawful then None else last) ≡ Some c.in-Some.place = sym c.unless_lawful.ensures ∙ c.in-Some.is in
    let one : c.in-Some.place ≡ place = cc is in
    inr (inr (repeats_at limits reads payloads found last place (c.in_ok-log.log.last, opened.1) here last_is (at ∙ ap Some one)))

pub returns-in-Some-clause-durable : goal.returns-in-Some-clause-durable
returns-in-Some-clause-durable g c = λ told.
    let state = g.D.Disk.state in
    let durable = not_blamed (c.in_ok-log.log, c.in_ok-log.batches) StoreFault (c.in_ok-log.ensures.durable told) in
    inr (durable_by_looking (state c.open_on.new.disk) (state c.read_batches.new.disk) durable c.read_batches.ensures.looks (c.open_on.ensures.looks.tells told))

pub returns-in-Some-clause-settles : goal.returns-in-Some-clause-settles
returns-in-Some-clause-settles g c = λ told.
    let state = g.D.Disk.state in
    let settles = not_blamed (c.in_ok-log.log, c.in_ok-log.batches) StoreFault (c.in_ok-log.ensures.settles told) in
    inr (settles_by_looking (state c.args.disk.now) (state c.open_on.new.disk) (state c.read_batches.new.disk) settles c.read_batches.ensures.looks (c.open_on.ensures.looks.tells told))

pub returns-clause-durable : goal.returns-clause-durable
returns-clause-durable g c = λ told.
    let state = g.D.Disk.state in
    let durable = not_blamed (c.in_ok-log.log, c.in_ok-log.batches) StoreFault (c.in_ok-log.ensures.durable told) in
    inr (durable_by_looking (state c.open_on.new.disk) (state c.read_batches.new.disk) durable c.read_batches.ensures.looks (c.open_on.ensures.looks.tells told))

pub returns-clause-settles : goal.returns-clause-settles
returns-clause-settles g c = λ told.
    let state = g.D.Disk.state in
    let settles = not_blamed (c.in_ok-log.log, c.in_ok-log.batches) StoreFault (c.in_ok-log.ensures.settles told) in
    inr (settles_by_looking (state c.args.disk.now) (state c.open_on.new.disk) (state c.read_batches.new.disk) settles c.read_batches.ensures.looks (c.open_on.ensures.looks.tells told))

pub returns-clause-lawful : goal.returns-clause-lawful
returns-clause-lawful g c =
    let bounds = bounds_of c.args.limits.now in
    let found = c.in_ok-found.found in
    let last = c.last_gate-last.result in
    let listed = c.as_slice-2.ensures ∙ sym c.as_slice.ensures in
    let none : (if found.rows.lawful then None else last) ≡ None = sym c.unless_lawful.ensures ∙ c.in-None.is in
    lawful_by_place bounds found c.as_slice.result.now last (c.last_gate-last.ensures ∙ ap last_gate listed) c.in_ok-found.ensures.none none

pub returns-clause-placed : goal.returns-clause-placed
returns-clause-placed g c = λ told.
    let reads = (g.D.Disk.state c.args.disk.now).reads in
    let limits = c.args.limits.now in
    let log = c.in_ok-log.log in
    let found = c.in_ok-found.found in
    let opened = c.in_ok-log.ensures.opened told in
    let payloads = opened.0 in
    let listed = c.as_slice.ensures ∙ opened.2 in
    let there = c.listed_batches_have_their_payloads.ensures limits.payload payloads log.last reads opened.1 in
    let there_now = subst (λ b. AreThere reads b payloads) (sym listed) there in
    let looks = c.open_on.ensures.looks in
    let there_then = subst (λ r. AreThere r c.as_slice.result.now payloads) (sym (looks.same told)) there_now in
    let placed = c.in_ok-found.ensures.placed (looks.tells told) payloads there_then in
    subst (λ r. StandOn r log found.rows) (sym (c.read_batches.ensures.looks.same (looks.tells told) ∙ looks.same told))
    (stand_on limits.payload payloads reads log c.as_slice.result.now found.rows opened.1 listed there_now placed)
