use Rattle.std.proofs.Common.{◌≡◌, ◌<◌, ◌≤◌, ◌+◌, ◌∙◌, ◌∷◌, ◌++◌, [], ℕ, suc, List, length, take, get_or, inl, inr, ⊎_elim, arith, refl, sym, ap, subst}
use Rattle.std.proofs.lemmas.List.{take_all, take_more}
use Rattle.std.proofs.lemmas.Result.{err_from_is_err_and}
use Rattle.outside.proofs.Moments.{uses_in_a_row}
use Rattle.outside.specs.Looking.{looks_in_a_row}
use Rattle.batch_log.specs.declared.find.Batch.{Batch}
use Rattle.batch_log.specs.Payloads.{IsPayloadOf}
use Rattle.store_check.specs.Conditions.{bounds_of}
use Rattle.reduced_store.specs.Reading.{HasRead, Further, AreNoStore}
use Rattle.reduced_store.proofs.OpenLemmas.{batch_there, more_taken, all_taken, same_at, store_of}
use Rattle.reduced_store.proofs.open.read_batches.Goals as goal

pub loop-batch-init : goal.loop-batch-init
loop-batch-init g c =
    let first = c.in_ok-reading.ensures c.args.limits.now in
    record {
      some = ([], first);
      none = λ empty. first;
      known = λ told payloads there. first;
      looks = record { later = omega arith; keeps = λ t x le s. s; adds_nothing = λ t x le s. s; image = λ x i. i; same = λ told. refl; tells = λ told. told };
      uses = record { still_told = λ t. t; told_before = λ t. t; later = omega arith; stays = λ s. s; rose = λ none. absurd none };
    }

pub returns-in_err-payload-clause-bad : goal.returns-in_err-payload-clause-bad
returns-in_err-payload-clause-bad g c = λ told payloads there place is.
    let so_far = c.loop-batch.invariant in
    let reads = (g.D.Disk.state c.args.disk.now).reads in
    let i = c.loop-batch.batch-index in
    let d : Batch = record { gate = 0; length = 0 } in
    let batch = get_or c.args.batches.now i d in
    let within = subst (λ (r : List ℕ). batch.gate + 9 + batch.length ≤ length r) (sym (so_far.looks.same told)) (batch_there reads c.args.batches.now payloads there i d c.loop-batch-test.true).within in
    let p = err_from_is_err_and c.from_residual-in_err-payload.result c.from_residual-in_err-payload.ensures.1 in
    let a = p.1 in
    let b = p.2 in
    absurd (c.in_err-payload.ensures.there (so_far.looks.tells told) within place cc)

pub returns-then-not-branch-clause-bad : goal.returns-then-not-branch-clause-bad
returns-then-not-branch-clause-bad g c = λ told payloads there place is.
    let so_far = c.loop-batch.invariant in
    let bounds = bounds_of c.args.limits.now in
    let reads = (g.D.Disk.state c.args.disk.now).reads in
    let listed = c.args.batches.now in
    let i = c.loop-batch.batch-index in
    let d : Batch = record { gate = 0; length = 0 } in
    let h = so_far.known told payloads there in
    let read : IsPayloadOf (get_or listed i d) reads c.as_slice.result.now =
    subst (IsPayloadOf (get_or listed i d) reads) (sym c.as_slice.ensures) (subst (λ (r : List ℕ). IsPayloadOf (get_or listed i d) r c.in_ok-payload.payload) (so_far.looks.same told) (c.in_ok-payload.ensures.payload (so_far.looks.tells told))) in
    let none = subst (λ b. Further b bounds (take i listed ++ get_or listed i d ∷ []) (take i payloads) c.as_slice.result.now c.take.new.self) c.if-not-branch.true (c.in_ok-take.ensures (take i listed) (take i payloads) h) in
    let more = more_taken reads listed payloads there i d c.as_slice.result.now c.loop-batch-test.true read in
    let next : i + 1 ≡ suc i = omega arith in
    let gate : (get_or listed i d).gate ≡ place = cc is in
    record {
      index = i;
      within = c.loop-batch-test.true;
      at = λ e. sym gate ∙ ap (λ (b : Batch). b.gate) (same_at listed i d e c.loop-batch-test.true);
      store = store_of bounds (take i listed) (take i payloads) c.loop-batch.reading h;
      none = subst (λ n. AreNoStore bounds (take n payloads)) next (subst (AreNoStore bounds) (sym more) none);
    }

pub loop-batch-preserved : goal.loop-batch-preserved
loop-batch-preserved g c =
    let so_far = c.loop-batch.invariant in
    let bounds = bounds_of c.args.limits.now in
    let state = g.D.Disk.state in
    let old = state c.args.disk.now in
    let listed = c.args.batches.now in
    let i = c.loop-batch.batch-index in
    let d : Batch = record { gate = 0; length = 0 } in
    record {
      some = (
        so_far.some.0 ++ c.as_slice.result.now ∷ [],
        subst (λ (bs : List Batch). HasRead bounds bs (so_far.some.0 ++ c.as_slice.result.now ∷ []) c.take.new.self) (sym (take_more listed i d c.loop-batch-test.true))
            (subst (λ b. Further b bounds (take i listed ++ get_or listed i d ∷ []) so_far.some.0 c.as_slice.result.now c.take.new.self) c.if-not-branch.false (c.in_ok-take.ensures (take i listed) so_far.some.0 so_far.some.1)),
      );
      none = λ empty. let some : i < length listed = c.loop-batch-test.true in let zero : length listed ≡ 0 = ap length empty in absurd (omega (arith, some, zero));
      known = λ told payloads there.
          let h = so_far.known told payloads there in
          let read : IsPayloadOf (get_or listed i d) old.reads c.as_slice.result.now =
          subst (IsPayloadOf (get_or listed i d) old.reads) (sym c.as_slice.ensures) (subst (λ (r : List ℕ). IsPayloadOf (get_or listed i d) r c.in_ok-payload.payload) (so_far.looks.same told) (c.in_ok-payload.ensures.payload (so_far.looks.tells told))) in
          let further = subst (λ b. Further b bounds (take i listed ++ get_or listed i d ∷ []) (take i payloads) c.as_slice.result.now c.take.new.self) c.if-not-branch.false (c.in_ok-take.ensures (take i listed) (take i payloads) h) in
          let more = subst (λ (bs : List Batch). HasRead bounds bs (take i payloads ++ c.as_slice.result.now ∷ []) c.take.new.self) (sym (take_more listed i d c.loop-batch-test.true)) further in
          subst (λ ps. HasRead bounds (take (i + 1) listed) ps c.take.new.self) (sym (more_taken old.reads listed payloads there i d c.as_slice.result.now c.loop-batch-test.true read)) more;
      looks = looks_in_a_row old (state c.loop-batch.disk) (state c.read_payload.new.disk) so_far.looks c.read_payload.ensures.looks;
      uses = uses_in_a_row _ _ _ so_far.uses c.read_payload.ensures.uses;
    }

pub take-requires-clause-read : goal.take-requires-clause-read
take-requires-clause-read g c =
    let so_far = c.loop-batch.invariant in
    (take c.loop-batch.batch-index c.args.batches.now, so_far.some.0, so_far.some.1)

pub take-requires-clause-length : goal.take-requires-clause-length
take-requires-clause-length g c = ap length c.as_slice.ensures ∙ c.in_ok-payload.ensures.length

pub finish-requires : goal.finish-requires
finish-requires g c =
    let so_far = c.loop-batch.invariant in
    (take c.loop-batch.batch-index c.args.batches.now, so_far.some.0, so_far.some.1)

pub returns-clause-found : goal.returns-clause-found
returns-clause-found g c =
    let some = c.loop-batch.invariant.some in
    (some.0, (c.in_ok-finish.ensures (take c.loop-batch.batch-index c.args.batches.now) some.0 some.1).0)

pub returns-clause-settled : goal.returns-clause-settled
returns-clause-settled g c =
    let some = c.loop-batch.invariant.some in
    (c.in_ok-finish.ensures (take c.loop-batch.batch-index c.args.batches.now) some.0 some.1).1.settled

pub returns-clause-store : goal.returns-clause-store
returns-clause-store g c = λ told payloads there.
    let so_far = c.loop-batch.invariant in
    let bounds = bounds_of c.args.limits.now in
    let reads = (g.D.Disk.state c.args.disk.now).reads in
    let listed = c.args.batches.now in
    let i = c.loop-batch.batch-index in
    let whole = all_taken reads listed payloads there i (omega (arith, c.loop-batch-test.false)) in
    (c.in_ok-finish.ensures (take i listed) payloads (subst (λ ps. HasRead bounds (take i listed) ps c.loop-batch.reading) whole (so_far.known told payloads there))).0

pub returns-clause-placed : goal.returns-clause-placed
returns-clause-placed g c = λ told payloads there.
    let so_far = c.loop-batch.invariant in
    let bounds = bounds_of c.args.limits.now in
    let reads = (g.D.Disk.state c.args.disk.now).reads in
    let listed = c.args.batches.now in
    let i = c.loop-batch.batch-index in
    let whole = all_taken reads listed payloads there i (omega (arith, c.loop-batch-test.false)) in
    let all : take i listed ≡ listed = take_all i listed (omega (arith, c.loop-batch-test.false)) in
    (c.in_ok-finish.ensures listed payloads (subst (λ bs. HasRead bounds bs payloads c.loop-batch.reading) all (subst (λ ps. HasRead bounds (take i listed) ps c.loop-batch.reading) whole (so_far.known told payloads there)))).1

pub returns-clause-none : goal.returns-clause-none
returns-clause-none g c = λ empty. (c.in_ok-finish.ensures [] [] (c.loop-batch.invariant.none empty)).0

pub returns-in_err-payload-clause-uses : goal.returns-in_err-payload-clause-uses
returns-in_err-payload-clause-uses g c =
    let first = c.loop-batch.invariant.uses in
    let second = c.read_payload.ensures.uses in
    record {
      still_told = λ told. second.still_told (first.still_told told);
      told_before = λ told. first.told_before (second.told_before told);
      later = omega (arith, first.later, second.later);
      stays = λ spent. second.stays (first.stays spent);
      rose = λ blamed.
          let p = err_from_is_err_and c.from_residual-in_err-payload.result c.from_residual-in_err-payload.ensures.1 in
          let a = p.1 in
          let b = p.2 in
          let w = c.in_err-payload.was in
          ⊎_elim (λ low. inl (omega (arith, low, first.later))) (λ spent. inr spent) (second.rose (cc));
    }
