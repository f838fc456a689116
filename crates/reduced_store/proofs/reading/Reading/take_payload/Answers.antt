use Rattle.std.proofs.Common.{◌≡◌, ◌<◌, ◌^◌, ◌∙◌, ◌+◌, ◌++◌, List, length, arith, refl, sym, ap, subst}
use Rattle.std.specs.Prelude.{filter, fold}
use Rattle.std.specs.List.{All, flat_map}
use Rattle.row_codec.specs.declared.rows.StoreRow.{StoreRow}
use Rattle.row_codec.specs.Rows.{Fits, row as spelling}
use Rattle.store_check.specs.Conditions.{bounds_of, Continues}
use Rattle.store_check.specs.Order.{AreOrdered}
use Rattle.store_check.specs.Store.{grown}
use Rattle.store_check.specs.Tables.{Goes}
use Rattle.stored.specs.Words.{all_of}
use Rattle.reduced_store.specs.Filling.{AllGoOn}
use Rattle.reduced_store.specs.Placing.{AreInBatch}
use Rattle.reduced_store.specs.Reading.{IsChecked, IsOfOther, closes}
use Rattle.reduced_store.proofs.PlaceLemmas.{payload_long, placed_more}
use Rattle.reduced_store.proofs.ReadLemmas.{other_is_none, stopped_is_none, goes_on_still, may_fill, told_none, told_some}
use Rattle.reduced_store.proofs.reading.Reading.take_payload.Goals as goal

pub returns-in_default : goal.returns-in_default
returns-in_default c = λ listed payloads bytes h spelled.
    let bounds = bounds_of c.args.limits.now in
    let p = c.args.payload in
    let checked = subst (IsChecked bounds h.batches payloads) (sym c.take.ensures.value) h.checked in
    let other = subst (IsOfOther p.mode) c.take.ensures.value (c.in_default.ensures h.batches payloads checked) in
    other_is_none bounds payloads bytes c.payloads_are_apart.ensures p.mode p.rows h.batches c.args.self.now.checked h.checked spelled other

pub returns-in_default-2 : goal.returns-in_default-2
returns-in_default-2 c = λ listed payloads bytes h spelled.
    let bounds = bounds_of c.args.limits.now in
    let p = c.args.payload in
    let checked = subst (IsChecked bounds h.batches payloads) (sym c.take.ensures.value) h.checked in
    let both = c.in-Some.ensures h.batches payloads checked in
    let k = c.in-Some.check in
    let before = all_of h.batches in
    let stop = told_none _ _ c.in_ok-check.field-0 c.in_default-2.is (c.in_ok-check.ensures before both.1.stands) in
    stopped_is_none bounds payloads bytes c.payloads_are_apart.ensures p.mode p.rows h.batches both.0 spelled
    (λ goes. stop (subst (λ (rs : List StoreRow). Continues k.bounds k.mode before rs) (sym c.as_slice.ensures)
    (subst (λ m. Continues k.bounds m before p.rows) (sym both.1.mode_is) (subst (λ b. Continues b p.mode before p.rows) (sym both.1.bounds_are) goes))))

pub take_batch-requires-clause-next : goal.take_batch-requires-clause-next
take_batch-requires-clause-next c =
    let bounds = bounds_of c.args.limits.now in
    let p = c.args.payload in
    let listed = c.requires.read.0 in
    let payloads = c.requires.read.1 in
    let h = c.requires.read.2 in
    let checked = subst (IsChecked bounds h.batches payloads) (sym c.take.ensures.value) h.checked in
    let both = c.in-Some.ensures h.batches payloads checked in
    let k = c.in-Some.check in
    let before = all_of h.batches in
    let goes = told_some _ _ c.in_ok-check.field-0 c.in-Some-2.check c.in-Some-2.is (c.in_ok-check.ensures before both.1.stands) in
    let few : bounds.entities < 2 ^ 32 = omega (arith, c.args.limits.now.entities_within) in
    let continues = subst (λ (rs : List StoreRow). Continues k.bounds k.mode before rs) c.as_slice.ensures goes.0 in
    subst (λ (rs : List StoreRow). AllGoOn c.args.self.now.rows.rows rs) (sym c.as_slice-2.ensures)
    (may_fill bounds listed payloads p.mode p.rows c.args.self.now k h few both.1 continues)

pub take_batch-requires-clause-ordered : goal.take_batch-requires-clause-ordered
take_batch-requires-clause-ordered c =
    let bounds = bounds_of c.args.limits.now in
    let payloads = c.requires.read.1 in
    let h = c.requires.read.2 in
    let checked = subst (IsChecked bounds h.batches payloads) (sym c.take.ensures.value) h.checked in
    let both = c.in-Some.ensures h.batches payloads checked in
    let goes = told_some _ _ c.in_ok-check.field-0 c.in-Some-2.check c.in-Some-2.is (c.in_ok-check.ensures (all_of h.batches) both.1.stands) in
    subst AreOrdered (c.as_slice.ensures ∙ sym c.as_slice-2.ensures) goes.0.ordered

pub take_batch-requires-clause-fit : goal.take_batch-requires-clause-fit
take_batch-requires-clause-fit c = subst (All Fits) (sym c.as_slice-2.ensures) c.requires.spelled.is.fit

pub take_batch-requires-clause-long : goal.take_batch-requires-clause-long
take_batch-requires-clause-long c =
    let p = c.args.payload in
    subst (λ (rs : List StoreRow). 6 + length (flat_map spelling rs) ≡ c.args.batch.length) (sym c.as_slice-2.ensures)
    (payload_long c.requires.spelled.bytes p.mode p.rows c.args.batch.length c.requires.spelled.is c.requires.spelled.long)

pub take_batch-requires-clause-settled : goal.take_batch-requires-clause-settled
take_batch-requires-clause-settled c = c.requires.read.2.placed.settled

pub returns : goal.returns
returns c = λ listed payloads bytes h spelled.
    let bounds = bounds_of c.args.limits.now in
    let p = c.args.payload in
    let batch = c.args.batch in
    let checked = subst (IsChecked bounds h.batches payloads) (sym c.take.ensures.value) h.checked in
    let both = c.in-Some.ensures h.batches payloads checked in
    let k = c.in-Some.check in
    let before = all_of h.batches in
    let goes = told_some _ _ c.in_ok-check.field-0 c.in-Some-2.check c.in-Some-2.is (c.in_ok-check.ensures before both.1.stands) in
    let few : bounds.entities < 2 ^ 32 = omega (arith, c.args.limits.now.entities_within) in
    let continues = subst (λ (rs : List StoreRow). Continues k.bounds k.mode before rs) c.as_slice.ensures goes.0 in
    let further = subst (λ (rs : List StoreRow). Goes k (before ++ rs) c.in-Some-2.check) c.as_slice.ensures goes.1 in
    let kept = c.in_ok-take_batch.ensures.rows ∙ ap (fold grown c.args.self.now.rows.rows) c.as_slice-2.ensures in
    let placed = placed_more listed payloads batch bytes p.mode p.rows c.args.self.now.rows c.take_batch.new.to h.placed spelled c.in_ok-take_batch.ensures.settled c.in_ok-take_batch.ensures.firm
    (λ bytes on there. c.in_ok-take_batch.ensures.there bytes on (subst (AreInBatch bytes batch) (sym c.as_slice-2.ensures) there)) in
    goes_on_still bounds payloads bytes listed batch p.mode p.rows c.args.self.now _ k c.in-Some-2.check h few both.0 both.1 spelled continues further
    refl kept c.take_batch.ensures.unjudged c.in_ok-pick.ensures.tables
    (c.in_ok-pick.ensures.closing ∙ ap (λ (r : List StoreRow). r ++ filter closes p.rows) c.new.ensures) placed
