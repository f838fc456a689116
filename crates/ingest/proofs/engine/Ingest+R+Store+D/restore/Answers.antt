use Rattle.std.proofs.Common.{◌≡◌, ◌∙◌, ap, sym, subst, List, None, Some, Err}
use Rattle.reduced_store.specs.OnDisk.{OnDisk, SameBut, stores_go_along}
use Rattle.reduced_store.specs.Stores.{found_of}
use Rattle.row_codec.specs.declared.rows.StoreRow.{StoreRow}
use Rattle.store_check.specs.Conditions.{bounds_of}
use Rattle.stored.specs.Words.{state_of}
use Rattle.ingest.specs.Restoring.{CanBeRemade, IsRemade}
use Rattle.ingest.specs.Waiting.{AreSoundWaiting}
use Rattle.ingest.proofs.Remade.{can_remake, can_restore, no_rows, stored_by, stored_nothing}
use Rattle.ingest.proofs.Unread.{passes_none, waits_well}
use Rattle.ingest.proofs.engine.Ingest+R+Store+D.restore.Goals as goal

pub begun-requires-clause-none : goal.begun-requires-clause-none
begun-requires-clause-none g c =
    let none : state_of c.args.opened.rows ≡ None = sym (c.in_default.ensures ∙ ap state_of c.as_slice.ensures) in
    no_rows (bounds_of c.args.limits.now) c.requires.found.0 (found_of c.args.opened) c.requires.found.1 c.what_is_found_can_be_restored.ensures none

pub returns-in_default-clause-stored : goal.returns-in_default-clause-stored
returns-in_default-clause-stored g c =
    let none : state_of c.args.opened.rows ≡ None = sym (c.in_default.ensures ∙ ap state_of c.as_slice.ensures) in
    stored_nothing g.D.Disk.state g.D.Disk.faults g.D.Disk.spent c.args.limits.now g.R.Reducer.mode c.args.opened c.begun.result c.what_is_found_was_stored.ensures c.a_disk_reads_in_one_way.ensures.one_list none
    c.begun.ensures.stands c.begun.ensures.part c.begun.ensures.marked
    (subst (λ (k : OnDisk g.row.D.Denot). SameBut g.D.Disk.state g.D.Disk.faults g.D.Disk.spent c.args.opened.store k) (sym c.begun.ensures.keep) (stores_go_along.same c.args.opened.store))

pub returns-in_default-clause-alike : goal.returns-in_default-clause-alike
returns-in_default-clause-alike g c =
    subst (λ (k : OnDisk g.row.D.Denot). SameBut g.D.Disk.state g.D.Disk.faults g.D.Disk.spent c.args.opened.store k) (sym c.begun.ensures.keep) (stores_go_along.same c.args.opened.store)

pub make_again-requires : goal.make_again-requires
make_again-requires g c =
    let said : state_of c.args.opened.rows ≡ Some c.in-Some.state.now = sym (c.in-Some.ensures ∙ ap state_of c.as_slice.ensures) in
    let can = can_restore (bounds_of c.args.limits.now) c.requires.found.0 (found_of c.args.opened) c.requires.found.1 c.what_is_found_can_be_restored.ensures c.in-Some.state.now said in
    subst (λ (l : List StoreRow). CanBeRemade c.args.limits.now c.in-Some.state.now l) (sym c.as_slice-2.ensures)
    (can_remake c.args.limits.now c.args.opened.rows c.args.opened.store.rows.rows c.in-Some.state.now said can)

pub resumed-requires-clause-parts : goal.resumed-requires-clause-parts
resumed-requires-clause-parts g c =
    let said : state_of c.args.opened.rows ≡ Some c.in-Some.state.now = sym (c.in-Some.ensures ∙ ap state_of c.as_slice.ensures) in
    let can = can_restore (bounds_of c.args.limits.now) c.requires.found.0 (found_of c.args.opened) c.requires.found.1 c.what_is_found_can_be_restored.ensures c.in-Some.state.now said in
    let is = subst (λ (l : List StoreRow). IsRemade c.args.limits.now c.in-Some.state.now l c.in-Ok.parts) c.as_slice-2.ensures c.in-Ok.ensures.parts in
    (c.args.limits.now, c.args.opened.rows, is, can, said)

pub returns-in-Ok-clause-stored : goal.returns-in-Ok-clause-stored
returns-in-Ok-clause-stored g c =
    let said : state_of c.args.opened.rows ≡ Some c.in-Some.state.now = sym (c.in-Some.ensures ∙ ap state_of c.as_slice.ensures) in
    let is = subst (λ (l : List StoreRow). IsRemade c.args.limits.now c.in-Some.state.now l c.in-Ok.parts) c.as_slice-2.ensures c.in-Ok.ensures.parts in
    stored_by g.D.Disk.state g.D.Disk.faults g.D.Disk.spent c.args.limits.now g.R.Reducer.mode c.args.opened c.in-Some.state.now c.in-Ok.parts c.resumed.result
    g.met.D.Disk.lawful c.what_is_found_was_stored.ensures c.stores_say_what_was_left.ensures c.a_disk_reads_in_one_way.ensures.one_list said is
    c.resumed.ensures.joined c.resumed.ensures.reader c.resumed.ensures.part c.resumed.ensures.marked c.resumed.ensures.alike

pub returns-in-Ok-clause-bad : goal.returns-in-Ok-clause-bad
returns-in-Ok-clause-bad g c = waits_well c.args.limits.now c.args.opened c.resumed.result c.resumed.ensures.reading

pub returns-in-Ok-clause-full : goal.returns-in-Ok-clause-full
returns-in-Ok-clause-full g c = passes_none c.args.limits.now c.args.opened c.resumed.result c.resumed.ensures.reading

pub returns-in-Err-clause-alike : goal.returns-in-Err-clause-alike
returns-in-Err-clause-alike g c = stores_go_along.same c.args.opened.store

pub returns-in-Err-clause-fault : goal.returns-in-Err-clause-fault
returns-in-Err-clause-fault g c = λ is. absurd (c.in-Err.ensures.other.0 is)

pub returns-in-Err-clause-hidden : goal.returns-in-Err-clause-hidden
returns-in-Err-clause-hidden g c = λ place is told. c.in-Err.ensures.other.1 place is

pub returns-in-Err-clause-full : goal.returns-in-Err-clause-full
returns-in-Err-clause-full g c = λ full is.
    let said : state_of c.args.opened.rows ≡ Some c.in-Some.state.now = sym (c.in-Some.ensures ∙ ap state_of c.as_slice.ensures) in
    let past = c.in-Err.ensures.full full (ap Err is) in
    let sound = subst (λ (l : List StoreRow). AreSoundWaiting c.args.limits.now c.in-Some.state.now l) c.as_slice-2.ensures past.2 in
    (past.0, (c.in-Some.state.now, said, past.1), (c.in-Some.state.now, said, sound))
