-- A disk that must be refused is refused.
use Rattle.std.proofs.Common.{◌≡◌, ◌∙◌, refl, sym, ap, subst, arith, inl, inr, true, ℕ, List, [], ◌++◌, Option, Some, None}
use Rattle.std.specs.Prelude.{unwrap_or, Result, Err}
use Rattle.flow_base.specs.declared.limits.Limits.{Limits}
use Rattle.outside.specs.Disk.{DiskState}
use Rattle.batch_log.specs.Log.{Log}
use Rattle.reach_model.specs.declared.modes.Mode.{Mode}
use Rattle.reduced_store.specs.Filling.{AreApart}
use Rattle.reduced_store.specs.OneReading.{BadAtOnePlace, BadNowhere, OneLast, OneMode, SameOthers}
use Rattle.reduced_store.specs.Opening.{BeginsLast, IsBadAt, IsStoreRead}
use Rattle.reduced_store.specs.Reading.{IsOfMode, closing_rows, table_rows}
use Rattle.reduced_store.specs.Stores.{Agree, IsOfWrongMode, IsOpenedOver, found_of}
use Rattle.reduced_store.specs.declared.opened.Opened.{Opened}
use Rattle.reduced_store.specs.declared.opened.OpenFault.{OpenFault}
use Rattle.reduced_store.specs.declared.opened.OpenFault.TheVariants as opening
use Rattle.reduced_store.specs.declared.reading.Found.{Found}
use Rattle.row_codec.specs.declared.rows.StoreRow.{StoreRow}
use Rattle.row_codec.specs.declared.state.StateRow.{StateRow}
use Rattle.store_check.specs.Conditions.{bounds_of}
use Rattle.store_check.specs.Store.{rows_of}
use Rattle.stored.specs.Words.{all_of, state_of}
use Rattle.reduced_store.specs.OnDisk.{OnDisk}
use Rattle.ingest.specs.Restoring.{IsBadWaiting, IsHidden, IsPastInput, OfState}
use Rattle.ingest.specs.Waiting.{AreSoundWaiting}
use Rattle.ingest.specs.declared.restoring.RestoreFault.{RestoreFault}
use Rattle.ingest.specs.declared.restoring.RestoreFault.TheVariants as restore
use Rattle.ingest.specs.declared.restoring.Unrestored.{Unrestored}
use Rattle.dialogue.specs.declared.halt.StoreHalt.{StoreHalt}
use Rattle.dialogue.specs.declared.halt.StoreHalt.TheVariants as over
use Rattle.store_runs.specs.declared.status.Status.{Status}
use Rattle.store_runs.specs.declared.status.Status.TheVariants as status
use Rattle.store_runs.specs.Refusals.{AlwaysRefuses, EndsUnlessFailed, IsUnsoundFor, RefusesNoBatch, RefusesUnsound}
use Rattle.dialogue.specs.StoreHalts.{open_halt, restore_halt}
use Rattle.store_runs.specs.Statuses.{store_status}
use Rattle.store_runs.specs.Stores.{WaitsUnsoundly, WasFound}

-- ---- a disk that wasn't opened

-- a fault says that the bytes are bad where they are
abbrev pub SaysBad : Limits → DiskState → OpenFault → Type 0
SaysBad limits disk fault = disk.told → (place : ℕ) → fault ≡ opening.BadStore place → IsBadAt limits place disk.reads

-- and that they are of another mode where they are
abbrev pub SaysWrong : Limits → DiskState → Option Mode → OpenFault → Type 0
SaysWrong limits disk asked fault = disk.told → (kept want : Mode) → fault ≡ opening.WrongMode kept want → IsOfWrongMode limits disk.reads asked kept want

-- a disk is of another mode in one way
one_wrong : OneMode → (limits : Limits) (bytes : List ℕ) (asked : Option Mode) (m n kept want : Mode) → IsOfWrongMode limits bytes asked m n → IsOfWrongMode limits bytes asked kept want
    → status.WrongMode m n ≡ status.WrongMode kept want
one_wrong one limits bytes asked m n kept want w v =
    let modes = one limits bytes w.read v.read w.is v.is in
    let first = w.differ.kept_is in
    let second = v.differ.kept_is in
    let third = w.differ.asked_is in
    let fourth = v.differ.asked_is in
    let same : m ≡ kept = cc in
    let wanted : n ≡ want = cc in
    ap (λ (x : Mode). status.WrongMode x n) same ∙ ap (λ (x : Mode). status.WrongMode kept x) wanted

-- a store of the mode asked for is of no other
never_wrong : OneMode → (limits : Limits) (bytes : List ℕ) (asked : Option Mode) (m n : Mode) (read : Log × Found) → IsStoreRead limits bytes read → Agree read.1.mode asked
    → IsOfWrongMode limits bytes asked m n → ⊥
never_wrong one limits bytes asked m n read is agree w = w.differ.apart (agree m n (one limits bytes read w.read is w.is ∙ w.differ.kept_is) w.differ.asked_is)

-- a run that failed refuses nothing
pub failed_refuses : (limits : Limits) (disk : DiskState) (asked : Option Mode) (ended : Status) → ((why : Status) → EndsUnlessFailed ended why) → AlwaysRefuses limits disk asked ended
failed_refuses limits disk asked ended fails = record {
  bad = λ told place at. fails (status.BadStore place);
  wrong = λ told kept want w. fails (status.WrongMode kept want);
  unsound = λ told place u. fails (status.BadStore place);
}

pub no_memory : (why : Status) → EndsUnlessFailed status.NoMemory why
no_memory why = inr (inl refl)

pub store_fault : (why : Status) → EndsUnlessFailed status.StoreFault why
store_fault why = inr (inr refl)

pub unopened_refuses : BadNowhere → BadAtOnePlace → OneMode → (limits : Limits) (disk : DiskState) (asked : Option Mode) (fault : OpenFault) → SaysBad limits disk fault → SaysWrong limits disk asked fault
    → AlwaysRefuses limits disk asked (store_status (Err (open_halt fault)))
unopened_refuses nowhere place_one one limits disk asked opening.StoreFault bad wrong = failed_refuses limits disk asked status.StoreFault store_fault
unopened_refuses nowhere place_one one limits disk asked opening.NoMemory bad wrong = failed_refuses limits disk asked status.NoMemory no_memory
unopened_refuses nowhere place_one one limits disk asked (opening.BadStore p) bad wrong = record {
  bad = λ told place at. inl (ap status.BadStore (place_one limits disk.reads p place (bad told p refl) at));
  wrong = λ told kept want w. absurd (nowhere limits disk.reads w.read p w.is w.lawful (bad told p refl));
  unsound = λ told place u. absurd (nowhere limits disk.reads (u.stores.log, u.stores.found) p u.stores.read u.lawful (bad told p refl));
}
unopened_refuses nowhere place_one one limits disk asked (opening.WrongMode m n) bad wrong = record {
  bad = λ told place at. (let w = wrong told m n refl in absurd (nowhere limits disk.reads w.read place w.is w.lawful at));
  wrong = λ told kept want w. inl (one_wrong one limits disk.reads asked m n kept want (wrong told m n refl) w);
  unsound = λ told place u. absurd (never_wrong one limits disk.reads asked m n (u.stores.log, u.stores.found) u.stores.read u.agrees (wrong told m n refl));
}

-- ---- a store that was opened

-- what waits in an opened store isn't sound if it isn't by its bytes
unsound_opened : {D : Type 0} → SameOthers → OneLast → (limits : Limits) (asked : Option Mode) (bytes : List ℕ) (place : ℕ) (opened : Opened D) → IsOpenedOver limits bytes opened
    → BeginsLast limits bytes opened.last → IsUnsoundFor limits asked place bytes → WaitsUnsoundly limits opened place
unsound_opened others last limits asked bytes place opened read begins u =
    let rows = others limits bytes (u.stores.log, u.stores.found) (opened.store.log, found_of opened) u.stores.read read in
    let begin = last limits bytes u.stores.last opened.last u.stores.begins begins in
    record {
      is = u.stores.is ∙ ap (λ (l : Option ℕ). unwrap_or l 0) begin;
      unsound = subst (λ (rs : List StoreRow). OfState rs (λ state. ¬ AreSoundWaiting limits state rs)) rows u.stores.unsound;
    }

pub opened_refuses : {D : Type 0} (state : D → DiskState) → BadNowhere → OneMode → SameOthers → OneLast → (limits : Limits) (disk : DiskState) (asked : Option Mode) (opened : Opened D) (ended : Status)
    → (disk.told → IsOpenedOver limits disk.reads opened) → (disk.told → BeginsLast limits disk.reads opened.last) → opened.store.rows.lawful ≡ true → Agree opened.mode asked
    → (disk.told → (state opened.store.disk).told) → RefusesUnsound state limits opened ended → AlwaysRefuses limits disk asked ended
opened_refuses state nowhere one others last limits disk asked opened ended store begins lawful agree tells refuses = record {
  bad = λ told place at. absurd (nowhere limits disk.reads (opened.store.log, found_of opened) place (store told) lawful at);
  wrong = λ told kept want w. absurd (never_wrong one limits disk.reads asked kept want (opened.store.log, found_of opened) (store told) agree w);
  unsound = λ told place u. refuses (tells told) place (unsound_opened others last limits asked disk.reads place opened (store told) (begins told) u);
}

-- ---- a store of which no engine was made

not_sound : (limits : Limits) (rows : List StoreRow) → OfState rows (λ state. AreSoundWaiting limits state rows) → OfState rows (λ state. ¬ AreSoundWaiting limits state rows) → ⊥
not_sound limits rows sound unsound =
    let one : ◌≡◌ {A = Option StateRow} (Some sound.0) (Some unsound.0) = sym sound.1 ∙ unsound.1 in
    let same : sound.0 ≡ unsound.0 = cc in
    unsound.2 (subst (λ (state : StateRow). AreSoundWaiting limits state rows) same sound.2)

pub unrestored_refuses : {D : Type 0} (state : D → DiskState) (limits : Limits) (opened : Opened D) (back : Unrestored (OnDisk D)) (why : RestoreFault) → back.why ≡ why → IsBadWaiting limits opened back → IsPastInput limits opened back
    → IsHidden state opened.store back → RefusesUnsound state limits opened (store_status (Err (restore_halt why)))
unrestored_refuses state limits opened back (restore.BadStore p) is bad past hidden = λ told place waits. inl (ap status.BadStore ((bad p is).0 ∙ sym waits.is))
unrestored_refuses state limits opened back (restore.Full full) is bad past hidden = λ told place waits. absurd (not_sound limits opened.rows (past full is).2 waits.unsound)
unrestored_refuses state limits opened back restore.StoreFault is bad past hidden = λ told place waits. inr (inr refl)
unrestored_refuses state limits opened back (restore.BadRow p) is bad past hidden = λ told place waits. absurd (hidden p is told)
unrestored_refuses state limits opened back restore.NoMemory is bad past hidden = λ told place waits. inr (inl refl)

-- an engine is made only of a store in which what waits is sound
pub restored_refuses : {D : Type 0} (state : D → DiskState) (limits : Limits) (opened : Opened D) (ended : Status) → ((state : StateRow) → state_of opened.rows ≡ Some state → AreSoundWaiting limits state opened.rows)
    → RefusesUnsound state limits opened ended
restored_refuses state limits opened ended sound told place waits = absurd (waits.unsound.2 (sound waits.unsound.0 waits.unsound.1))

-- ---- a store without a batch

-- no rows were found in it
no_rows : {D : Type 0} (limits : Limits) (opened : Opened D) → WasFound limits opened → opened.mode ≡ None → opened.rows ≡ []
no_rows limits opened found none =
    let is = found.1 in
    let empty = (subst (IsOfMode (bounds_of limits) is.batches found.0) none is.mode).0 in
    is.others ∙ ap (λ (bs : List (List StoreRow)). table_rows bs ++ closing_rows bs) empty

-- nothing waits in it
pub nothing_unsound : {D : Type 0} (state : D → DiskState) (limits : Limits) (opened : Opened D) (ended : Status) → WasFound limits opened → opened.mode ≡ None → RefusesUnsound state limits opened ended
nothing_unsound state limits opened ended found none told place waits =
    let rows = no_rows limits opened found none in
    let bad : ◌≡◌ {A = Option StateRow} None (Some waits.unsound.0) = sym (ap state_of rows) ∙ waits.unsound.1 in
    absurd (cc)

lawful_nothing : (limits : Limits) (bytes : List ℕ) (read : Log × Found) → IsStoreRead limits bytes read → read.1.mode ≡ None → read.1.rows.lawful ≡ true
lawful_nothing limits bytes read is none =
    let found = is.2 in
    let empty = (subst (IsOfMode (bounds_of limits) found.batches is.0) none found.mode).0 in
    found.lawful.1 (subst (λ (bs : List (List StoreRow)). AreApart (rows_of (all_of bs))) (sym empty) (λ i j d low h. absurd (omega (arith, h))))

pub unopened_no_batch : BadNowhere → (limits : Limits) (disk : DiskState) (fault : OpenFault) → SaysBad limits disk fault → SaysWrong limits disk None fault
    → RefusesNoBatch limits disk (store_status (Err (open_halt fault)))
unopened_no_batch nowhere limits disk opening.StoreFault bad wrong = λ told place none. store_fault (status.BadStore place)
unopened_no_batch nowhere limits disk opening.NoMemory bad wrong = λ told place none. no_memory (status.BadStore place)
unopened_no_batch nowhere limits disk (opening.BadStore p) bad wrong = λ told place none.
    absurd (nowhere limits disk.reads (none.log, none.found) p none.read (lawful_nothing limits disk.reads (none.log, none.found) none.read none.none) (bad told p refl))
unopened_no_batch nowhere limits disk (opening.WrongMode m n) bad wrong = λ told place none.
    let asked : ◌≡◌ {A = Option Mode} None (Some n) = (wrong told m n refl).differ.asked_is in
    absurd (cc)

pub opened_no_batch : {D : Type 0} → OneMode → (limits : Limits) (disk : DiskState) (opened : Opened D) (r : Result Unit StoreHalt) → (disk.told → IsOpenedOver limits disk.reads opened)
    → (opened.mode ≡ None → r ≡ Err (over.BadStore 0)) → RefusesNoBatch limits disk (store_status r)
opened_no_batch one limits disk opened r store refuses = λ told place none.
    let mode = one limits disk.reads (opened.store.log, found_of opened) (none.log, none.found) (store told) none.read in
    inl (ap store_status (refuses (mode ∙ none.none)) ∙ ap status.BadStore (sym none.is))
