-- Runs over a store, from the opening of its disk on.
use Rattle.std.proofs.Common.{◌+◌, Bool, true, false, drop, length, ◌≤◌, ◌<◌, ◌≡◌, ℕ, List, [], refl, ap, sym, subst, arith, ◌∙◌, Option, Some, None, inl, inr, ⊎_elim}
use Rattle.std.specs.Prelude.{◌⊎◌, ⊤, Result, Ok, Err, IfErr, IsErrOf, OnErr, OnOk}
use Rattle.std.proofs.lemmas.List.{append-nil}
use Rattle.ingest.specs.Counting.{bytes_in}
use Rattle.flow_base.specs.declared.limits.Full.{Full}
use Rattle.flow_base.specs.declared.limits.Limits.{Limits}
use Rattle.name_text.specs.Addresses.{text_of}
use Rattle.outside.specs.Cause.{Rose}
use Rattle.outside.specs.Disk.{DiskState, IsDisk, IsDurable, LeavesOnly, OnlyLooks, Settles, UsesDisk}
use Rattle.outside.specs.Looking.{looks_at_none, looks_in_a_row, no_look}
use Rattle.outside.proofs.Moments.{leaves_by_looking, leaves_more, uses_in_a_row}
use Rattle.audit_lex.specs.History.{History}
use Rattle.batch_log.specs.Log.{Log, log_of}
use Rattle.reach_model.specs.declared.modes.Mode.{Mode}
use Rattle.reduced_store.specs.OnDisk.{OnDisk, SameBut, stores_go_along}
use Rattle.reduced_store.specs.Opening.{BeginsLast, IsBadAt, IsStoreRead}
use Rattle.reduced_store.specs.Stores.{IsOpenedOver, found_of}
use Rattle.reduced_store.specs.Storing.{WasStored}
use Rattle.reduced_store.specs.declared.opened.Opened.{Opened}
use Rattle.reduced_store.specs.declared.opened.OpenFault.{OpenFault}
use Rattle.reduced_store.specs.declared.opened.OpenFault.TheVariants as opening
use Rattle.reduced_store.specs.declared.reading.Found.{Found}
use Rattle.row_codec.specs.declared.state.StateRow.{StateRow}
use Rattle.row_codec.specs.declared.rows.StoreRow.{StoreRow}
use Rattle.store_check.specs.Conditions.{bounds_of}
use Rattle.stored.specs.Bytes.{IsStoreOf}
use Rattle.stored.specs.Moment.{Moment as Stood, nothing, state_at}
use Rattle.stored.specs.Stored.{ClosesAt}
use Rattle.stored.specs.Words.{state_of}
use Rattle.ingest.specs.Asking.{StandsStill}
use Rattle.ingest.specs.Parts.{Engine}
use Rattle.ingest.specs.Restoring.{IsHidden, IsPastInput, StandsForStored}
use Rattle.ingest.specs.Stops.{Stops}
use Rattle.ingest.specs.Soundness.{WaitsSoundly}
use Rattle.ingest.specs.Storing.{StoresHistory, moment_of}
use Rattle.ingest.specs.declared.restoring.RestoreFault.{RestoreFault}
use Rattle.ingest.specs.declared.restoring.RestoreFault.TheVariants as restore
use Rattle.ingest.specs.declared.restoring.Unrestored.{Unrestored}
use Rattle.dialogue.specs.declared.halt.Halt.{Halt}
use Rattle.dialogue.specs.declared.halt.Halt.TheVariants as halt
use Rattle.dialogue.specs.declared.halt.StoreHalt.{StoreHalt}
use Rattle.dialogue.specs.declared.halt.StoreHalt.TheVariants as over
use Rattle.dialogue.specs.Dialogue.{Moment, QuestionsStop, asks, lines_in}
use Rattle.dialogue.specs.Course.{EndTalked, HasCauses, IsDue, kind_of, never}
use Rattle.dialogue.specs.Listening.{AreHeardOut}
use Rattle.dialogue.specs.Saves.{Begun, CutShort, IsAllPutAway, IsCutShort, IsOf, IsPutAway, IsReached, PassesStore, Start, since}
use Rattle.dialogue.specs.StoreHalts.{HasStoreCauses, IsRunDue, NamesNoBatch, no_modes, no_place, open_halt, over_run, restore_halt}
use Rattle.store_runs.specs.Stores.{AnswerCourse, FitsDialogue, FitsWhole, HasBegun, HasNoBatch, IsBadIn, IsDoneOrNoMemory, IsOpenAt, IsQueried, IsReduceRun, IsRefusal, IsReopened, IsShort, IsWatchRun, IsWrongIn, PassesIn, Reduces, RefusesAStore, StoodAt, StoresNothing, StoresUnsoundly, WaitsUnsoundly, Watches, querying}
use Rattle.dialogue.specs.Runs.{HasTaken, MayBeUnopened, MayLeave, WroteFront, WroteStat, begun_of, first_of, settled_all, steps_of, whole_of}
use Rattle.store_runs.specs.Statuses.{RefusesStore, status_for, store_status}
use Rattle.dialogue.proofs.TalkLemmas.{appends_none, nothing_said, other_halt}
use Rattle.dialogue.proofs.SaveLemmas.{counted_whole, cut_leaves, cut_passes, is_of_begun, settled_whole, since_begun, since_whole}
use Rattle.dialogue.proofs.StoreLemmas.{StaysSaved, front_none, leaves_looked, synced_before, synced_by_looking, uses_blamed}

-- ---- what is found in an opened store

-- what is found was stored
abbrev pub Was : Type 0
Was = (text : List ℕ → List ℕ) (limits : Limits) (mode : Mode) (bytes : List ℕ) (m : Stood) (log : Log) (found : Found) → IsStoreRead limits bytes (log, found)
    → IsStoreOf text limits.names limits.payload (bounds_of limits) mode bytes m → WasStored text limits.names mode found m

was_stored : {D : Type 0} (state : D → DiskState) (limits : Limits) (mode : Mode) (opened : Opened D) (h : History) (part : ℕ) → Was → IsOpenAt state limits mode opened h part
    → WasStored text_of limits.names mode (found_of opened) (moment_of limits h part)
was_stored state limits mode opened h part law x =
    law text_of limits mode (state opened.store.disk).reads (moment_of limits h part) opened.store.log (found_of opened) x.open_on.read x.stores.store

-- what is found closes at the moment, or there is nothing
abbrev pub Ends : Option Mode → Mode → List StoreRow → Stood → Type 0
Ends found mode others m = ((found ≡ None) × (others ≡ []) × (m ≡ nothing)) ⊎ ((found ≡ Some mode) × ClosesAt m others)

mode_of_ends : (found : Option Mode) (a b : Mode) (others : List StoreRow) (m : Stood) → found ≡ Some a → Ends found b others m → b ≡ a
mode_of_ends found a b others m is (inl none) = let no = none.0 in absurd (cc)
mode_of_ends found a b others m is (inr some) = let yes = some.0 in cc

-- the mode of the rows is that of the history
pub kept_mode : {D : Type 0} (state : D → DiskState) (limits : Limits) (kept mode : Mode) (opened : Opened D) (h : History) (part : ℕ) → Was → opened.mode ≡ Some mode → IsOpenAt state limits kept opened h part → kept ≡ mode
kept_mode state limits kept mode opened h part law is x = mode_of_ends opened.mode mode kept opened.rows (moment_of limits h part) is (was_stored state limits kept opened h part law x).ends

state_of_ends : (found : Option Mode) (mode : Mode) (others : List StoreRow) (m : Stood) (state : StateRow) → state_of others ≡ Some state
    → Ends found mode others m → state ≡ state_at m
state_of_ends found mode others m state said (inl none) =
    let bad : ◌≡◌ {A = Option StateRow} None (Some state) = sym (ap state_of none.1) ∙ said in
    absurd (cc)
state_of_ends found mode others m state said (inr some) =
    let one : ◌≡◌ {A = Option StateRow} (Some state) (Some (state_at m)) = sym said ∙ some.1.state in
    cc

-- a store of a history has taken no more bytes than the limit says
pub not_past : {D K : Type 0} (state : D → DiskState) (limits : Limits) (mode : Mode) (opened : Opened D) (h : History) (part : ℕ) (back : Unrestored K) (full : Full) → Was → IsOpenAt state limits mode opened h part
    → IsPastInput limits opened back → back.why ≡ restore.Full full → ⊥
not_past state limits mode opened h part back full law x past is =
    let found = (past full is).1 in
    let same = state_of_ends opened.mode mode opened.rows (moment_of limits h part) found.0 found.1 (was_stored state limits mode opened h part law x).ends in
    let taken = ap (λ (s : StateRow). s.taken) same in
    let over = found.2 in
    let fits = x.stores.fits.input in
    omega (arith, taken, over, fits)

-- ---- a store that was opened

not_blamed : (P : Type 0) → ⊥ ⊎ P → P
not_blamed P (inl none) = absurd none
not_blamed P (inr p) = p

-- a disk that had a history has it open
pub open_at : {D : Type 0} (state : D → DiskState) (limits : Limits) (mode : Mode) (disk : D) (opened : Opened D) (h : History) (part : ℕ) → StoodAt state limits mode disk h part
    → ((state disk).told → IsOpenedOver limits (state disk).reads opened) → ((state disk).told → ⊥ ⊎ IsDurable (state opened.store.disk)) → OnlyLooks (state disk) (state opened.store.disk)
    → opened.store.saved ≡ opened.store.rows.rows → opened.store.log ≡ log_of limits opened.store.log.last → IsOpenAt state limits mode opened h part
open_at state limits mode disk opened h part stood store durable looks saved log = record {
  open_on = record {
    told = looks.tells stood.told;
    read = subst (λ (bytes : List ℕ). IsStoreRead limits bytes (opened.store.log, found_of opened)) (sym (looks.same stood.told)) (store stood.told);
    durable = not_blamed (IsDurable (state opened.store.disk)) (durable stood.told);
    saved = saved;
    most = ap (λ (l : Log). l.most) log;
    end = ap (λ (l : Log). l.end) log;
  };
  stores = subst (λ (bytes : List ℕ). StoresHistory limits mode bytes h part) (sym (looks.same stood.told)) stood.stores;
}

-- each image of it is a store of the history
pub open_images : {D : Type 0} (state : D → DiskState) (limits : Limits) (mode : Mode) (opened : Opened D) (h : History) (part : ℕ) → IsOpenAt state limits mode opened h part
    → (bytes : List ℕ) → (state opened.store.disk).image bytes → StoresHistory limits mode bytes h part
open_images state limits mode opened h part x bytes left = subst (λ (bs : List ℕ). StoresHistory limits mode bs h part) (sym (x.open_on.durable bytes left)) x.stores

-- ---- looks at a disk

-- a disk by another name
pub looks_same : {D : Type 0} (state : D → DiskState) (a b : D) → b ≡ a → OnlyLooks (state a) (state b)
looks_same {D} state a b same = subst (λ (d : D). OnlyLooks (state a) (state d)) (sym same) (no_look (state a))

-- a look, at a disk that then has another name
pub looks_as : {D : Type 0} (state : D → DiskState) (a b c : D) → c ≡ b → OnlyLooks (state a) (state b) → OnlyLooks (state a) (state c)
looks_as {D} state a b c same looks = subst (λ (d : D). OnlyLooks (state a) (state d)) (sym same) looks

-- a look leaves what a crash would have left
leaves_by_look : (a b : DiskState) (P : List ℕ → Type 0) → IsDisk a → OnlyLooks a b → ((bytes : List ℕ) → a.image bytes → P bytes) → LeavesOnly a b P
leaves_by_look a b P disk looks images = leaves_more a b a.image P (leaves_by_looking a b disk looks) images

-- what a run leaves that began with a look
may_leave_looked : (outcome : Result Unit StoreHalt) (a b c : DiskState) (P : List ℕ → Type 0) → IsDisk a → OnlyLooks a b → MayLeave outcome b c P → MayLeave outcome a c P
may_leave_looked outcome a b c P disk looks (inl unopened) = inl (unopened.0, looks_in_a_row a b c looks unopened.1)
may_leave_looked outcome a b c P disk looks (inr once) = inr (record {
  synced = once.synced;
  after = (let early = looks.later in let late = once.after in omega (arith, early, late));
  by_now = once.by_now;
  since = once.since;
  ever = leaves_looked a b c (λ bytes. a.image bytes ⊎ P bytes) disk looks (λ bytes image. inl image)
      (leaves_more b c (λ bytes. b.image bytes ⊎ P bytes) (λ bytes. a.image bytes ⊎ P bytes) once.ever (λ bytes x. ⊎_elim (λ image. inl (looks.image bytes image)) (λ p. inr p) x));
})

-- ---- the engine of a store that was opened

pub reopened : {D : Type 0} {faults : D → ℕ} {spent : D → Type 0} (state : D → DiskState) (limits : Limits) (mode : Mode) (opened : Opened D) (engine : Engine (OnDisk D)) (h : History) (before : ℕ)
    → StandsForStored state limits mode opened engine → SameBut state faults spent opened.store engine.joined.keep → IsOpenAt state limits mode opened h before → IsReopened state mode limits engine h before
reopened state limits mode opened engine h before stored alike x =
    let both = stored h before x.open_on x.stores in
    record {
      stands = both.0;
      saved = both.1;
      told = alike.disk.looks.tells x.open_on.told;
      images = λ bs left. open_images state limits mode opened h before x bs (alike.disk.looks.image bs left);
    }

-- ---- the begin of a run

-- the engine of a reopened store, with so many bytes in its part of a log, has put away what it stands for
pub reopened_away : {D : Type 0} {faults : D → ℕ} {spent : D → Type 0} (state : D → DiskState) (limits : Limits) (m : Moment) (engine engine2 : Engine (OnDisk D)) (before part : ℕ) → StaysSaved state faults spent → ((d : D) → IsDisk (state d))
    → SameBut state faults spent engine.joined.keep engine2.joined.keep → engine2.joined.tables.marked ≡ engine.joined.tables.marked → engine2.part ≡ part → part ≤ bytes_in m.history → IsReopened state m.mode limits engine m.history before
    → IsPutAway state (record { begun = record { history = m.history; before = before; part = part; log = m.log }; rows = engine.joined.keep }) limits engine2 m
reopened_away state limits m engine engine2 before part stays lawful same marked counted within x =
    let begun : Begun = record { history = m.history; before = before; part = part; log = m.log } in
    let along : IsOf begun m = is_of_begun begun m refl refl in
    let none : since begun m ≡ [] = since_begun begun m refl in
    let few : bytes_in (since begun m) ≡ 0 = ap bytes_in none in
    record {
      moment = along;
      has_part = record { counted = omega (arith, counted, few); within = omega (arith, within, few) };
      told = same.disk.looks.tells x.told;
      first = m.history;
      more = [];
      saved_part = before;
      parts = sym (append-nil m.history);
      saved = stays limits m.mode m.history before engine engine2 x.told same marked x.saved;
      reached = λ bytes stores. inl stores;
      leaves = leaves_by_look (state engine.joined.keep.disk) (state engine2.joined.keep.disk) (IsReached limits m.mode begun (since begun m)) (lawful engine.joined.keep.disk) same.disk.looks (λ bytes left. inl (x.images bytes left));
    }

-- at a new part of a log
pub at_new_part : {D : Type 0} {faults : D → ℕ} {spent : D → Type 0} (state : D → DiskState) (limits : Limits) (mode : Mode) (engine engine2 : Engine (OnDisk D)) (log : Option (List ℕ)) (h : History) (before : ℕ) (bytes : List ℕ)
    → StaysSaved state faults spent → ((d : D) → IsDisk (state d)) → engine2 ≡ record engine { part = 0 } → StandsStill engine engine2 → IsReopened state mode limits engine h before → log ≡ Some bytes
    → HasBegun state mode limits engine engine2 log (begun_of false h before bytes)
at_new_part {D} {faults} {spent} state limits mode engine engine2 log h before bytes stays lawful is still x told =
    let keep : engine2.joined.keep ≡ engine.joined.keep = ap (λ (e : Engine (OnDisk D)). e.joined.keep) is in
    record {
      at = record {
        in_mode = refl;
        may_take = refl;
        stands_at = record { stands = still.stands limits h x.stands.stands; told = told };
        holds = reopened_away state limits (first_of mode (begun_of false h before bytes)) engine engine2 before 0 stays lawful
            (subst (λ (k : OnDisk D). SameBut state faults spent engine.joined.keep k) (sym keep) (stores_go_along.same engine.joined.keep)) (ap (λ (e : Engine (OnDisk D)). e.joined.tables.marked) is)
            (ap (λ (e : Engine (OnDisk D)). e.part) is) (omega arith) x;
      };
    }

-- behind the bytes that were taken of a log before
at_same_part : {D : Type 0} {faults : D → ℕ} {spent : D → Type 0} (state : D → DiskState) (limits : Limits) (mode : Mode) (engine : Engine (OnDisk D)) (log : Option (List ℕ)) (h : History) (before : ℕ) (bytes : List ℕ)
    → StaysSaved state faults spent → ((d : D) → IsDisk (state d)) → IsReopened state mode limits engine h before → log ≡ Some (drop before bytes) → HasBegun state mode limits engine engine log (begun_of true h before bytes)
at_same_part state limits mode engine log h before bytes stays lawful x told = record {
  at = record {
    in_mode = refl;
    may_take = refl;
    stands_at = record { stands = x.stands.stands; told = told };
    holds = reopened_away state limits (first_of mode (begun_of true h before bytes)) engine engine before before stays lawful (stores_go_along.same engine.joined.keep) refl
        x.stands.has_part.counted x.stands.has_part.within x;
  };
}

-- where a run goes on in a log
pub begun_on : {D : Type 0} {faults : D → ℕ} {spent : D → Type 0} (state : D → DiskState) (limits : Limits) (mode : Mode) (engine : Engine (OnDisk D)) (left : Option (List ℕ)) (h : History) (before : ℕ) (bytes : List ℕ) (resume : Bool) (taken : ℕ) (r : Result Unit StoreHalt)
    → StaysSaved state faults spent → ((d : D) → IsDisk (state d)) → resume ≡ true → taken ≡ engine.part → IsReopened state mode limits engine h before → OnOk r (left ≡ Some (drop taken bytes))
    → OnOk r (HasBegun state mode limits engine engine left (begun_of resume h before bytes))
begun_on state limits mode engine left h before bytes resume taken (Err why) stays lawful resumes is x passed = tt
begun_on state limits mode engine left h before bytes resume taken (Ok t) stays lawful resumes is x passed =
    let same : taken ≡ before = is ∙ x.stands.has_part.counted in
    rw resumes (at_same_part state limits mode engine left h before bytes stays lawful x (passed ∙ ap (λ (n : ℕ). Some (drop n bytes)) same))

pub enough_on : {D : Type 0} (state : D → DiskState) (limits : Limits) (mode : Mode) (engine : Engine (OnDisk D)) (h : History) (before : ℕ) (bytes : List ℕ) (resume : Bool) (taken : ℕ) (r : Result Unit StoreHalt)
    → resume ≡ true → taken ≡ engine.part → IsReopened state mode limits engine h before → OnOk r (taken ≤ length bytes) → OnOk r (HasTaken resume before bytes)
enough_on state limits mode engine h before bytes resume taken (Err why) resumes is x enough = tt
enough_on state limits mode engine h before bytes resume taken (Ok t) resumes is x enough =
    let same : taken ≡ before = is ∙ x.stands.has_part.counted in
    rw resumes (subst (λ (n : ℕ). n ≤ length bytes) same enough)

pub short_on : {D : Type 0} (state : D → DiskState) (limits : Limits) (mode : Mode) (engine : Engine (OnDisk D)) (h : History) (before : ℕ) (bytes : List ℕ) (resume : Bool) (taken all had : ℕ)
    → resume ≡ true → taken ≡ engine.part → IsReopened state mode limits engine h before → (all ≡ taken) × (had ≡ length bytes) × (had < taken) → IsShort resume before bytes all had
short_on state limits mode engine h before bytes resume taken all had resumes is x short = record {
  resumes = resumes;
  all = short.0 ∙ is ∙ x.stands.has_part.counted;
  some = short.1;
  short = subst (λ (n : ℕ). had < n) (sym short.0) short.2;
}

-- ---- `reduce`

due_never : (passes : Full → Type 0) (why : StoreHalt) → IsRunDue never why → IsRunDue passes why
due_never passes (over.Run halt.NoMemory) due = tt
due_never passes (over.Run halt.ReadFault) due = tt
due_never passes (over.Run halt.WriteFault) due = tt
due_never passes (over.Run halt.StoreFault) due = tt
due_never passes (over.Run (halt.Full full)) due = absurd due
due_never passes (over.Run (halt.BadRow place)) due = due
due_never passes (over.Run (halt.Unwritten full)) due = tt
due_never passes (over.BadStore place) due = tt
due_never passes (over.WrongMode kept asked) due = tt
due_never passes (over.ShortLog taken had) due = tt

passes_none : (limits : Limits) (mode : Mode) (begun : Begun) (steps : History) (why : StoreHalt) → NamesNoBatch why → PassesIn limits mode begun steps why
passes_none limits mode begun steps (over.Run halt.NoMemory) none = tt
passes_none limits mode begun steps (over.Run halt.ReadFault) none = tt
passes_none limits mode begun steps (over.Run halt.WriteFault) none = tt
passes_none limits mode begun steps (over.Run halt.StoreFault) none = tt
passes_none limits mode begun steps (over.Run (halt.BadRow place)) none = tt
passes_none limits mode begun steps (over.Run (halt.Full full)) none = tt
passes_none limits mode begun steps (over.Run (halt.Unwritten full)) none = absurd (none full refl)
passes_none limits mode begun steps (over.BadStore place) none = tt
passes_none limits mode begun steps (over.WrongMode kept asked) none = tt
passes_none limits mode begun steps (over.ShortLog taken had) none = tt

-- a run that ended before it took a byte
pub reduced_none : (resume : Bool) (limits : Limits) (mode : Mode) (disk after : DiskState) (left old : Option (List ℕ)) (why : StoreHalt) (h : History) (before : ℕ) (bytes : List ℕ)
    → NamesNoBatch why → IsRunDue (Stops limits (whole_of (begun_of resume h before bytes))) why
    → MayLeave (Err why) disk after (IsReached limits mode (begun_of resume h before bytes) (steps_of (begun_of resume h before bytes)))
    → ((taken had : ℕ) → ◌≡◌ {A = Result Unit StoreHalt} (Err why) (Err (over.ShortLog taken had)) → IsShort resume before bytes taken had)
    → Reduces resume limits mode disk after left old old (Err why) h before bytes
reduced_none resume limits mode disk after left old why h before bytes none due leaves short = record {
  reduced = tt;
  leaves = leaves;
  front = front_none limits mode (whole_of (begun_of resume h before bytes)) old;
  due = due;
  passes = passes_none limits mode (begun_of resume h before bytes) (steps_of (begun_of resume h before bytes)) why none;
  enough = tt;
  short = short;
}

-- a halt of a run, and the limit that it names
passes_run : (limits : Limits) (mode : Mode) (begun : Begun) (steps : History) (why : Halt) → ((full : Full) → why ≡ halt.Unwritten full → PassesStore limits mode begun steps full) → PassesIn limits mode begun steps (over.Run why)
passes_run limits mode begun steps halt.NoMemory passes = tt
passes_run limits mode begun steps halt.ReadFault passes = tt
passes_run limits mode begun steps halt.WriteFault passes = tt
passes_run limits mode begun steps halt.StoreFault passes = tt
passes_run limits mode begun steps (halt.BadRow place) passes = tt
passes_run limits mode begun steps (halt.Full full) passes = tt
passes_run limits mode begun steps (halt.Unwritten full) passes = passes full refl

-- a run that took the log from its begin on
pub reduces_by : {D : Type 0} (resume : Bool) (state : D → DiskState) (start : Start (OnDisk D)) (limits : Limits) (mode : Mode) (rows : OnDisk D) (left old new : Option (List ℕ)) (r : Result Unit Halt) (h : History) (before : ℕ) (bytes : List ℕ)
    → start.begun ≡ begun_of resume h before bytes
    → OnOk r (IsAllPutAway state start limits rows (settled_all (first_of mode (begun_of resume h before bytes))))
    → LeavesOnly (state start.rows.disk) (state rows.disk) (IsReached limits mode start.begun (since start.begun (settled_all (first_of mode (begun_of resume h before bytes)))))
    → ((full : Full) → r ≡ Err (halt.Unwritten full) → PassesStore limits mode start.begun (since start.begun (settled_all (first_of mode (begun_of resume h before bytes)))) full)
    → OnOk r (left ≡ Some []) → OnOk r (WroteStat limits mode (settled_all (first_of mode (begun_of resume h before bytes))).history old new)
    → OnErr r (WroteFront limits mode (settled_all (first_of mode (begun_of resume h before bytes))).history old new)
    → IfErr r (IsDue (Stops limits (settled_all (first_of mode (begun_of resume h before bytes))).history)) → HasTaken resume before bytes
    → Reduces resume limits mode (state start.rows.disk) (state rows.disk) left old new (over_run r) h before bytes
reduces_by resume state start limits mode rows left old new (Ok t) h before bytes same stored leaves passes whole wrote front due enough =
    let begun = begun_of resume h before bytes in
    let steps = since_whole mode begun in
    let history = settled_whole mode begun in
    let counted : start.begun.part + bytes_in (since start.begun (settled_all (first_of mode begun))) ≡ begun.part + length begun.log =
    ap (λ (b : Begun). b.part + bytes_in (since b (settled_all (first_of mode begun)))) same ∙ ap (λ (s : History). begun.part + bytes_in s) steps ∙ ap (λ (n : ℕ). begun.part + n) (counted_whole begun) in
    record {
      reduced = record {
        stores = subst (λ (p : ℕ). StoresHistory limits mode (state rows.disk).reads (whole_of begun) p) counted
            (subst (λ (g : History). StoresHistory limits mode (state rows.disk).reads g (start.begun.part + bytes_in (since start.begun (settled_all (first_of mode begun))))) history stored.stores);
        durable = stored.durable;
        whole = whole;
        wrote = subst (λ (g : History). WroteStat limits mode g old new) history wrote;
      };
      leaves = synced_before (Ok t) (state start.rows.disk) (state rows.disk) (IsReached limits mode begun (steps_of begun))
          (subst (λ (s : History). LeavesOnly (state start.rows.disk) (state rows.disk) (IsReached limits mode begun s)) steps
          (subst (λ (b : Begun). LeavesOnly (state start.rows.disk) (state rows.disk) (IsReached limits mode b (since b (settled_all (first_of mode begun))))) same leaves));
      front = tt;
      due = tt;
      passes = tt;
      enough = enough;
      short = λ taken had is. absurd (let no = is in cc);
    }
reduces_by resume state start limits mode rows left old new (Err why) h before bytes same stored leaves passes whole wrote front due enough =
    let begun = begun_of resume h before bytes in
    let steps = since_whole mode begun in
    let history = settled_whole mode begun in
    record {
      reduced = tt;
      leaves = synced_before (Err (over.Run why)) (state start.rows.disk) (state rows.disk) (IsReached limits mode begun (steps_of begun))
          (subst (λ (s : History). LeavesOnly (state start.rows.disk) (state rows.disk) (IsReached limits mode begun s)) steps
          (subst (λ (b : Begun). LeavesOnly (state start.rows.disk) (state rows.disk) (IsReached limits mode b (since b (settled_all (first_of mode begun))))) same leaves));
      front = subst (λ (g : History). WroteFront limits mode g old new) history front;
      due = subst (λ (g : History). IsDue (Stops limits g) why) history due;
      passes = passes_run limits mode begun (steps_of begun) why (λ full is. subst (λ (s : History). PassesStore limits mode begun s full) steps
          (subst (λ (b : Begun). PassesStore limits mode b (since b (settled_all (first_of mode begun))) full) same (passes full (ap Err is))));
      enough = tt;
      short = λ taken had is. absurd (let no = is in cc);
    }

-- the engine's disk is only looked at, and a crash leaves what the engine stands for
pub still_reached : {D : Type 0} (state : D → DiskState) (limits : Limits) (mode : Mode) (engine : Engine (OnDisk D)) (disk : D) (resume : Bool) (outcome : Result Unit StoreHalt) (h : History) (before : ℕ) (bytes : List ℕ) (steps : History) → ((d : D) → IsDisk (state d))
    → OnlyLooks (state engine.joined.keep.disk) (state disk) → IsReopened state mode limits engine h before → MayLeave outcome (state engine.joined.keep.disk) (state disk) (IsReached limits mode (begun_of resume h before bytes) steps)
still_reached state limits mode engine disk resume outcome h before bytes steps lawful looks x =
    synced_before outcome (state engine.joined.keep.disk) (state disk) (IsReached limits mode (begun_of resume h before bytes) steps)
    (leaves_by_look (state engine.joined.keep.disk) (state disk) (IsReached limits mode (begun_of resume h before bytes) steps) (lawful engine.joined.keep.disk) looks (λ bs image. inl (x.images bs image)))

-- the same over the engine of a reopened store
pub failed_run : {D : Type 0} (resume : Bool) (state : D → DiskState) (limits : Limits) (mode : Mode) (engine : Engine (OnDisk D)) (disk : D) (log left old : Option (List ℕ)) (why : StoreHalt) → ((d : D) → IsDisk (state d))
    → OnlyLooks (state engine.joined.keep.disk) (state disk) → NamesNoBatch why → IsRunDue never why
    → ((h : History) (before : ℕ) (bytes : List ℕ) → IsReopened state mode limits engine h before → log ≡ Some bytes → (taken had : ℕ) → ◌≡◌ {A = Result Unit StoreHalt} (Err why) (Err (over.ShortLog taken had)) → IsShort resume before bytes taken had)
    → IsReduceRun resume (IsReopened state mode limits engine) limits mode (state engine.joined.keep.disk) (state disk) log left old old (Err why)
failed_run resume state limits mode engine disk log left old why lawful looks none due short = λ h before bytes x told.
    reduced_none resume limits mode (state engine.joined.keep.disk) (state disk) left old why h before bytes none (due_never (Stops limits (whole_of (begun_of resume h before bytes))) why due)
    (still_reached state limits mode engine disk resume (Err why) h before bytes (steps_of (begun_of resume h before bytes)) lawful looks x) (short h before bytes x told)

-- a refusal of a store says nothing of a log
restore_long : (why : RestoreFault) (taken had : ℕ) → ◌≡◌ {A = Result Unit StoreHalt} (Err (restore_halt why)) (Err (over.ShortLog taken had)) → ⊥
restore_long (restore.BadStore place) taken had is = cc
restore_long restore.StoreFault taken had is = cc
restore_long (restore.BadRow place) taken had is = cc
restore_long restore.NoMemory taken had is = cc
restore_long (restore.Full full) taken had is = cc

open_long : (fault : OpenFault) (taken had : ℕ) → ◌≡◌ {A = Result Unit StoreHalt} (Err (open_halt fault)) (Err (over.ShortLog taken had)) → ⊥
open_long opening.StoreFault taken had is = cc
open_long (opening.BadStore place) taken had is = cc
open_long (opening.WrongMode kept asked) taken had is = cc
open_long opening.NoMemory taken had is = cc

-- nor of a limit on a batch
restore_names : (why : RestoreFault) → NamesNoBatch (restore_halt why)
restore_names (restore.BadStore place) full is = cc
restore_names restore.StoreFault full is = cc
restore_names (restore.BadRow place) full is = cc
restore_names restore.NoMemory full is = cc
restore_names (restore.Full other) full is = cc

open_names : (fault : OpenFault) → NamesNoBatch (open_halt fault)
open_names opening.StoreFault full is = cc
open_names (opening.BadStore place) full is = cc
open_names (opening.WrongMode kept asked) full is = cc
open_names opening.NoMemory full is = cc

memory_names : NamesNoBatch (over.Run halt.NoMemory)
memory_names full is = cc

memory_long : (taken had : ℕ) → ◌≡◌ {A = Result Unit StoreHalt} (Err (over.Run halt.NoMemory)) (Err (over.ShortLog taken had)) → ⊥
memory_long taken had is = cc

-- a store of which no engine was made
restore_due : {D : Type 0} (state : D → DiskState) (limits : Limits) (mode : Mode) (opened : Opened D) (h : History) (part : ℕ) (back : Unrestored (OnDisk D)) (passes : Full → Type 0) → Was → IsOpenAt state limits mode opened h part
    → IsPastInput limits opened back → IsHidden state opened.store back → (why : RestoreFault) → back.why ≡ why → IsRunDue passes (restore_halt why)
restore_due state limits mode opened h part back passes law x past hidden (restore.BadStore place) is = tt
restore_due state limits mode opened h part back passes law x past hidden restore.StoreFault is = tt
restore_due state limits mode opened h part back passes law x past hidden (restore.BadRow place) is = absurd (hidden place is x.open_on.told)
restore_due state limits mode opened h part back passes law x past hidden restore.NoMemory is = tt
restore_due state limits mode opened h part back passes law x past hidden (restore.Full full) is = absurd (not_past state limits mode opened h part back full law x past is)

pub refused_run : {D : Type 0} (resume : Bool) (state : D → DiskState) (limits : Limits) (mode : Mode) (opened : Opened D) (back : Unrestored (OnDisk D)) (disk : D) (log old : Option (List ℕ)) (outcome : StoreHalt) → Was
    → ((d : D) → IsDisk (state d)) → OnlyLooks (state opened.store.disk) (state disk) → IsPastInput limits opened back → IsHidden state opened.store back → outcome ≡ restore_halt back.why
    → IsReduceRun resume (IsOpenAt state limits mode opened) limits mode (state opened.store.disk) (state disk) log log old old (Err outcome)
refused_run resume state limits mode opened back disk log old outcome law lawful looks past hidden is = λ h before bytes x told.
    rw is (reduced_none resume limits mode (state opened.store.disk) (state disk) log old (restore_halt back.why) h before bytes (restore_names back.why)
    (restore_due state limits mode opened h before back (Stops limits (whole_of (begun_of resume h before bytes))) law x past hidden back.why refl)
    (synced_before (Err (restore_halt back.why)) (state opened.store.disk) (state disk) (IsReached limits mode (begun_of resume h before bytes) (steps_of (begun_of resume h before bytes)))
    (leaves_by_look (state opened.store.disk) (state disk) (IsReached limits mode (begun_of resume h before bytes) (steps_of (begun_of resume h before bytes))) (lawful opened.store.disk) looks
    (λ bs left. inl (open_images state limits mode opened h before x bs left))))
    (λ taken had short. absurd (restore_long back.why taken had short)))

-- a run whose disk has another name
pub renamed : {D : Type 0} (resume : Bool) (state : D → DiskState) (limits : Limits) (mode : Mode) (a b last disk : D) (left old new : Option (List ℕ)) (outcome : Result Unit StoreHalt) (h : History) (before : ℕ) (bytes : List ℕ)
    → b ≡ a → disk ≡ last → Reduces resume limits mode (state b) (state last) left old new outcome h before bytes → Reduces resume limits mode (state a) (state disk) left old new outcome h before bytes
renamed {D} resume state limits mode a b last disk left old new outcome h before bytes first same run =
    subst (λ (d : D). Reduces resume limits mode (state a) (state d) left old new outcome h before bytes) (sym same)
    (subst (λ (d : D). Reduces resume limits mode (state d) (state last) left old new outcome h before bytes) first run)

-- a run that began with a look
reduces_looked : (resume : Bool) (limits : Limits) (mode : Mode) (a b after : DiskState) (left old new : Option (List ℕ)) (outcome : Result Unit StoreHalt) (h : History) (before : ℕ) (bytes : List ℕ)
    → IsDisk a → OnlyLooks a b → Reduces resume limits mode b after left old new outcome h before bytes → Reduces resume limits mode a after left old new outcome h before bytes
reduces_looked resume limits mode a b after left old new outcome h before bytes disk looks r = record {
  reduced = r.reduced;
  leaves = may_leave_looked outcome a b after (IsReached limits mode (begun_of resume h before bytes) (steps_of (begun_of resume h before bytes))) disk looks r.leaves;
  front = r.front;
  due = r.due;
  passes = r.passes;
  enough = r.enough;
  short = r.short;
}

-- a run from the engine on
pub engine_run : {D : Type 0} (resume : Bool) (state : D → DiskState) (limits : Limits) (mode : Mode) (opened : Opened D) (engine : Engine (OnDisk D)) (after : DiskState) (log left old new : Option (List ℕ)) (outcome : Result Unit StoreHalt)
    → ((d : D) → IsDisk (state d)) → OnlyLooks (state opened.store.disk) (state engine.joined.keep.disk) → ((h : History) (before : ℕ) → IsOpenAt state limits mode opened h before → IsReopened state mode limits engine h before)
    → IsReduceRun resume (IsReopened state mode limits engine) limits mode (state engine.joined.keep.disk) after log left old new outcome
    → IsReduceRun resume (IsOpenAt state limits mode opened) limits mode (state opened.store.disk) after log left old new outcome
engine_run resume state limits mode opened engine after log left old new outcome lawful looks opens run = λ h before bytes x told.
    reduces_looked resume limits mode (state opened.store.disk) (state engine.joined.keep.disk) after left old new outcome h before bytes (lawful opened.store.disk) looks (run h before bytes (opens h before x) told)

-- a run from the disk on
pub opened_run : {D : Type 0} (resume : Bool) (state : D → DiskState) (limits : Limits) (mode : Mode) (disk : D) (opened : Opened D) (after : DiskState) (log left old new : Option (List ℕ)) (outcome : Result Unit StoreHalt) → ((d : D) → IsDisk (state d))
    → OnlyLooks (state disk) (state opened.store.disk) → ((state disk).told → ⊥ ⊎ Settles (state disk) (state opened.store.disk))
    → ((h : History) (part : ℕ) → StoodAt state limits mode disk h part → IsOpenAt state limits mode opened h part)
    → IsReduceRun resume (IsOpenAt state limits mode opened) limits mode (state opened.store.disk) after log left old new outcome → IsReduceRun resume (StoodAt state limits mode disk) limits mode (state disk) after log left old new outcome
opened_run resume state limits mode disk opened after log left old new outcome lawful looks settles opens run = λ h before bytes stood told.
    let x = opens h before stood in
    let r = run h before bytes x told in
    record {
      reduced = r.reduced;
      leaves = inr (synced_by_looking outcome (state disk) (state opened.store.disk) after (IsReached limits mode (begun_of resume h before bytes) (steps_of (begun_of resume h before bytes)))
          (lawful disk) (lawful opened.store.disk) looks (not_blamed _ (settles stood.told)) (inl x.stores) r.leaves);
      front = r.front;
      due = r.due;
      passes = r.passes;
      enough = r.enough;
      short = r.short;
    }

open_unopened : (fault : OpenFault) → MayBeUnopened (Err (open_halt fault))
open_unopened opening.StoreFault = tt
open_unopened (opening.BadStore place) = tt
open_unopened (opening.WrongMode kept want) = tt
open_unopened opening.NoMemory = tt

open_due : (passes : Full → Type 0) (fault : OpenFault) → IsRunDue passes (open_halt fault)
open_due passes opening.StoreFault = tt
open_due passes (opening.BadStore place) = tt
open_due passes (opening.WrongMode kept asked) = tt
open_due passes opening.NoMemory = tt

-- a disk that wasn't opened
pub unopened_run : {D : Type 0} (resume : Bool) (state : D → DiskState) (limits : Limits) (mode : Mode) (disk after : D) (log old : Option (List ℕ)) (fault : OpenFault) (outcome : StoreHalt)
    → OnlyLooks (state disk) (state after) → outcome ≡ open_halt fault → IsReduceRun resume (StoodAt state limits mode disk) limits mode (state disk) (state after) log log old old (Err outcome)
unopened_run resume state limits mode disk after log old fault outcome looks is = λ h before bytes stood told.
    rw is (reduced_none resume limits mode (state disk) (state after) log old (open_halt fault) h before bytes (open_names fault) (open_due (Stops limits (whole_of (begun_of resume h before bytes))) fault)
    (inl (open_unopened fault, looks)) (λ taken had short. absurd (open_long fault taken had short)))

-- a run that found no memory for its words, or for its reads
pub unbegun_run : (resume : Bool) (Stood : History → ℕ → Type 0) (limits : Limits) (mode : Mode) (a after : DiskState) (log old : Option (List ℕ))
    → ((h : History) (before : ℕ) (bytes : List ℕ) → Stood h before → MayLeave (Err (over.Run halt.NoMemory)) a after (IsReached limits mode (begun_of resume h before bytes) (steps_of (begun_of resume h before bytes))))
    → IsReduceRun resume Stood limits mode a after log log old old (Err (over.Run halt.NoMemory))
unbegun_run resume Stood limits mode a after log old leaves = λ h before bytes stood told.
    reduced_none resume limits mode a after log old (over.Run halt.NoMemory) h before bytes memory_names tt (leaves h before bytes stood) (λ taken had short. absurd (memory_long taken had short))

-- ---- `watch`

-- nothing was answered
silent_course : (limits : Limits) (from : Moment) (asked : List ℕ) (why : StoreHalt) → IsRunDue never why → AnswerCourse limits from asked [] (Err why) from
silent_course limits from asked (over.Run halt.NoMemory) due = other_halt limits (QuestionsStop limits asked) from (asks limits (lines_in asked)) [] halt.NoMemory tt (nothing_said limits from (asks limits (lines_in asked)))
silent_course limits from asked (over.Run halt.ReadFault) due = other_halt limits (QuestionsStop limits asked) from (asks limits (lines_in asked)) [] halt.ReadFault tt (nothing_said limits from (asks limits (lines_in asked)))
silent_course limits from asked (over.Run halt.WriteFault) due = other_halt limits (QuestionsStop limits asked) from (asks limits (lines_in asked)) [] halt.WriteFault tt (nothing_said limits from (asks limits (lines_in asked)))
silent_course limits from asked (over.Run halt.StoreFault) due = other_halt limits (QuestionsStop limits asked) from (asks limits (lines_in asked)) [] halt.StoreFault tt (nothing_said limits from (asks limits (lines_in asked)))
silent_course limits from asked (over.Run (halt.BadRow place)) due = absurd due
silent_course limits from asked (over.Run (halt.Full full)) due = absurd due
silent_course limits from asked (over.Run (halt.Unwritten full)) due = other_halt limits (QuestionsStop limits asked) from (asks limits (lines_in asked)) [] (halt.Unwritten full) tt (nothing_said limits from (asks limits (lines_in asked)))
silent_course limits from asked (over.BadStore place) due = refl
silent_course limits from asked (over.WrongMode kept want) due = refl
silent_course limits from asked (over.ShortLog taken had) due = refl

-- a run that ended before it answered
pub watched_none : (limits : Limits) (mode : Mode) (disk after : DiskState) (left old : Option (List ℕ)) (why : StoreHalt) (begun : Begun) (asked : List ℕ) → NamesNoBatch why → IsRunDue never why
    → ((steps : History) → MayLeave (Err why) disk after (IsReached limits mode begun steps)) → ((taken had : ℕ) → ◌≡◌ {A = Result Unit StoreHalt} (Err why) (Err (over.ShortLog taken had)) → ⊥)
    → Watches limits mode disk after left old old (Err why) begun asked
watched_none limits mode disk after left old why begun asked none due leaves long =
    let first = first_of mode begun in
    record {
      to = first;
      bytes = [];
      wrote = appends_none old;
      course = silent_course limits first asked why due;
      stored = tt;
      last = first;
      along = is_of_begun begun first refl refl;
      leaves = leaves (since begun first);
      no_further = tt;
      passes = passes_none limits mode begun (since begun first) why none;
      whole = long;
    }

-- a dialogue that was cut short
pub watched_short : {D : Type 0} (state : D → DiskState) (start : Start (OnDisk D)) (limits : Limits) (mode : Mode) (rows : OnDisk D) (left old new : Option (List ℕ)) (why : Halt) (begun : Begun) (asked : List ℕ) (holds : Engine (OnDisk D) → Moment → Type 0) (engine : Engine (OnDisk D)) (left2 : Option (List ℕ))
    → start.begun ≡ begun → EndTalked (kind_of mode true holds) limits (QuestionsStop limits asked) engine left2 old new (Err why) (first_of mode begun) (asks limits (lines_in asked))
    → CutShort (IsCutShort state start limits) mode rows why → Watches limits mode (state start.rows.disk) (state rows.disk) left old new (Err (over.Run why)) begun asked
watched_short state start limits mode rows left old new why begun asked holds engine left2 same talked cut = record {
  to = talked.to;
  bytes = talked.bytes;
  wrote = talked.wrote;
  course = talked.course;
  stored = tt;
  last = cut.to;
  along = subst (λ (b : Begun). IsOf b cut.to) same cut.ends.moment;
  leaves = synced_before (Err (over.Run why)) (state start.rows.disk) (state rows.disk) (IsReached limits mode begun (since begun cut.to))
      (subst (λ (b : Begun). LeavesOnly (state start.rows.disk) (state rows.disk) (IsReached limits mode b (since b cut.to))) same (cut_leaves state start limits mode rows cut.to why cut.in_mode cut.ends));
  no_further = tt;
  passes = passes_run limits mode begun (since begun cut.to) why (λ full is. subst (λ (b : Begun). PassesStore limits mode b (since b cut.to) full) same (cut_passes state start limits mode rows cut.to why full cut.in_mode cut.ends is));
  whole = λ taken had is. let no = is in cc;
}

-- a dialogue that came to its end, after which all was saved, or not
pub watched_saved : {D : Type 0} (state : D → DiskState) (start : Start (OnDisk D)) (limits : Limits) (mode : Mode) (engine engine2 : Engine (OnDisk D)) (left old new : Option (List ℕ)) (r : Result Unit Halt) (begun : Begun) (asked : List ℕ)
    → start.begun ≡ begun → (talked : EndTalked (kind_of mode true (IsPutAway state start limits)) limits (QuestionsStop limits asked) engine left old new (Ok tt) (first_of mode begun) (asks limits (lines_in asked)))
    → OnOk r (IsAllPutAway state start limits engine2.joined.keep talked.to) → OnOk r (IsPutAway state start limits engine2 talked.to) → IfErr r (IsCutShort state start limits engine2.joined.keep talked.to) → IfErr r (IsDue never)
    → Watches limits mode (state start.rows.disk) (state engine2.joined.keep.disk) left old new (over_run r) begun asked
watched_saved state start limits mode engine engine2 left old new (Ok t) begun asked same talked all away cut due = record {
  to = talked.to;
  bytes = talked.bytes;
  wrote = talked.wrote;
  course = talked.course;
  stored = record {
    along = subst (λ (b : Begun). IsOf b talked.to) same all.moment;
    stores = subst (λ (b : Begun). StoresHistory limits mode (state engine2.joined.keep.disk).reads talked.to.history (b.part + bytes_in (since b talked.to))) same
        (subst (λ (k : Mode). StoresHistory limits k (state engine2.joined.keep.disk).reads talked.to.history (start.begun.part + bytes_in (since start.begun talked.to))) talked.at.in_mode all.stores);
    durable = all.durable;
    told = talked.at.stands_at.told;
  };
  last = talked.to;
  along = subst (λ (b : Begun). IsOf b talked.to) same all.moment;
  leaves = synced_before (Ok t) (state start.rows.disk) (state engine2.joined.keep.disk) (IsReached limits mode begun (since begun talked.to))
      (subst (λ (b : Begun). LeavesOnly (state start.rows.disk) (state engine2.joined.keep.disk) (IsReached limits mode b (since b talked.to))) same
      (subst (λ (k : Mode). LeavesOnly (state start.rows.disk) (state engine2.joined.keep.disk) (IsReached limits k start.begun (since start.begun talked.to))) talked.at.in_mode away.leaves));
  no_further = refl;
  passes = tt;
  whole = λ taken had is. let no = is in cc;
}
watched_saved state start limits mode engine engine2 left old new (Err why) begun asked same talked all away cut due = record {
  to = talked.to;
  bytes = talked.bytes;
  wrote = talked.wrote;
  course = other_halt limits (QuestionsStop limits asked) (first_of mode begun) (asks limits (lines_in asked)) talked.bytes why due (record {
    front = asks limits (lines_in asked);
    rest = [];
    said = talked.course.0;
    to = talked.to;
    more = [];
    parts = sym (append-nil (asks limits (lines_in asked)));
    dialogue = talked.course.2;
    bytes_are = append-nil talked.bytes ∙ talked.course.1;
  });
  stored = tt;
  last = talked.to;
  along = subst (λ (b : Begun). IsOf b talked.to) same cut.moment;
  leaves = synced_before (Err (over.Run why)) (state start.rows.disk) (state engine2.joined.keep.disk) (IsReached limits mode begun (since begun talked.to))
      (subst (λ (b : Begun). LeavesOnly (state start.rows.disk) (state engine2.joined.keep.disk) (IsReached limits mode b (since b talked.to))) same
      (cut_leaves state start limits mode engine2.joined.keep talked.to why talked.at.in_mode cut));
  no_further = tt;
  passes = passes_run limits mode begun (since begun talked.to) why (λ full is. subst (λ (b : Begun). PassesStore limits mode b (since b talked.to) full) same (cut_passes state start limits mode engine2.joined.keep talked.to why full talked.at.in_mode cut is));
  whole = λ taken had is. let no = is in cc;
}

restore_never : {D : Type 0} (state : D → DiskState) (limits : Limits) (mode : Mode) (opened : Opened D) (h : History) (part : ℕ) (back : Unrestored (OnDisk D)) → Was → IsOpenAt state limits mode opened h part
    → IsPastInput limits opened back → IsHidden state opened.store back → IsRunDue never (restore_halt back.why)
restore_never state limits mode opened h part back law x past hidden = restore_due state limits mode opened h part back never law x past hidden back.why refl

pub refused_watch : {D : Type 0} (state : D → DiskState) (limits : Limits) (mode : Mode) (opened : Opened D) (back : Unrestored (OnDisk D)) (disk : D) (log asked old : Option (List ℕ)) (outcome : StoreHalt) → Was
    → ((d : D) → IsDisk (state d)) → OnlyLooks (state opened.store.disk) (state disk) → IsPastInput limits opened back → IsHidden state opened.store back → outcome ≡ restore_halt back.why
    → IsWatchRun (IsOpenAt state limits mode opened) limits mode (state opened.store.disk) (state disk) log log asked old old (Err outcome)
refused_watch state limits mode opened back disk log asked old outcome law lawful looks past hidden is = λ h before bytes questions x told tells.
    rw is (watched_none limits mode (state opened.store.disk) (state disk) log old (restore_halt back.why) (begun_of false h before bytes) questions (restore_names back.why)
    (restore_never state limits mode opened h before back law x past hidden)
    (λ steps. synced_before (Err (restore_halt back.why)) (state opened.store.disk) (state disk) (IsReached limits mode (begun_of false h before bytes) steps)
    (leaves_by_look (state opened.store.disk) (state disk) (IsReached limits mode (begun_of false h before bytes) steps) (lawful opened.store.disk) looks (λ bs left. inl (open_images state limits mode opened h before x bs left))))
    (restore_long back.why))

pub renamed_watch : {D : Type 0} (state : D → DiskState) (limits : Limits) (mode : Mode) (a b last disk : D) (left old new : Option (List ℕ)) (outcome : Result Unit StoreHalt) (begun : Begun) (asked : List ℕ)
    → b ≡ a → disk ≡ last → Watches limits mode (state b) (state last) left old new outcome begun asked → Watches limits mode (state a) (state disk) left old new outcome begun asked
renamed_watch {D} state limits mode a b last disk left old new outcome begun asked first same run =
    subst (λ (d : D). Watches limits mode (state a) (state d) left old new outcome begun asked) (sym same)
    (subst (λ (d : D). Watches limits mode (state d) (state last) left old new outcome begun asked) first run)

watches_looked : (limits : Limits) (mode : Mode) (a b after : DiskState) (left old new : Option (List ℕ)) (outcome : Result Unit StoreHalt) (begun : Begun) (asked : List ℕ)
    → IsDisk a → OnlyLooks a b → Watches limits mode b after left old new outcome begun asked → Watches limits mode a after left old new outcome begun asked
watches_looked limits mode a b after left old new outcome begun asked disk looks w = record {
  to = w.to;
  bytes = w.bytes;
  wrote = w.wrote;
  course = w.course;
  stored = w.stored;
  last = w.last;
  along = w.along;
  leaves = may_leave_looked outcome a b after (IsReached limits mode begun (since begun w.last)) disk looks w.leaves;
  no_further = w.no_further;
  passes = w.passes;
  whole = w.whole;
}

pub engine_watch : {D : Type 0} (state : D → DiskState) (limits : Limits) (mode : Mode) (opened : Opened D) (engine : Engine (OnDisk D)) (after : DiskState) (log left asked old new : Option (List ℕ)) (outcome : Result Unit StoreHalt)
    → ((d : D) → IsDisk (state d)) → OnlyLooks (state opened.store.disk) (state engine.joined.keep.disk) → ((h : History) (before : ℕ) → IsOpenAt state limits mode opened h before → IsReopened state mode limits engine h before)
    → IsWatchRun (IsReopened state mode limits engine) limits mode (state engine.joined.keep.disk) after log left asked old new outcome
    → IsWatchRun (IsOpenAt state limits mode opened) limits mode (state opened.store.disk) after log left asked old new outcome
engine_watch state limits mode opened engine after log left asked old new outcome lawful looks opens run = λ h before bytes questions x told tells.
    watches_looked limits mode (state opened.store.disk) (state engine.joined.keep.disk) after left old new outcome (begun_of false h before bytes) questions (lawful opened.store.disk) looks (run h before bytes questions (opens h before x) told tells)

pub opened_watch : {D : Type 0} (state : D → DiskState) (limits : Limits) (mode : Mode) (disk : D) (opened : Opened D) (after : DiskState) (log left asked old new : Option (List ℕ)) (outcome : Result Unit StoreHalt) → ((d : D) → IsDisk (state d))
    → OnlyLooks (state disk) (state opened.store.disk) → ((state disk).told → ⊥ ⊎ Settles (state disk) (state opened.store.disk))
    → ((h : History) (part : ℕ) → StoodAt state limits mode disk h part → IsOpenAt state limits mode opened h part)
    → IsWatchRun (IsOpenAt state limits mode opened) limits mode (state opened.store.disk) after log left asked old new outcome → IsWatchRun (StoodAt state limits mode disk) limits mode (state disk) after log left asked old new outcome
opened_watch state limits mode disk opened after log left asked old new outcome lawful looks settles opens run = λ h before bytes questions stood told tells.
    let x = opens h before stood in
    let w = run h before bytes questions x told tells in
    record {
      to = w.to;
      bytes = w.bytes;
      wrote = w.wrote;
      course = w.course;
      stored = w.stored;
      last = w.last;
      along = w.along;
      leaves = inr (synced_by_looking outcome (state disk) (state opened.store.disk) after (IsReached limits mode (begun_of false h before bytes) (since (begun_of false h before bytes) w.last))
          (lawful disk) (lawful opened.store.disk) looks (not_blamed _ (settles stood.told)) (inl x.stores) w.leaves);
      no_further = w.no_further;
      passes = w.passes;
      whole = w.whole;
    }

pub unopened_watch : {D : Type 0} (state : D → DiskState) (limits : Limits) (mode : Mode) (disk after : D) (log asked old : Option (List ℕ)) (fault : OpenFault) (outcome : StoreHalt)
    → OnlyLooks (state disk) (state after) → outcome ≡ open_halt fault → IsWatchRun (StoodAt state limits mode disk) limits mode (state disk) (state after) log log asked old old (Err outcome)
unopened_watch state limits mode disk after log asked old fault outcome looks is = λ h before bytes questions stood told tells.
    rw is (watched_none limits mode (state disk) (state after) log old (open_halt fault) (begun_of false h before bytes) questions (open_names fault) (open_due never fault)
    (λ steps. inl (open_unopened fault, looks)) (open_long fault))

pub unbegun_watch : (Stood : History → ℕ → Type 0) (limits : Limits) (mode : Mode) (a after : DiskState) (log asked old : Option (List ℕ))
    → ((h : History) (before : ℕ) (bytes : List ℕ) (steps : History) → Stood h before → MayLeave (Err (over.Run halt.NoMemory)) a after (IsReached limits mode (begun_of false h before bytes) steps))
    → IsWatchRun Stood limits mode a after log log asked old old (Err (over.Run halt.NoMemory))
unbegun_watch Stood limits mode a after log asked old leaves = λ h before bytes questions stood told tells.
    watched_none limits mode a after log old (over.Run halt.NoMemory) (begun_of false h before bytes) questions memory_names tt (λ steps. leaves h before bytes steps stood) memory_long

-- why a disk wasn't opened has its cause
pub open_causes : (read write store hidden : Type 0) (bad : ℕ → Type 0) (wrong : Mode → Mode → Type 0) (short : ℕ → ℕ → Type 0) (fault : OpenFault) → (fault ≡ opening.StoreFault → store) → ((place : ℕ) → fault ≡ opening.BadStore place → bad place)
    → ((kept want : Mode) → fault ≡ opening.WrongMode kept want → wrong kept want) → HasStoreCauses read write store hidden bad wrong short (open_halt fault)
open_causes read write store hidden bad wrong short opening.StoreFault failed place modes = failed refl
open_causes read write store hidden bad wrong short (opening.BadStore place) failed places modes = places place refl
open_causes read write store hidden bad wrong short (opening.WrongMode kept want) failed places modes = modes kept want refl
open_causes read write store hidden bad wrong short opening.NoMemory failed places modes = tt

-- one cause for another
run_causes_by : (read read2 write store store2 hidden hidden2 : Type 0) (why : Halt) → (read → read2) → (store → store2) → (hidden → hidden2) → HasCauses read write store hidden ⊤ why → HasCauses read2 write store2 hidden2 ⊤ why
run_causes_by read read2 write store store2 hidden hidden2 halt.NoMemory e f d h = tt
run_causes_by read read2 write store store2 hidden hidden2 halt.ReadFault e f d h = e h
run_causes_by read read2 write store store2 hidden hidden2 halt.WriteFault e f d h = h
run_causes_by read read2 write store store2 hidden hidden2 halt.StoreFault e f d h = f h
run_causes_by read read2 write store store2 hidden hidden2 (halt.BadRow place) e f d h = d h
run_causes_by read read2 write store store2 hidden hidden2 (halt.Full full) e f d h = tt
run_causes_by read read2 write store store2 hidden hidden2 (halt.Unwritten full) e f d h = tt

pub causes_by : (read read2 write store store2 hidden hidden2 : Type 0) (bad bad2 : ℕ → Type 0) (wrong wrong2 : Mode → Mode → Type 0) (short short2 : ℕ → ℕ → Type 0) (r : Result Unit StoreHalt) → (read → read2) → (store → store2) → (hidden → hidden2) → ((place : ℕ) → bad place → bad2 place)
    → ((kept want : Mode) → wrong kept want → wrong2 kept want) → ((taken had : ℕ) → short taken had → short2 taken had) → IfErr r (HasStoreCauses read write store hidden bad wrong short) → IfErr r (HasStoreCauses read2 write store2 hidden2 bad2 wrong2 short2)
causes_by read read2 write store store2 hidden hidden2 bad bad2 wrong wrong2 short short2 (Ok t) e f d g k l h = tt
causes_by read read2 write store store2 hidden hidden2 bad bad2 wrong wrong2 short short2 (Err (over.Run why)) e f d g k l h = run_causes_by read read2 write store store2 hidden hidden2 why e f d h
causes_by read read2 write store store2 hidden hidden2 bad bad2 wrong wrong2 short short2 (Err (over.BadStore place)) e f d g k l h = g place h
causes_by read read2 write store store2 hidden hidden2 bad bad2 wrong wrong2 short short2 (Err (over.WrongMode kept asked)) e f d g k l h = k kept asked h
causes_by read read2 write store store2 hidden hidden2 bad bad2 wrong wrong2 short short2 (Err (over.ShortLog taken had)) e f d g k l h = l taken had h

-- a run that was over a store is blamed for a store fault if its count rose
pub blamed_for : (read write store hidden : Type 0) (bad : ℕ → Type 0) (wrong : Mode → Mode → Type 0) (short : ℕ → ℕ → Type 0) (r : Result Unit StoreHalt) → IfErr r (HasStoreCauses read write store hidden bad wrong short) → IsErrOf r (over.Run halt.StoreFault) → store
blamed_for read write store hidden bad wrong short (Ok t) h is = absurd (cc)
blamed_for read write store hidden bad wrong short (Err (over.Run halt.StoreFault)) h is = h
blamed_for read write store hidden bad wrong short (Err (over.Run halt.NoMemory)) h is = absurd (cc)
blamed_for read write store hidden bad wrong short (Err (over.Run halt.ReadFault)) h is = absurd (cc)
blamed_for read write store hidden bad wrong short (Err (over.Run halt.WriteFault)) h is = absurd (cc)
blamed_for read write store hidden bad wrong short (Err (over.Run (halt.BadRow place))) h is = absurd (cc)
blamed_for read write store hidden bad wrong short (Err (over.Run (halt.Full full))) h is = absurd (cc)
blamed_for read write store hidden bad wrong short (Err (over.Run (halt.Unwritten full))) h is = absurd (cc)
blamed_for read write store hidden bad wrong short (Err (over.BadStore place)) h is = absurd (cc)
blamed_for read write store hidden bad wrong short (Err (over.WrongMode kept asked)) h is = absurd (cc)
blamed_for read write store hidden bad wrong short (Err (over.ShortLog taken had)) h is = absurd (cc)

-- a halt of a dialogue over a store
pub over_causes : (read write store hidden : Type 0) (bad : ℕ → Type 0) (wrong : Mode → Mode → Type 0) (short : ℕ → ℕ → Type 0) (r : Result Unit Halt) → IfErr r (HasCauses read write store hidden ⊤) → IfErr (over_run r) (HasStoreCauses read write store hidden bad wrong short)
over_causes read write store hidden bad wrong short (Ok t) h = tt
over_causes read write store hidden bad wrong short (Err why) h = h

-- the same causes, over a disk of another name
pub causes_renamed : {D : Type 0} (faults : D → ℕ) (spent : D → Type 0) (a last disk : D) (read write hidden : Type 0) (bad : ℕ → Type 0) (wrong : Mode → Mode → Type 0) (short : ℕ → ℕ → Type 0) (r : Result Unit StoreHalt) → disk ≡ last
    → IfErr r (HasStoreCauses read write (Rose (faults a) (faults last) (spent last)) hidden bad wrong short) → IfErr r (HasStoreCauses read write (Rose (faults a) (faults disk) (spent disk)) hidden bad wrong short)
causes_renamed {D} faults spent a last disk read write hidden bad wrong short r same = subst (λ (d : D). IfErr r (HasStoreCauses read write (Rose (faults a) (faults d) (spent d)) hidden bad wrong short)) (sym same)

-- calls that are blamed as their causes say, over a disk of another name
pub uses_renamed : {D : Type 0} (state : D → DiskState) (faults : D → ℕ) (spent : D → Type 0) (a last disk : D) (read write hidden : Type 0) (bad : ℕ → Type 0) (wrong : Mode → Mode → Type 0) (short : ℕ → ℕ → Type 0) (r : Result Unit StoreHalt) → disk ≡ last
    → UsesDisk state faults spent a last ⊥ → IfErr r (HasStoreCauses read write (Rose (faults a) (faults last) (spent last)) hidden bad wrong short) → UsesDisk state faults spent a disk (IsErrOf r (over.Run halt.StoreFault))
uses_renamed {D} state faults spent a last disk read write hidden bad wrong short r same uses causes = subst (λ (d : D). UsesDisk state faults spent a d (IsErrOf r (over.Run halt.StoreFault))) (sym same)
    (uses_blamed state faults spent a last ⊥ (IsErrOf r (over.Run halt.StoreFault)) uses (blamed_for read write (Rose (faults a) (faults last) (spent last)) hidden bad wrong short r causes))

-- a count that rose after a look
pub looked_rose : {D : Type 0} (state : D → DiskState) (faults : D → ℕ) (spent : D → Type 0) (disk opened after : D) (blamed : Type 0) → UsesDisk state faults spent disk opened blamed
    → Rose (faults opened) (faults after) (spent after) → Rose (faults disk) (faults after) (spent after)
looked_rose state faults spent disk opened after blamed uses (inl above) = let low = uses.later in inl (omega (arith, low, above))
looked_rose state faults spent disk opened after blamed uses (inr none) = inr none

-- calls after a look, blamed as they are
pub looked_uses : {D : Type 0} (state : D → DiskState) (faults : D → ℕ) (spent : D → Type 0) (disk opened after : D) (P Q : Type 0) → UsesDisk state faults spent disk opened P → UsesDisk state faults spent opened after Q
    → UsesDisk state faults spent disk after Q
looked_uses state faults spent disk opened after P Q first second =
    uses_blamed state faults spent disk after ⊥ Q (uses_in_a_row disk opened after first second) (λ is. looked_rose state faults spent disk opened after P first (second.rose is))

-- a run that ended without a call on its disk
pub uses_still : {D : Type 0} (state : D → DiskState) (faults : D → ℕ) (spent : D → Type 0) (a disk : D) (Q : Type 0) → disk ≡ a → (Q → ⊥) → UsesDisk state faults spent a disk Q
uses_still {D} state faults spent a disk Q same blameless =
    uses_blamed state faults spent a disk ⊥ Q (subst (λ (d : D). UsesDisk state faults spent a d ⊥) (sym same) (looks_at_none a).uses) (λ is. absurd (blameless is))

-- why no engine was made of a store has its cause
pub restore_causes : {K : Type 0} (back : Unrestored K) (read write store hidden : Type 0) (bad : ℕ → Type 0) (wrong : Mode → Mode → Type 0) (short : ℕ → ℕ → Type 0) → ((place : ℕ) → back.why ≡ restore.BadStore place → bad place)
    → (back.why ≡ restore.StoreFault → store) → ((place : ℕ) → back.why ≡ restore.BadRow place → hidden) → (why : RestoreFault) → back.why ≡ why → HasStoreCauses read write store hidden bad wrong short (restore_halt why)
restore_causes back read write store hidden bad wrong short places failed rows (restore.BadStore place) is = places place is
restore_causes back read write store hidden bad wrong short places failed rows (restore.Full full) is = tt
restore_causes back read write store hidden bad wrong short places failed rows restore.StoreFault is = failed is
restore_causes back read write store hidden bad wrong short places failed rows (restore.BadRow place) is = rows place is
restore_causes back read write store hidden bad wrong short places failed rows restore.NoMemory is = tt

-- what waits isn't sound in the bytes of the disk
pub bad_opened : {D : Type 0} (limits : Limits) (opened : Opened D) (bytes : List ℕ) (place : ℕ) → IsOpenedOver limits bytes opened → BeginsLast limits bytes opened.last → WaitsUnsoundly limits opened place
    → StoresUnsoundly limits place bytes
bad_opened limits opened bytes place read begins bad = record { log = opened.store.log; found = found_of opened; last = opened.last; read = read; begins = begins; is = bad.is; unsound = bad.unsound }

pub bad_or_none : {D : Type 0} (limits : Limits) (opened : Opened D) (bytes : List ℕ) (place : ℕ) → IsOpenedOver limits bytes opened → BeginsLast limits bytes opened.last
    → WaitsUnsoundly limits opened place ⊎ HasNoBatch opened place → (IsBadAt limits place bytes ⊎ StoresUnsoundly limits place bytes) ⊎ StoresNothing limits place bytes
bad_or_none limits opened bytes place read begins (inl bad) = inl (inr (bad_opened limits opened bytes place read begins bad))
bad_or_none limits opened bytes place read begins (inr none) = inr (record { log = opened.store.log; found = found_of opened; read = read; none = none.none; is = none.is })

-- ---- `query`

pub queried_of : {K : Type 0} (holds : Engine K → Moment → Type 0) (limits : Limits) (mode : Mode) (h : History) (asked : List ℕ) (engine : Engine K) (left rest old new : Option (List ℕ)) (r : Result Unit Halt) → IfErr (over_run r) NamesNoBatch → OnOk (over_run r) (AreHeardOut limits (querying mode h) asked rest)
    → EndTalked (kind_of mode false holds) limits (QuestionsStop limits asked) engine left old new r (querying mode h) (asks limits (lines_in asked)) → IsQueried limits mode h asked rest old new (over_run r)
queried_of holds limits mode h asked engine left rest old new (Ok t) names heard x = record { to = x.to; bytes = x.bytes; wrote = x.wrote; course = x.course; names = tt; heard = heard }
queried_of holds limits mode h asked engine left rest old new (Err why) names heard x = record { to = x.to; bytes = x.bytes; wrote = x.wrote; course = x.course; names = names; heard = tt }

-- nothing was answered for want of memory
pub queried_none : (limits : Limits) (mode : Mode) (h : History) (asked : List ℕ) (rest old : Option (List ℕ)) → IsQueried limits mode h asked rest old old (Err (over.Run halt.NoMemory))
queried_none limits mode h asked rest old = record {
  to = querying mode h;
  bytes = [];
  wrote = appends_none old;
  course = other_halt limits (QuestionsStop limits asked) (querying mode h) (asks limits (lines_in asked)) [] halt.NoMemory tt (nothing_said limits (querying mode h) (asks limits (lines_in asked)));
  names = memory_names;
  heard = tt;
}

pub queried_bad : (limits : Limits) (mode : Mode) (h : History) (asked : List ℕ) (rest old : Option (List ℕ)) (place : ℕ) → IsQueried limits mode h asked rest old old (Err (over.BadStore place))
queried_bad limits mode h asked rest old place = record { to = querying mode h; bytes = []; wrote = appends_none old; course = refl; names = open_names (opening.BadStore place); heard = tt }

pub queried_unopened : (limits : Limits) (mode : Mode) (h : History) (asked : List ℕ) (rest old : Option (List ℕ)) (fault : OpenFault) → IsQueried limits mode h asked rest old old (Err (open_halt fault))
queried_unopened limits mode h asked rest old opening.StoreFault = record { to = querying mode h; bytes = []; wrote = appends_none old; course = silent_course limits (querying mode h) asked (over.Run halt.StoreFault) tt; names = open_names opening.StoreFault; heard = tt }
queried_unopened limits mode h asked rest old (opening.BadStore place) = queried_bad limits mode h asked rest old place
queried_unopened limits mode h asked rest old (opening.WrongMode kept want) = record { to = querying mode h; bytes = []; wrote = appends_none old; course = refl; names = open_names (opening.WrongMode kept want); heard = tt }
queried_unopened limits mode h asked rest old opening.NoMemory = queried_none limits mode h asked rest old

pub queried_unrestored : {D : Type 0} (state : D → DiskState) (limits : Limits) (mode : Mode) (opened : Opened D) (h : History) (part : ℕ) (asked : List ℕ) (rest old : Option (List ℕ)) (back : Unrestored (OnDisk D)) → Was
    → IsOpenAt state limits mode opened h part → IsPastInput limits opened back → IsHidden state opened.store back → (why : RestoreFault) → back.why ≡ why → IsQueried limits mode h asked rest old old (Err (restore_halt why))
queried_unrestored state limits mode opened h part asked rest old back law x past hidden (restore.BadStore place) is = queried_bad limits mode h asked rest old place
queried_unrestored state limits mode opened h part asked rest old back law x past hidden restore.StoreFault is = queried_unopened limits mode h asked rest old opening.StoreFault
queried_unrestored state limits mode opened h part asked rest old back law x past hidden (restore.BadRow place) is = absurd (hidden place is x.open_on.told)
queried_unrestored state limits mode opened h part asked rest old back law x past hidden restore.NoMemory is = queried_none limits mode h asked rest old
queried_unrestored state limits mode opened h part asked rest old back law x past hidden (restore.Full full) is = absurd (not_past state limits mode opened h part back full law x past is)

-- the causes of a dialogue without a log
none_rose : Rose 0 0 ⊥ → ⊥
none_rose (inl above) = omega (arith, above)
none_rose (inr none) = none

pub no_log : (asked : Type 0) → Rose 0 0 ⊥ ⊎ asked → asked
no_log asked (inl log) = absurd (none_rose log)
no_log asked (inr questions) = questions

-- ---- a run that nothing stops

not_short_enough : (resume : Bool) (before : ℕ) (bytes : List ℕ) (taken had : ℕ) → HasTaken resume before bytes → IsShort resume before bytes taken had → ⊥
not_short_enough resume before bytes taken had enough short =
    let whole : before ≤ length bytes = subst (λ (b : Bool). HasTaken b before bytes) short.resumes enough in
    let all = short.all in
    let some = short.some in
    let less = short.short in
    omega (arith, whole, all, some, less)

-- a disk that has a history of a mode is no store of another
pub not_wrong : {D : Type 0} (state : D → DiskState) (limits : Limits) (mode : Mode) (disk : D) (h : History) (before : ℕ) (kept asked : Mode) → Was → StoodAt state limits mode disk h before → IsWrongIn limits (state disk) (Some mode) kept asked → ⊥
not_wrong state limits mode disk h before kept asked law stood wrong =
    let w = wrong stood.told in
    let stored = law text_of limits mode (state disk).reads (moment_of limits h before) w.read.0 w.read.1 w.is stood.stores.store in
    let one : mode ≡ kept = mode_of_ends w.read.1.mode kept mode w.read.1.others (moment_of limits h before) w.differ.kept_is stored.ends in
    let want : mode ≡ asked = (let is = w.differ.asked_is in cc) in
    w.differ.apart (sym one ∙ want)

-- a disk that had a history is no bad store
pub not_bad : {D : Type 0} (state : D → DiskState) (limits : Limits) (mode : Mode) (disk : D) (h : History) (before place : ℕ)
    → ((limits : Limits) (mode : Mode) (bytes : List ℕ) (h : History) (part place : ℕ) → StoresHistory limits mode bytes h part → ¬ IsBadAt limits place bytes)
    → ((limits : Limits) (mode : Mode) (bytes : List ℕ) (h : History) (part : ℕ) (log : Log) (found : Found) → StoresHistory limits mode bytes h part → IsStoreRead limits bytes (log, found) → WaitsSoundly limits found.others)
    → StoodAt state limits mode disk h before → IsBadIn limits (state disk) place → ⊥
not_bad state limits mode disk h before place no_bad sound stood bad = by (bad stood.told)
  where
    by : IsBadAt limits place (state disk).reads ⊎ StoresUnsoundly limits place (state disk).reads → ⊥
    by (inl at) = no_bad limits mode (state disk).reads h before place stood.stores at
    by (inr u) = u.unsound.2 (sound limits mode (state disk).reads h before u.log u.found stood.stores u.read u.unsound.0 u.unsound.1)

pub reduced_all : (resume : Bool) (limits : Limits) (mode : Mode) (disk after : DiskState) (left old new : Option (List ℕ)) (r : Result Unit StoreHalt) (h : History) (before : ℕ) (bytes : List ℕ) (read write store hidden : Type 0) (bad : ℕ → Type 0) (wrong : Mode → Mode → Type 0) (short : ℕ → ℕ → Type 0)
    → Reduces resume limits mode disk after left old new r h before bytes → IfErr r (HasStoreCauses read write store hidden bad wrong short) → HasTaken resume before bytes → (read → ⊥) → (write → ⊥) → (store → ⊥) → ((kept asked : Mode) → wrong kept asked → ⊥) → ((place : ℕ) → bad place → ⊥)
    → FitsWhole limits mode (begun_of resume h before bytes) → IsDoneOrNoMemory (store_status r)
reduced_all resume limits mode disk after left old new (Ok t) h before bytes read write store hidden bad wrong short run causes enough e f g k b fits = tt
reduced_all resume limits mode disk after left old new (Err (over.Run halt.NoMemory)) h before bytes read write store hidden bad wrong short run causes enough e f g k b fits = tt
reduced_all resume limits mode disk after left old new (Err (over.Run halt.ReadFault)) h before bytes read write store hidden bad wrong short run causes enough e f g k b fits = absurd (e causes)
reduced_all resume limits mode disk after left old new (Err (over.Run halt.WriteFault)) h before bytes read write store hidden bad wrong short run causes enough e f g k b fits = absurd (f causes)
reduced_all resume limits mode disk after left old new (Err (over.Run halt.StoreFault)) h before bytes read write store hidden bad wrong short run causes enough e f g k b fits = absurd (g causes)
reduced_all resume limits mode disk after left old new (Err (over.Run (halt.BadRow place))) h before bytes read write store hidden bad wrong short run causes enough e f g k b fits = absurd run.due
reduced_all resume limits mode disk after left old new (Err (over.Run (halt.Full full))) h before bytes read write store hidden bad wrong short run causes enough e f g k b fits = absurd (fits.engine full run.due)
reduced_all resume limits mode disk after left old new (Err (over.Run (halt.Unwritten full))) h before bytes read write store hidden bad wrong short run causes enough e f g k b fits = absurd (fits.store full run.passes)
reduced_all resume limits mode disk after left old new (Err (over.BadStore place)) h before bytes read write store hidden bad wrong short run causes enough e f g k b fits = absurd (b place causes)
reduced_all resume limits mode disk after left old new (Err (over.WrongMode kept asked)) h before bytes read write store hidden bad wrong short run causes enough e f g k b fits = absurd (k kept asked causes)
reduced_all resume limits mode disk after left old new (Err (over.ShortLog taken had)) h before bytes read write store hidden bad wrong short run causes enough e f g k b fits = absurd (not_short_enough resume before bytes taken had enough (run.short taken had refl))

pub watched_all : (limits : Limits) (mode : Mode) (disk after : DiskState) (left old new : Option (List ℕ)) (r : Result Unit StoreHalt) (begun : Begun) (asked : List ℕ) (read write store hidden : Type 0) (bad : ℕ → Type 0) (wrong : Mode → Mode → Type 0) (short : ℕ → ℕ → Type 0)
    → Watches limits mode disk after left old new r begun asked → IfErr r (HasStoreCauses read write store hidden bad wrong short) → (read → ⊥) → (write → ⊥) → (store → ⊥) → ((kept want : Mode) → wrong kept want → ⊥) → ((place : ℕ) → bad place → ⊥)
    → FitsDialogue limits mode begun asked → IsDoneOrNoMemory (store_status r)
watched_all limits mode disk after left old new (Ok t) begun asked read write store hidden bad wrong short run causes e f g k b fits = tt
watched_all limits mode disk after left old new (Err (over.Run halt.NoMemory)) begun asked read write store hidden bad wrong short run causes e f g k b fits = tt
watched_all limits mode disk after left old new (Err (over.Run halt.ReadFault)) begun asked read write store hidden bad wrong short run causes e f g k b fits = absurd (e causes)
watched_all limits mode disk after left old new (Err (over.Run halt.WriteFault)) begun asked read write store hidden bad wrong short run causes e f g k b fits = absurd (f causes)
watched_all limits mode disk after left old new (Err (over.Run halt.StoreFault)) begun asked read write store hidden bad wrong short run causes e f g k b fits = absurd (g causes)
watched_all limits mode disk after left old new (Err (over.Run (halt.BadRow place))) begun asked read write store hidden bad wrong short run causes e f g k b fits = absurd run.course
watched_all limits mode disk after left old new (Err (over.Run (halt.Full full))) begun asked read write store hidden bad wrong short run causes e f g k b fits = absurd (fits.engine run.course.said run.course.to full run.course.stops)
watched_all limits mode disk after left old new (Err (over.Run (halt.Unwritten full))) begun asked read write store hidden bad wrong short run causes e f g k b fits = absurd (fits.store run.last run.along full run.passes)
watched_all limits mode disk after left old new (Err (over.BadStore place)) begun asked read write store hidden bad wrong short run causes e f g k b fits = absurd (b place causes)
watched_all limits mode disk after left old new (Err (over.WrongMode kept want)) begun asked read write store hidden bad wrong short run causes e f g k b fits = absurd (k kept want causes)
watched_all limits mode disk after left old new (Err (over.ShortLog taken had)) begun asked read write store hidden bad wrong short run causes e f g k b fits = absurd (run.whole taken had refl)

-- ---- the status

-- a store is refused for the cause of a halt
pub refuses_for : (read write store hidden limit : Type 0) (bad : ℕ → Type 0) (wrong : Mode → Mode → Type 0) (r : Result Unit Halt) → ((place : ℕ) → hidden → bad place) → IfErr r (HasCauses read write store hidden limit) → RefusesStore (status_for r) bad wrong
refuses_for read write store hidden limit bad wrong (Ok t) d h = tt
refuses_for read write store hidden limit bad wrong (Err halt.NoMemory) d h = tt
refuses_for read write store hidden limit bad wrong (Err halt.ReadFault) d h = tt
refuses_for read write store hidden limit bad wrong (Err halt.WriteFault) d h = tt
refuses_for read write store hidden limit bad wrong (Err halt.StoreFault) d h = tt
refuses_for read write store hidden limit bad wrong (Err (halt.BadRow place)) d h = d place h
refuses_for read write store hidden limit bad wrong (Err (halt.Full full)) d h = tt
refuses_for read write store hidden limit bad wrong (Err (halt.Unwritten full)) d h = tt

-- the same of an outcome over a store
pub refuses_by : (read write store hidden : Type 0) (bad : ℕ → Type 0) (wrong : Mode → Mode → Type 0) (short : ℕ → ℕ → Type 0) (r : Result Unit StoreHalt) → ((place : ℕ) → hidden → bad place)
    → IfErr r (HasStoreCauses read write store hidden bad wrong short) → RefusesStore (store_status r) bad wrong
refuses_by read write store hidden bad wrong short (Ok t) d h = tt
refuses_by read write store hidden bad wrong short (Err (over.Run why)) d h = refuses_for read write store hidden ⊤ bad wrong (Err why) d h
refuses_by read write store hidden bad wrong short (Err (over.BadStore place)) d h = h
refuses_by read write store hidden bad wrong short (Err (over.WrongMode kept asked)) d h = h
refuses_by read write store hidden bad wrong short (Err (over.ShortLog taken had)) d h = tt

-- ---- a store that is refused

-- a run over an engine refuses no store
pub never_refused : (read write store hidden : Type 0) (short : ℕ → ℕ → Type 0) (r : Result Unit StoreHalt) → IfErr r (HasStoreCauses read write store hidden no_place no_modes short) → IsRefusal r → ⊥
never_refused read write store hidden short (Ok t) causes is = is
never_refused read write store hidden short (Err (over.Run why)) causes is = is
never_refused read write store hidden short (Err (over.BadStore place)) causes is = causes
never_refused read write store hidden short (Err (over.WrongMode kept want)) causes is = causes
never_refused read write store hidden short (Err (over.ShortLog taken had)) causes is = is

-- a status that refuses a store is that of such an outcome
pub refusal_of : (r : Result Unit StoreHalt) → RefusesAStore (store_status r) → IsRefusal r
refusal_of (Ok t) is = is
refusal_of (Err (over.Run halt.NoMemory)) is = is
refusal_of (Err (over.Run halt.ReadFault)) is = is
refusal_of (Err (over.Run halt.WriteFault)) is = is
refusal_of (Err (over.Run halt.StoreFault)) is = is
refusal_of (Err (over.Run (halt.BadRow place))) is = is
refusal_of (Err (over.Run (halt.Full full))) is = is
refusal_of (Err (over.Run (halt.Unwritten full))) is = is
refusal_of (Err (over.BadStore place)) is = is
refusal_of (Err (over.WrongMode kept want)) is = is
refusal_of (Err (over.ShortLog taken had)) is = is

-- a run that keeps its rows in memory refuses none
pub refuses_nothing : (r : Result Unit Halt) → RefusesAStore (status_for r) → ⊥
refuses_nothing (Ok t) is = is
refuses_nothing (Err halt.NoMemory) is = is
refuses_nothing (Err halt.ReadFault) is = is
refuses_nothing (Err halt.WriteFault) is = is
refuses_nothing (Err halt.StoreFault) is = is
refuses_nothing (Err (halt.BadRow place)) is = is
refuses_nothing (Err (halt.Full full)) is = is
refuses_nothing (Err (halt.Unwritten full)) is = is
