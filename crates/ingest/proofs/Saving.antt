-- What a commit leaves on the disk, as the history of an engine.
use Rattle.std.proofs.Common.{◌≡◌, ◌∙◌, ◌++◌, ◌∷◌, [], sym, ap, subst, inl, inr, ℕ, true, List, length, Some, arith}
use Rattle.std.specs.Prelude.{◌⊎◌, ⊤, Result, Ok, Err, OnOk, IsErrOf, map}
use Rattle.std.specs.Option.{option_map}
use Rattle.std.specs.List.{All, AllByRecursion, AllZip}
use Rattle.std.proofs.lemmas.List.Elements.{All-from_recursion, recursion_from_All}
use Rattle.flow_base.specs.declared.limits.Full.{Full}
use Rattle.flow_base.specs.declared.limits.Limit.TheVariants.{Payload}
use Rattle.flow_base.specs.declared.limits.Limits.{Limits}
use Rattle.name_text.specs.Addresses.{text_of}
use Rattle.outside.specs.Disk.{DiskState, IsDisk, IsDurable, LeavesOnly}
use Rattle.acts.specs.Admitted.{Admitted}
use Rattle.acts.specs.Flows.{acts_of}
use Rattle.acts.specs.declared.act.Taken.{Taken}
use Rattle.audit_lex.specs.History.{History}
use Rattle.batch_log.specs.Batches.{IsStore, IsBeforeOrAfter}
use Rattle.batch_log.specs.Log.{Log, LogHas, passed}
use Rattle.batch_log.specs.OneReading.{OneList}
use Rattle.batch_log.specs.declared.log.CommitFault.{CommitFault}
use Rattle.batch_log.specs.declared.log.CommitFault.TheVariants as commit
use Rattle.kept_flows.specs.Committing.{CommitsRows}
use Rattle.reach_model.specs.declared.modes.Mode.{Mode}
use Rattle.reach_model.specs.Rows.{Row, Keeps}
use Rattle.record_join.specs.StandsFor.{Joiner}
use Rattle.row_codec.specs.Payload.{IsPayload}
use Rattle.row_codec.specs.Rows.{CanBeSpelled, Fits as FitsRow}
use Rattle.row_codec.specs.declared.rows.StoreRow.{StoreRow}
use Rattle.row_codec.specs.declared.state.StateRow.{StateRow}
use Rattle.reduced_store.specs.Committing.{CommitsByRows, other_rows, rows_at_end}
use Rattle.reduced_store.specs.OnDisk.{LeadsOn, OnDisk, payload_between, rows_between, rows_since, seen_rows}
use Rattle.row_codec.specs.declared.rows.StoreRow.TheVariants.{Entity}
use Rattle.stored.specs.Moment.{state_at}
use Rattle.ingest.specs.Asking.{StandsStill}
use Rattle.ingest.specs.Clocks.{IsClockOf}
use Rattle.ingest.specs.Committing.{ArePut, AreAround, Lead}
use Rattle.ingest.specs.Events.{taken_in, flows_in, events_of}
use Rattle.ingest.specs.GoingOn.{StaysJoined}
use Rattle.ingest.specs.PartTaken.{StandsWith}
use Rattle.ingest.specs.Parts.{Engine, Reader}
use Rattle.ingest.specs.Saving.{AddsOne, IsSaved, IsEither, LeavesEither, PassesFull, Saves}
use Rattle.ingest.specs.StandsFor.{ReaderStandsFor, WhereRead}
use Rattle.ingest.specs.Storing.{HasSince, IsCommitFor, IsStoreFor, StoresHistory, moment_of}
use Rattle.ingest.proofs.Following.{EventsAdmitted, admitted_in}
use Rattle.ingest.proofs.Told.{told_by}

-- ---- the laws

-- a history goes on with the acts of its first part
abbrev pub ActsGoOn : Type 0
ActsGoOn = (limits : Limits) (h more : History) (before part : ℕ) → HasSince (moment_of limits h before) (moment_of limits (h ++ more) part)

-- the bytes after a commit are a store of the later history
abbrev pub BytesFollow : Type 0 → Type 0
BytesFollow K = (limits : Limits) (mode : Mode) (engine : Engine K) (h more : History) (before part : ℕ) (bytes after payload : List ℕ) (rows : List StoreRow)
    → StandsWith limits engine (h ++ more) part → (s : IsStoreFor limits mode bytes h before) → IsCommitFor limits mode h before (h ++ more) part rows → IsPayload mode rows payload
    → IsStore limits.payload (s.payloads ++ payload ∷ []) after → IsStoreFor limits mode after (h ++ more) part

-- ---- the rows of the batch

-- what a commit knows of its engine: the State, the rows around those of flows, and the mode
pub record HasParts {K : Type 0} (mode : Mode) (engine : Engine K) (entities others : List StoreRow) : Type 0 where
  pub state : StateRow
  pub said : WhereRead engine.reader engine.joined (λ limits h. state ≡ state_at (moment_of limits h engine.part))
  pub put : ArePut engine.joined.limits.names engine.joined.tables engine.joined.join state entities others
  pub mode_is : engine.joined.kept.mode ≡ mode

-- the rows that were put, as slices
pub has_parts : {K : Type 0} (mode : Mode) (engine : Engine K) (state : StateRow) (put others_put entities others : List StoreRow)
    → WhereRead engine.reader engine.joined (λ limits h. state ≡ state_at (moment_of limits h engine.part))
    → ArePut engine.joined.limits.names engine.joined.tables engine.joined.join state put others_put
    → entities ≡ put → others ≡ others_put → engine.joined.kept.mode ≡ mode → HasParts mode engine entities others
has_parts mode engine state put others_put entities others said are front back mode_is = record {
  state = state;
  said = said;
  put = subst (λ (l : List StoreRow). ArePut engine.joined.limits.names engine.joined.tables engine.joined.join state l others) (sym front)
      (subst (λ (l : List StoreRow). ArePut engine.joined.limits.names engine.joined.tables engine.joined.join state put l) (sym back) are);
  mode_is = mode_is;
}

-- the kept flows are those of the store
abbrev pub HasOwn : {D : Type 0} → (D → DiskState) → Engine (OnDisk D) → Type 0
HasOwn state engine = engine.joined.kept.told ≡ seen_rows state engine.joined.keep

-- what the kept flows and the rows since the last commit have to do with the store
pub record HasRows {D : Type 0} (state : D → DiskState) (engine : Engine (OnDisk D)) : Type 0 where
  pub disks : (disk : D) → IsDisk (state disk)
  pub own : HasOwn state engine
  pub leads : (state engine.joined.keep.disk).told → LeadsOn engine.joined.keep

module _ {K : Type 0} (mode : Mode) (engine : Engine K) (entities others : List StoreRow) (parts : HasParts mode engine entities others)
    (limits : Limits) (h more : History) (before part : ℕ) (has : StandsWith limits engine (h ++ more) part) where
  -- the kept rows are those of the flows
  rows_kept : Keeps mode (flows_in limits (events_of limits (h ++ more))) has.stands.joined.kept_are.rows
  rows_kept =
      let kept = has.stands.joined.kept_are in
      subst (λ (m : Mode). Keeps m (flows_in limits (events_of limits (h ++ more))) kept.rows) parts.mode_is kept.keeps

  -- the rows between are those of the commit, if the tables have their mark after the acts that were saved
  rows_around : (saved now : List Row) → ActsGoOn → EventsAdmitted → CommitsByRows
      → engine.joined.tables.marked ≡ Some (length (taken_in limits (events_of limits h)))
      → Keeps mode (flows_in limits (events_of limits h)) saved → Keeps mode (flows_in limits (events_of limits (h ++ more))) now
      → IsCommitFor limits mode h before (h ++ more) part (entities ++ (rows_since saved now ++ others))
  rows_around saved now since admitted by_rows marked saved_kept now_kept =
      let joined = has.stands.joined in
      let m0 = moment_of limits h before in
      let m = moment_of limits (h ++ more) part in
      let goes = since limits h more before part in
      let lead : Lead text_of engine.joined.tables engine.joined.join parts.state m0 m = record {
        now = goes.0;
        goes_on = goes.1;
        tables_are = joined.marked.since m0.taken goes.0 goes.1 marked;
        admitted = subst (λ (l : List Taken). Admitted (acts_of l)) goes.1 (admitted_in admitted limits (events_of limits (h ++ more)));
        limits = limits;
        join_is = joined.join;
        state_is = parts.said limits (h ++ more) has.stands.reader joined ∙ ap (λ (n : ℕ). state_at (moment_of limits (h ++ more) n)) has.has_part.counted;
      } in
      let around : AreAround text_of limits.names m0 m entities others = subst (λ (l : Limits). AreAround text_of l.names m0 m entities others) joined.limits_are (parts.put text_of m0 m lead) in
      let commits = by_rows text_of limits.names mode m0 m saved now around.batch around.groups around.parts saved_kept now_kept around.waiting in
      let rows : List StoreRow = rows_since saved now in
      let made : List StoreRow = map Entity around.batch.entities ++ (rows ++ (other_rows around.batch ++ rows_at_end m around.groups)) in
      let are : made ≡ entities ++ (rows ++ others) = (λ i. sym {b = map Entity around.batch.entities} around.entities_are i ++ (rows ++ sym {b = other_rows around.batch ++ rows_at_end m around.groups} around.others_are i)) in
      subst (λ (l : List StoreRow). IsCommitFor limits mode h before (h ++ more) part l) {x = made} are commits

module _ {D : Type 0} (state : D → DiskState) (mode : Mode) (engine : Engine (OnDisk D)) (entities others : List StoreRow) (parts : HasParts mode engine entities others) (has_rows : HasRows state engine)
    (limits : Limits) (h more : History) (before part : ℕ) (has : StandsWith limits engine (h ++ more) part) (saved : IsSaved state limits mode engine h before) where
  told_now : ((state engine.joined.keep.disk).tells ≡ true) × (engine.joined.keep.rows.rows ≡ has.stands.joined.kept_are.rows)
  told_now = told_by _ _ _ (sym has_rows.own ∙ has.stands.joined.kept_are.told)

  -- the rows are those of the flows
  pub now_kept : Keeps mode (flows_in limits (events_of limits (h ++ more))) engine.joined.keep.rows.rows
  now_kept =
      subst (λ (R : List Row). Keeps mode (flows_in limits (events_of limits (h ++ more))) R) (sym told_now.1)
      (rows_kept mode engine entities others parts limits h more before part has)

  pub batch_rows : ActsGoOn → EventsAdmitted → CommitsByRows → IsCommitFor limits mode h before (h ++ more) part (rows_between engine.joined.keep entities others)
  batch_rows since admitted by_rows =
      let leads = has_rows.leads ((has_rows.disks engine.joined.keep.disk).told_is.1 told_now.0) in
      subst (λ (l : List StoreRow). IsCommitFor limits mode h before (h ++ more) part (entities ++ (l ++ others))) (sym leads)
      (rows_around mode engine entities others parts limits h more before part has engine.joined.keep.saved engine.joined.keep.rows.rows since admitted by_rows saved.marked saved.saved now_kept)

-- ---- after the commit

no_batch : (mode : Mode) (payloads : List (List ℕ)) (payload : List ℕ) → AllZip (IsPayload mode) [] (payloads ++ payload ∷ []) → ⊥
no_batch mode [] payload none = none
no_batch mode (p ∷ payloads) payload none = none

-- bytes with a batch more, which are a store of the history, store it
pub stores_now : {K : Type 0} (limits : Limits) (mode : Mode) (engine : Engine K) (h : History) (part : ℕ) (bytes payload : List ℕ) (payloads : List (List ℕ)) → OneList
    → StandsWith limits engine h part → IsStoreFor limits mode bytes h part → IsStore limits.payload (payloads ++ payload ∷ []) bytes → StoresHistory limits mode bytes h part
stores_now limits mode engine h part bytes payload payloads one has store is = record {
  store = store;
  fits = has.stands.fits;
  within = has.has_part.within;
  begun = λ none.
      let same : store.payloads ≡ payloads ++ payload ∷ [] = one limits.payload store.payloads (payloads ++ payload ∷ []) bytes limits.payload_within store.store is in
      absurd (no_batch mode payloads payload (subst (λ (ps : List (List ℕ)). AllZip (IsPayload mode) [] ps) same (subst (λ (bs : List (List StoreRow)). AllZip (IsPayload mode) bs store.payloads) none store.spelled)));
}

-- a store of the history with the log of its batches and no other images is one where the history is saved
pub saved_so : {D : Type 0} (state : D → DiskState) (limits : Limits) (mode : Mode) (engine : Engine (OnDisk D)) (h : History) (part : ℕ) (payloads : List (List ℕ)) → OneList
    → StoresHistory limits mode (state engine.joined.keep.disk).reads h part → LogHas engine.joined.keep.log payloads (state engine.joined.keep.disk).reads → IsDurable (state engine.joined.keep.disk)
    → engine.joined.keep.log.most ≡ limits.payload → engine.joined.keep.log.end ≡ limits.store → Keeps mode (flows_in limits (events_of limits h)) engine.joined.keep.saved
    → engine.joined.tables.marked ≡ Some (length (taken_in limits (events_of limits h))) → IsSaved state limits mode engine h part
saved_so state limits mode engine h part payloads one stores has durable most end saved marked =
    let store = stores.store in
    let log = engine.joined.keep.log in
    let reads = (state engine.joined.keep.disk).reads in
    let is : IsStore limits.payload payloads reads = subst (λ (n : ℕ). IsStore n payloads reads) most (log.last, has) in
    let same : payloads ≡ store.payloads = one limits.payload payloads store.payloads reads limits.payload_within is store.store in
    let whole : LogHas log store.payloads reads = subst (λ (ps : List (List ℕ)). LogHas log ps reads) same has in
    record {
      stores = stores;
      log = whole;
      image = λ c left. subst (λ (b : List ℕ). LogHas log store.payloads b) (sym (durable c left)) whole;
      most = most;
      end = end;
      saved = saved;
      marked = marked;
    }

spelled : (r : Result ⊤ CommitFault) (P : Type 0) → (IsErrOf r commit.NoMemory → ⊥) → IsErrOf r commit.NoMemory ⊎ P → P
spelled r P none (inl no_memory) = absurd (none no_memory)
spelled r P none (inr p) = p

-- after the commit all of the history is saved
pub saves_now : {D : Type 0} (state : D → DiskState) (faults : D → ℕ) (spent : D → Type 0) (mode : Mode) (old new : Engine (OnDisk D)) (entities others : List StoreRow) (r : Result ⊤ CommitFault)
    → ActsGoOn → EventsAdmitted → CommitsByRows → OneList → BytesFollow (OnDisk D)
    → HasParts mode old entities others → HasRows state old → CommitsRows state faults spent mode entities others old.joined.keep new.joined.keep r
    → OnOk r (new.joined.tables.marked ≡ option_map (λ _. old.joined.tables.acts) old.joined.tables.marked)
    → (state old.joined.keep.disk).told → OnOk r (Saves state mode old new)
saves_now state faults spent mode old new entities others (Ok done) since admitted by_rows one follow parts its commits marked told = λ limits h more before part has saved.
    let payload = payload_between old.joined.keep mode entities others in
    let rows = batch_rows state mode old entities others parts its limits h more before part has saved since admitted by_rows in
    let most : new.joined.keep.log.most ≡ limits.payload = ap (λ (l : Log). l.most) commits.log ∙ saved.most in
    let end : new.joined.keep.log.end ≡ limits.store = ap (λ (l : Log). l.end) commits.log ∙ saved.end in
    let store = saved.stores.store in
    let adds : LogHas new.joined.keep.log (store.payloads ++ payload ∷ []) (state new.joined.keep.disk).reads = commits.adds told store.payloads saved.log in
    let is : IsStore limits.payload (store.payloads ++ payload ∷ []) (state new.joined.keep.disk).reads =
    subst (λ (n : ℕ). IsStore n (store.payloads ++ payload ∷ []) (state new.joined.keep.disk).reads) most (new.joined.keep.log.last, adds) in
    let later = follow limits mode old h more before part _ _ payload _ has store rows (spelled (Ok done) _ (λ none. cc none) commits.payload) is in
    saved_so state limits mode new (h ++ more) part (store.payloads ++ payload ∷ []) one (stores_now limits mode old (h ++ more) part _ payload store.payloads one has later is) adds commits.durable most end
    (subst (λ (R : List Row). Keeps mode (flows_in limits (events_of limits (h ++ more))) R) (sym (commits.saved ∙ commits.rows)) (now_kept state mode old entities others parts its limits h more before part has saved))
    (marked ∙ ap (option_map (λ _. old.joined.tables.acts)) saved.marked ∙ ap (λ (n : ℕ). Some n) has.stands.joined.tables.acts_are)
saves_now state faults spent mode old new entities others (Err why) since admitted by_rows one follow parts its commits marked told = tt

-- ---- at each moment

leaves_weaker : (old new : DiskState) (P Q : List ℕ → Type 0) → ((c : List ℕ) → P c → Q c) → LeavesOnly old new P → LeavesOnly old new Q
leaves_weaker old new P Q f left = record {
  later = left.later;
  each = λ c at. f c (left.each c at);
  before = λ t c low at. by c (left.before t c low at);
}
  where
    by : {A : Type 0} (c : List ℕ) → A ⊎ P c → A ⊎ Q c
    by c (inl a) = inl a
    by c (inr p) = inr (f c p)

-- bytes with the same batches store the same
pub stores_again : (limits : Limits) (mode : Mode) (bytes again : List ℕ) (h : History) (part : ℕ) → (s : StoresHistory limits mode bytes h part) → IsStore limits.payload s.store.payloads again → StoresHistory limits mode again h part
stores_again limits mode bytes again h part s is = record {
  store = record { batches = s.store.batches; payloads = s.store.payloads; spelled = s.store.spelled; store = is; stored = s.store.stored };
  fits = s.fits;
  within = s.within;
  begun = s.begun;
}

-- where nothing is written a crash leaves what was saved
pub leaves_still : {D : Type 0} (state : D → DiskState) (mode : Mode) (old new : Engine (OnDisk D)) → ((disk : D) → IsDisk (state disk)) → new.joined.keep ≡ old.joined.keep → LeavesEither state mode old new
leaves_still {D} state mode old new disks same = λ limits h more before part has saved.
    let now = state old.joined.keep.disk in
    subst (λ (s : OnDisk D). LeavesOnly now (state s.disk) (IsEither limits mode h more before part)) (sym same)
    (record {
      later = omega arith;
      each = λ c left. inl (stores_again limits mode _ c h before saved.stores
          (subst (λ (n : ℕ). IsStore n saved.stores.store.payloads c) saved.most (old.joined.keep.log.last, saved.image c ((disks old.joined.keep.disk).only_now c left))));
      before = λ t c low left. inl left;
    })

-- a commit that was refused adds no batch
pub adds_none : {D : Type 0} (state : D → DiskState) (old new : Engine (OnDisk D)) → ((disk : D) → IsDisk (state disk)) → new.joined.keep ≡ old.joined.keep → AddsOne state old new
adds_none {D} state old new disks same = λ payloads each.
    let now = state old.joined.keep.disk in
    let log = old.joined.keep.log in (
      [],
      subst (λ (s : OnDisk D). LeavesOnly now (state s.disk) (IsBeforeOrAfter log.most payloads [])) (sym same)
          (record {
            later = omega arith;
            each = λ c left. inl (log.last, each c ((disks old.joined.keep.disk).only_now c left));
            before = λ t c low left. inl left;
          }),
    )

-- at any moment of the commit a crash leaves a store of what was saved, or of all
module _ {D : Type 0} (state : D → DiskState) (faults : D → ℕ) (spent : D → Type 0) (mode : Mode) (old new : Engine (OnDisk D)) (entities others : List StoreRow)
    (since : ActsGoOn) (admitted : EventsAdmitted) (by_rows : CommitsByRows) (one : OneList) (follow : BytesFollow (OnDisk D)) (parts : HasParts mode old entities others) (its : HasRows state old) (told : (state old.joined.keep.disk).told) where
  leaves_by : (r : Result ⊤ CommitFault) → (IsErrOf r commit.NoMemory → ⊥) → CommitsRows state faults spent mode entities others old.joined.keep new.joined.keep r → LeavesEither state mode old new
  leaves_by r memory commits = λ limits h more before part has saved.
      let payload = payload_between old.joined.keep mode entities others in
      let rows = batch_rows state mode old entities others parts its limits h more before part has saved since admitted by_rows in
      let store = saved.stores.store in
      let either : (c : List ℕ) → IsBeforeOrAfter old.joined.keep.log.most store.payloads payload c → IsEither limits mode h more before part c = λ c left.
      by_which limits mode h more before part has saved rows payload (spelled r _ memory commits.payload) c (subst (λ (n : ℕ). IsBeforeOrAfter n store.payloads payload c) saved.most left) in
      leaves_weaker _ _ (IsBeforeOrAfter old.joined.keep.log.most store.payloads payload) (IsEither limits mode h more before part) either (commits.any_moment told store.payloads saved.image)
    where
      by_which : (limits : Limits) (mode : Mode) (h more : History) (before part : ℕ) → StandsWith limits old (h ++ more) part → (saved : IsSaved state limits mode old h before) → {rows : List StoreRow} → IsCommitFor limits mode h before (h ++ more) part rows
          → (payload : List ℕ) → IsPayload mode rows payload → (c : List ℕ) → IsBeforeOrAfter limits.payload saved.stores.store.payloads payload c → IsEither limits mode h more before part c
      by_which limits mode h more before part has saved rows_are payload spells c (inl same) = inl (stores_again limits mode _ c h before saved.stores same)
      by_which limits mode h more before part has saved rows_are payload spells c (inr added) =
          inr (stores_now limits mode old (h ++ more) part c payload saved.stores.store.payloads one has (follow limits mode old h more before part _ c payload _ has saved.stores.store rows_are spells added) added)

  pub leaves_now : ((disk : D) → IsDisk (state disk)) → (r : Result ⊤ CommitFault) → CommitsRows state faults spent mode entities others old.joined.keep new.joined.keep r → LeavesEither state mode old new
  leaves_now disks (Ok done) commits = leaves_by (Ok done) (λ none. cc none) commits
  leaves_now disks (Err commit.StoreFault) commits = leaves_by (Err commit.StoreFault) (λ none. cc none) commits
  leaves_now disks (Err (commit.Full full)) commits = leaves_by (Err (commit.Full full)) (λ none. cc none) commits
  leaves_now disks (Err commit.NoMemory) commits = leaves_still state mode old new disks (commits.refused tt)

-- ---- limits

-- a limit that refused the batch is one that it passes
pub passes_now : {D : Type 0} (state : D → DiskState) (faults : D → ℕ) (spent : D → Type 0) (mode : Mode) (old new : Engine (OnDisk D)) (entities others : List StoreRow) (r : Result ⊤ CommitFault) (full : Full)
    → ActsGoOn → EventsAdmitted → CommitsByRows → HasParts mode old entities others → HasRows state old → CommitsRows state faults spent mode entities others old.joined.keep new.joined.keep r → r ≡ Err (commit.Full full) → PassesFull state mode old full
passes_now state faults spent mode old new entities others r full since admitted by_rows parts its commits is = λ limits h more before part has saved.
    let payload = payload_between old.joined.keep mode entities others in
    let rows = batch_rows state mode old entities others parts its limits h more before part has saved since admitted by_rows in
    let passes = (spelled r _ (λ none. cc (sym none ∙ is)) (commits.full full)).0 is in (
      rows_between old.joined.keep entities others,
      rows,
      record {
        spelled = λ p spells. ap (λ (l : List ℕ). passed old.joined.keep.log (length l)) spells.is ∙ passes;
        unspelled = λ never. absurd (never payload (spelled r _ (λ none. cc (sym none ∙ is)) commits.payload));
      },
    )

every_front : {A : Type 0} (P : A → Type 0) (xs ys : List A) → AllByRecursion P (xs ++ ys) → AllByRecursion P xs
every_front P [] ys all = tt
every_front P (x ∷ xs) ys all = (all.0, every_front P xs ys all.1)

every_back : {A : Type 0} (P : A → Type 0) (xs ys : List A) → AllByRecursion P (xs ++ ys) → AllByRecursion P ys
every_back P [] ys all = all
every_back P (x ∷ xs) ys all = every_back P xs ys all.1

-- rows that can't be spelled are in no payload
pub passes_unspelled : {D : Type 0} (state : D → DiskState) (mode : Mode) (old : Engine (OnDisk D)) (entities others : List StoreRow) (full : Full)
    → ActsGoOn → EventsAdmitted → CommitsByRows → ((rows : List StoreRow) → All FitsRow rows → All CanBeSpelled rows) → HasParts mode old entities others
    → (All CanBeSpelled entities × All CanBeSpelled others → ⊥) → full ≡ record { limit = Payload; number = old.reader.limits.payload } → PassesFull state mode old full
passes_unspelled state mode old entities others full since admitted by_rows fitting parts none is = λ limits h more before part has saved.
    let now = has.stands.joined.kept_are.rows in
    let inner : List StoreRow = rows_since old.joined.keep.saved now in
    let rows = rows_around mode old entities others parts limits h more before part has old.joined.keep.saved now since admitted by_rows saved.marked saved.saved
    (rows_kept mode old entities others parts limits h more before part has) in (
      entities ++ (inner ++ others),
      rows,
      record {
        spelled = λ p spells.
            let all = recursion_from_All CanBeSpelled (entities ++ (inner ++ others)) (fitting _ spells.fit) in
            absurd (none (
              All-from_recursion CanBeSpelled entities (every_front CanBeSpelled entities (inner ++ others) all),
              All-from_recursion CanBeSpelled others (every_back CanBeSpelled inner others (every_back CanBeSpelled entities (inner ++ others) all)),
            ));
        unspelled = λ never. is ∙ ap (λ (n : ℕ). record { limit = Payload; number = n }) (ap (λ (l : Limits). l.payload) has.stands.reader.limits_are ∙ sym saved.most);
      },
    )

-- the limit that a commit names
pub named : (full : Full) (seen own : Limits) → seen ≡ own
    → ◌≡◌ {A = Result ⊤ CommitFault} (Err (commit.Full record { limit = Payload; number = seen.payload })) (Err (commit.Full full)) → full ≡ record { limit = Payload; number = own.payload }
named full seen own same is =
    let by : ◌≡◌ {A = Full} record { limit = Payload; number = seen.payload } full = cc is in
    sym by ∙ ap (λ (l : Limits). record { limit = Payload; number = l.payload }) same

-- ---- what stays

-- joined parts that stand for the same are those of an engine that does
pub still_stands : {K : Type 0} (old new : Engine K) → new.reader ≡ old.reader → new.joined.join ≡ old.joined.join → StaysJoined old.joined new.joined → StandsStill old new
still_stands old new same join stays = record {
  stands = λ limits h stands. record {
    reader = subst (λ (r : Reader). ReaderStandsFor limits r h) (sym same) stands.reader;
    joined = stays limits _ _ stands.joined;
    fits = stands.fits;
  };
  owes = λ limits h owes. record {
    reader = subst (λ (r : Reader). ReaderStandsFor limits r h) (sym same) owes.reader;
    rest = owes.rest;
    done = owes.done;
    joined = stays limits _ _ owes.joined;
    events_are = owes.events_are;
    left_is = owes.left_is;
    clock = subst (λ (j : Joiner). IsClockOf limits j.clock h owes.done) (sym join) owes.clock;
    within = owes.within;
  };
}
