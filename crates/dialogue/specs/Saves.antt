-- What a run puts on the disk of a store as it goes, and what a crash may leave of it.
use Rattle.std.specs.Prelude.{◌≡◌, ◌⊎◌, ◌≤◌, ⊤, ℕ, ◌+◌, ◌*◌, List, [], ◌∷◌, ◌++◌, flat_map, length, take, drop, Option, None, Some, Result, Ok, Err}
use Rattle.flow_base.specs.declared.limits.Full.{Full}
use Rattle.flow_base.specs.declared.limits.Limits.{Limits}
use Rattle.outside.specs.Cause.{Rose}
use Rattle.outside.specs.Disk.{DiskState, IsDurable, LeavesOnly, UsesDisk}
use Rattle.audit_lex.specs.History.{History, Step, Byte, Settle}
use Rattle.batch_log.specs.Batches.{IsStore}
use Rattle.batch_log.specs.Log.{Log}
use Rattle.reach_model.specs.declared.modes.Mode.{Mode}
use Rattle.reach_model.specs.Rows.{Row}
use Rattle.row_codec.specs.declared.rows.StoreRow.{StoreRow}
use Rattle.reduced_store.specs.OnDisk.{OnDisk}
use Rattle.ingest.specs.Counting.{bytes_in}
use Rattle.ingest.specs.Parts.{Engine}
use Rattle.ingest.specs.PartTaken.{HasPart}
use Rattle.ingest.specs.Saving.{IsSaved, PassesWith}
use Rattle.ingest.specs.StandsFor.{StandsFor}
use Rattle.ingest.specs.Storing.{IsCommitFor, StoresHistory}
use Rattle.dialogue.specs.declared.halt.Halt.{Halt}
use Rattle.dialogue.specs.declared.halt.Halt.TheVariants as halt
use Rattle.dialogue.specs.Dialogue.{Moment, settled_on, taken_on}
use Rattle.dialogue.specs.Course.{CountsOn}

-- From what a run over a log began: the history that was on the disk, with this many bytes of its part of a log; how many bytes were
-- taken of this part, and what was left of its log
pub record Begun : Type 0 where
  pub history : History
  pub before : ℕ
  pub part : ℕ
  pub log : List ℕ

-- the same with the rows of the run
pub record Start (K : Type 0) : Type 0 where
  pub begun : Begun
  pub rows : K

-- the byte of a step, if it has one
abbrev pub byte_of : Step → List ℕ
byte_of (Byte b) = b ∷ []
byte_of Settle = []

-- the bytes of a history
abbrev pub bytes_of : History → List ℕ
bytes_of h = flat_map byte_of h

-- what came since the begin
abbrev pub since : Begun → Moment → History
since begun m = drop (length begun.history) m.history

-- the moment is one of this log: what came since the begin has the bytes of the log, up to what is left of it
pub record IsOf (begun : Begun) (m : Moment) : Type 0 where
  pub goes_on : m.history ≡ begun.history ++ since begun m
  pub bytes : bytes_of (since begun m) ++ m.log ≡ begun.log

-- the bytes store a prefix of what came since the begin
pub record StoresFront (limits : Limits) (mode : Mode) (begun : Begun) (steps : History) (bytes : List ℕ) : Type 0 where
  pub first : History
  pub more : History
  pub parts : steps ≡ first ++ more
  pub stores : StoresHistory limits mode bytes (begun.history ++ first) (begun.part + bytes_in first)

-- the bytes store what was on the disk at the begin, or a prefix of what came since
abbrev pub IsReached : Limits → Mode → Begun → (steps : History) → List ℕ → Type 0
IsReached limits mode begun steps bytes =
    StoresHistory limits mode bytes begun.history begun.before ⊎ StoresFront limits mode begun steps bytes

-- After a history that was put away, all that had come at some moment up to these steps would go to the disk in one batch. The
-- batch of its rows would pass this limit
pub record PassesStore (limits : Limits) (mode : Mode) (begun : Begun) (steps : History) (full : Full) : Type 0 where
  pub earlier : History
  pub before : ℕ
  pub first : History
  pub more : History
  pub parts : steps ≡ first ++ more
  pub rows : List StoreRow
  pub commit : IsCommitFor limits mode earlier before (begun.history ++ first) (begun.part + bytes_in first) rows
  pub log : Log
  pub most : log.most ≡ limits.payload
  pub end : log.end ≡ limits.store
  pub passes : PassesWith mode log rows full

-- At this moment a first part of the history is saved, and a crash since the start has left nothing but what was there, or a prefix
-- of what came since
pub record IsPutAway {D : Type 0} (state : D → DiskState) (start : Start (OnDisk D)) (limits : Limits) (engine : Engine (OnDisk D)) (m : Moment) : Type 0 where
  pub moment : IsOf start.begun m
  pub has_part : HasPart engine m.history (start.begun.part + bytes_in (since start.begun m))
  pub told : (state engine.joined.keep.disk).told
  pub first : History
  pub more : History
  pub saved_part : ℕ
  pub parts : m.history ≡ first ++ more
  pub saved : IsSaved state limits m.mode engine first saved_part
  pub reached : (bytes : List ℕ) → StoresHistory limits m.mode bytes first saved_part → IsReached limits m.mode start.begun (since start.begun m) bytes
  pub leaves : LeavesOnly (state start.rows.disk) (state engine.joined.keep.disk) (IsReached limits m.mode start.begun (since start.begun m))

-- all that came up to this moment is on the disk, and a crash now leaves it so
pub record IsAllPutAway {D : Type 0} (state : D → DiskState) (start : Start (OnDisk D)) (limits : Limits) (rows : OnDisk D) (m : Moment) : Type 0 where
  pub moment : IsOf start.begun m
  pub stores : StoresHistory limits m.mode (state rows.disk).reads m.history (start.begun.part + bytes_in (since start.begun m))
  pub durable : IsDurable (state rows.disk)

-- A run halted for this cause before this moment. A crash since the start has left nothing but what was there, or a prefix of what
-- would have come up to it. If a limit on the store is named, a batch would have passed it
pub record IsCutShort {D : Type 0} (state : D → DiskState) (start : Start (OnDisk D)) (limits : Limits) (rows : OnDisk D) (m : Moment) (why : Halt) : Type 0 where
  pub moment : IsOf start.begun m
  pub leaves : LeavesOnly (state start.rows.disk) (state rows.disk) (IsReached limits m.mode start.begun (since start.begun m))
  pub passes : (full : Full) → why ≡ halt.Unwritten full → PassesStore limits m.mode start.begun (since start.begun m) full

-- What a run lacks on its disk

-- all but at most this many of these bytes are left, and no more than there were
pub record LeavesAllBut (most : ℕ) (bytes : List ℕ) (left : Option (List ℕ)) : Type 0 where
  pub rest : List ℕ
  pub told : left ≡ Some rest
  pub few : length bytes ≤ length rest + most
  pub no_more : length rest ≤ length bytes

-- as many as a call says, or as many as it could have been
abbrev pub count_of : {E : Type 0} → Result ℕ E → (most : ℕ) → ℕ
count_of (Ok n) most = n
count_of (Err e) most = most

-- as many as came since the last save, or a batch of them if the run halted
abbrev pub lack_of : {T E : Type 0} → Result T E → (unsaved batch : ℕ) → ℕ
lack_of (Ok t) unsaved batch = unsaved
lack_of (Err e) unsaved batch = batch

-- Whatever history a crash now would leave, at most this many of the bytes are missing from it that came before what is left of the log
abbrev pub LacksAtMost : Limits → Mode → Begun → DiskState → (left : Option (List ℕ)) → (most : ℕ) → Type 0
LacksAtMost limits mode begun disk left most = (bytes : List ℕ) (h : History) (part : ℕ) (rest : List ℕ)
    → disk.image bytes → StoresHistory limits mode bytes h part → left ≡ Some rest
    → bytes_in begun.history + length begun.log ≤ bytes_in h + length rest + most

-- the same of the disk of a store
abbrev pub LacksInStore : {D : Type 0} → (D → DiskState) → Start (OnDisk D) → Limits → Mode → OnDisk D → (left : Option (List ℕ)) → (most : ℕ) → Type 0
LacksInStore state start limits mode rows left most = LacksAtMost limits mode start.begun (state rows.disk) left most

-- rows in memory lack nothing, since nothing is saved
abbrev pub lacks_nothing : {K : Type 0} → Start K → Limits → Mode → K → (left : Option (List ℕ)) → (most : ℕ) → Type 0
lacks_nothing start limits mode rows left most = ⊤

-- How what is said of lacking belongs together. It stays while the rows are alike. What is read of a log is lacking as well. And who
-- lacks no more than some bytes lacks no more than more of them.
pub record LacksLawfully {K : Type 0} (alike : K → K → Type 0) (lacks : Start K → Limits → Mode → K → Option (List ℕ) → ℕ → Type 0) : Type 0 where
  pub same : (start : Start K) (limits : Limits) (mode : Mode) (a b : K) (left : Option (List ℕ)) (n : ℕ) → alike a b
      → lacks start limits mode a left n → lacks start limits mode b left n
  pub reads : (start : Start K) (limits : Limits) (mode : Mode) (rows : K) (bytes rest : List ℕ) (n k : ℕ) → length bytes ≤ length rest + k
      → lacks start limits mode rows (Some bytes) n → lacks start limits mode rows (Some rest) (n + k)
  pub more : (start : Start K) (limits : Limits) (mode : Mode) (rows : K) (left : Option (List ℕ)) (n k : ℕ) → n ≤ k
      → lacks start limits mode rows left n → lacks start limits mode rows left k

-- What a run adds to its disk

-- whatever batches the first disk has, as it reads, the second one has them, and at most this many after them
abbrev pub AddsAtMost : Limits → (disk after : DiskState) → (most : ℕ) → Type 0
AddsAtMost limits disk after most = (payloads : List (List ℕ)) → IsStore limits.payload payloads disk.reads
    → (more : List (List ℕ)) × IsStore limits.payload (payloads ++ more) after.reads × (length more ≤ most)

-- the same of the disk of a store, since the start, if it is observable
abbrev pub AddsToStore : {D : Type 0} → (D → DiskState) → Start (OnDisk D) → Limits → OnDisk D → (most : ℕ) → Type 0
AddsToStore state start limits rows most = (state rows.disk).told → AddsAtMost limits (state start.rows.disk) (state rows.disk) most

-- rows in memory add none
abbrev pub adds_nothing : {K : Type 0} → Start K → Limits → K → (most : ℕ) → Type 0
adds_nothing start limits rows most = ⊤

-- what was added stays so while the rows are alike
abbrev pub AddsLawfully : {K : Type 0} → (alike : K → K → Type 0) → (adds : Start K → Limits → K → ℕ → Type 0) → Type 0
AddsLawfully {K} alike adds = (start : Start K) (limits : Limits) (a b : K) (n : ℕ) → alike a b → adds start limits a n → adds start limits b n

-- Batches were added, and nothing else. They, at this many bytes a batch, with what isn't saved and what is left of the log are at most this many bytes
pub record KeepsPace {K : Type 0} (adds : K → ℕ → Type 0) (batch : ℕ) (rows : K) (unsaved : ℕ) (left : Option (List ℕ)) (most : ℕ) : Type 0 where
  pub added : ℕ
  pub adds_so : adds rows added
  pub rest : List ℕ
  pub told : left ≡ Some rest
  pub within : added * batch + unsaved + length rest ≤ most

-- no limit on a store is named
abbrev pub NamesNoStore : Halt → Type 0
NamesNoStore why = (full : Full) → why ≡ halt.Unwritten full → ⊥

-- a run halted for this cause before some moment of it
pub record CutShort {K : Type 0} (Ends : K → Moment → Halt → Type 0) (mode : Mode) (rows : K) (why : Halt) : Type 0 where
  pub to : Moment
  pub in_mode : to.mode ≡ mode
  pub ends : Ends rows to why

-- How what is said of saving belongs together. What may be saved still may, and what holds of a moment goes on to hold, while the rows
-- are alike and the tables have the same mark. What holds is what a halt leaves, and what a halt leaves at a moment it leaves at a
-- later one.
pub record SavesLawfully {K : Type 0} (alike : K → K → Type 0) (can : K → Type 0) (holds : Start K → Limits → Engine K → Moment → Type 0)
    (ends : Start K → Limits → K → Moment → Halt → Type 0) (uses rose : K → K → Type 0) : Type 0 where
  pub still_can : (a b : K) → alike a b → can a → can b
  pub takes_on : (start : Start K) (limits : Limits) (old new : Engine K) (m : Moment) (n : ℕ) → alike old.joined.keep new.joined.keep
      → new.joined.tables.marked ≡ old.joined.tables.marked → CountsOn old.part new.part (length (take n m.log)) → StandsFor limits new (taken_on n m).history
      → holds start limits old m → holds start limits new (taken_on n m)
  pub settles_on : (start : Start K) (limits : Limits) (old new : Engine K) (m : Moment) → alike old.joined.keep new.joined.keep
      → new.joined.tables.marked ≡ old.joined.tables.marked → new.part ≡ old.part → holds start limits old m → holds start limits new (settled_on m)
  pub stays : (start : Start K) (limits : Limits) (old new : Engine K) (m : Moment) → alike old.joined.keep new.joined.keep
      → new.joined.tables.marked ≡ old.joined.tables.marked → new.part ≡ old.part → holds start limits old m → holds start limits new m
  pub ends_so : (start : Start K) (limits : Limits) (engine : Engine K) (rows : K) (m : Moment) (why : Halt) → NamesNoStore why → alike engine.joined.keep rows
      → holds start limits engine m → ends start limits rows m why
  pub ends_later : (start : Start K) (limits : Limits) (rows : K) (m : Moment) (n : ℕ) (why : Halt) → ends start limits rows m why → ends start limits rows (taken_on n m) why
  pub ends_settled : (start : Start K) (limits : Limits) (rows : K) (m : Moment) (why : Halt) → ends start limits rows m why → ends start limits rows (settled_on m) why
  pub uses_same : (a b : K) → alike a b → uses a b
  pub uses_both : (a b c : K) → uses a b → uses b c → uses a c
  pub rose_after : (a b c : K) → uses a b → rose b c → rose a c
  pub rose_before : (a b c : K) → rose a b → uses b c → rose a c

-- rows in memory can always be saved, since nothing is done
abbrev pub can_always : {K : Type 0} → K → Type 0
can_always rows = ⊤

-- nothing more is said of rows in memory
abbrev pub nothing_at : {K : Type 0} → Engine K → Moment → Type 0
nothing_at engine m = ⊤

abbrev pub nothing_more : {K : Type 0} → Start K → Limits → Engine K → Moment → Type 0
nothing_more start limits = nothing_at

abbrev pub nothing_put : {K : Type 0} → Start K → Limits → K → Moment → Type 0
nothing_put start limits rows m = ⊤

abbrev pub nothing_cut : {K : Type 0} → Start K → Limits → K → Moment → Halt → Type 0
nothing_cut start limits rows m why = ⊤

-- nothing uses a disk, and no count of faults rises, if there is none
abbrev pub uses_none : {K : Type 0} → K → K → Type 0
uses_none a b = ⊤

abbrev pub rises_never : {K : Type 0} → K → K → Type 0
rises_never a b = ⊥

-- calls that use the disk of a store and don't blame it, and a count of its faults that rose
abbrev pub UsesStore : {D : Type 0} → (D → DiskState) → (D → ℕ) → (D → Type 0) → OnDisk D → OnDisk D → Type 0
UsesStore state faults spent old new = UsesDisk state faults spent old.disk new.disk ⊥

abbrev pub RoseIn : {D : Type 0} → (D → ℕ) → (D → Type 0) → OnDisk D → OnDisk D → Type 0
RoseIn faults spent old new = Rose (faults old.disk) (faults new.disk) (spent new.disk)

-- How reads of rows belong to what is said of saving. A read that failed is a failed call. Rows that aren't observable are hidden, and
-- then they were so before.
pub record ReadsLawfully {K : Type 0} (rows : K → Option (List Row)) (faults : K → ℕ) (spent : K → Type 0) (hidden : K → Type 0)
    (uses rose : K → K → Type 0) : Type 0 where
  pub failed : (a b : K) → Rose (faults a) (faults b) (spent b) → rose a b
  pub unseen : (a : K) → rows a ≡ None → hidden a
  pub before : (a b : K) → uses a b → hidden b → hidden a

-- rows in memory are never hidden
abbrev pub hides_none : {K : Type 0} → K → Type 0
hides_none rows = ⊥

-- the rows of a store may be hidden if its disk isn't observable
abbrev pub IsHiddenIn : {D : Type 0} → (D → DiskState) → OnDisk D → Type 0
IsHiddenIn state rows = ¬ (state rows.disk).told
