-- What of the history of an engine over a store is on the disk of the store.
use Rattle.std.specs.Prelude.{◌≡◌, ◌⊎◌, ◌++◌, ℕ, List, Some, length}
use Rattle.flow_base.specs.declared.limits.Full.{Full}
use Rattle.flow_base.specs.declared.limits.Limit.TheVariants.{Payload}
use Rattle.flow_base.specs.declared.limits.Limits.{Limits}
use Rattle.outside.specs.Disk.{DiskState, LeavesOnly}
use Rattle.audit_lex.specs.History.{History}
use Rattle.batch_log.specs.Batches.{IsBeforeOrAfter}
use Rattle.batch_log.specs.Log.{EachHas, Log, LogHas, passed}
use Rattle.reach_model.specs.declared.modes.Mode.{Mode}
use Rattle.reach_model.specs.Rows.{Keeps}
use Rattle.row_codec.specs.Payload.{IsPayload}
use Rattle.row_codec.specs.declared.rows.StoreRow.{StoreRow}
use Rattle.reduced_store.specs.OnDisk.{OnDisk}
use Rattle.ingest.specs.Events.{taken_in, flows_in, events_of}
use Rattle.ingest.specs.PartTaken.{StandsWith}
use Rattle.ingest.specs.Parts.{Engine}
use Rattle.ingest.specs.Storing.{IsCommitFor, StoresHistory}

-- The disk reads as a store of the history, with this many bytes of this part of a log, and a crash leaves no other batches. The saved
-- rows are those of the history's flows, and the tables have their mark after its acts.
pub record IsSaved {D : Type 0} (state : D → DiskState) (limits : Limits) (mode : Mode) (engine : Engine (OnDisk D)) (h : History) (part : ℕ) : Type 0 where
  pub stores : StoresHistory limits mode (state engine.joined.keep.disk).reads h part
  pub log : LogHas engine.joined.keep.log stores.store.payloads (state engine.joined.keep.disk).reads
  pub image : EachHas engine.joined.keep.log stores.store.payloads (state engine.joined.keep.disk).image
  pub most : engine.joined.keep.log.most ≡ limits.payload
  pub end : engine.joined.keep.log.end ≡ limits.store
  pub saved : Keeps mode (flows_in limits (events_of limits h)) engine.joined.keep.saved
  pub marked : engine.joined.tables.marked ≡ Some (length (taken_in limits (events_of limits h)))

-- whatever part of its history was saved, now all of it is
abbrev pub Saves : {D : Type 0} → (D → DiskState) → Mode → (old new : Engine (OnDisk D)) → Type 0
Saves state mode old new = (limits : Limits) (h more : History) (before part : ℕ)
    → StandsWith limits old (h ++ more) part → IsSaved state limits mode old h before → IsSaved state limits mode new (h ++ more) part

-- the bytes are a store of what was saved, or of all
abbrev pub IsEither : Limits → Mode → (h more : History) (before part : ℕ) → List ℕ → Type 0
IsEither limits mode h more before part bytes = StoresHistory limits mode bytes h before ⊎ StoresHistory limits mode bytes (h ++ more) part

-- whatever part of its history was saved, a crash at any moment leaves a store of that part or of all
abbrev pub LeavesEither : {D : Type 0} → (D → DiskState) → Mode → (old new : Engine (OnDisk D)) → Type 0
LeavesEither state mode old new = (limits : Limits) (h more : History) (before part : ℕ)
    → StandsWith limits old (h ++ more) part → IsSaved state limits mode old h before
    → LeavesOnly (state old.joined.keep.disk) (state new.joined.keep.disk) (IsEither limits mode h more before part)

-- whatever batches a crash would have left, a crash at any moment leaves these, or these and one more
abbrev pub AddsOne : {D : Type 0} → (D → DiskState) → (old new : Engine (OnDisk D)) → Type 0
AddsOne state old new = (payloads : List (List ℕ)) → EachHas old.joined.keep.log payloads (state old.joined.keep.disk).image
    → (payload : List ℕ) × LeavesOnly (state old.joined.keep.disk) (state new.joined.keep.disk) (IsBeforeOrAfter old.joined.keep.log.most payloads payload)

-- Each batch of these rows passes this limit. If a text in them is too long to be spelled, so that they have no batch, then the
-- limit is that of a payload.
pub record PassesWith (mode : Mode) (log : Log) (rows : List StoreRow) (full : Full) : Type 0 where
  pub spelled : (payload : List ℕ) → IsPayload mode rows payload → passed log (length payload) ≡ Some full
  pub unspelled : ((payload : List ℕ) → IsPayload mode rows payload → ⊥) → full ≡ record { limit = Payload; number = log.most }

-- whatever part of its history was saved, the rows of this commit pass this limit
abbrev pub PassesFull : {D : Type 0} → (D → DiskState) → Mode → Engine (OnDisk D) → Full → Type 0
PassesFull state mode old full = (limits : Limits) (h more : History) (before part : ℕ)
    → StandsWith limits old (h ++ more) part → IsSaved state limits mode old h before
    → (rows : List StoreRow) × IsCommitFor limits mode h before (h ++ more) part rows × PassesWith mode old.joined.keep.log rows full
