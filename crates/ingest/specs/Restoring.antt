-- An engine that is made again from a store that was opened.
use Rattle.std.specs.Prelude.{◌≡◌, ◌≢◌, ◌≤◌, ◌<◌, ℕ, List, length, Some, None, unwrap_or, Result, Ok, Err}
use Rattle.flow_base.specs.declared.limits.Full.{Full}
use Rattle.flow_base.specs.declared.limits.Limits.{Limits}
use Rattle.outside.specs.Cause.{Rose}
use Rattle.outside.specs.Disk.{DiskState, IsDurable}
use Rattle.audit_lex.specs.History.{History}
use Rattle.flow_events.specs.Filling.{AreRestored, HasCountsOf}
use Rattle.flow_events.specs.Standing.{AreSafe, HasLimits}
use Rattle.query_walk.specs.declared.fault.WalkFault.{WalkFault}
use Rattle.query_walk.specs.declared.fault.WalkFault.TheVariants as walk
use Rattle.reach_model.specs.declared.modes.Mode.{Mode}
use Rattle.record_join.specs.StandsFor.{NothingRipe, StandsFor as JoinStandsFor}
use Rattle.reduced_store.specs.OnDisk.{OnDisk}
use Rattle.reduced_store.specs.Opening.{IsStoreRead}
use Rattle.reduced_store.specs.Stores.{found_of}
use Rattle.reduced_store.specs.declared.opened.Opened.{Opened}
use Rattle.row_codec.specs.declared.rows.StoreRow.{StoreRow}
use Rattle.row_codec.specs.declared.state.StateRow.{StateRow}
use Rattle.store_check.specs.Conditions.{HasCounts, HasListed, HasTail}
use Rattle.store_check.specs.Store.{keys}
use Rattle.stored.specs.Moment.{state_at}
use Rattle.stored.specs.Words.{state_of}
use Rattle.ingest.specs.Parts.{Engine}
use Rattle.ingest.specs.PartTaken.{StandsWith}
use Rattle.ingest.specs.Saving.{IsSaved}
use Rattle.ingest.specs.StandsFor.{ReaderStandsFor}
use Rattle.ingest.specs.StateParts.{reader_of}
use Rattle.ingest.specs.Stops.{input_full}
use Rattle.ingest.specs.Storing.{StoresHistory, moment_of}
use Rattle.ingest.specs.Waiting.{AreSoundWaiting, AscendByKey, StandsForClosed, waiting_by}
use Rattle.ingest.specs.declared.restoring.Remade.{Remade}
use Rattle.ingest.specs.declared.restoring.RestoreFault.{RestoreFault}
use Rattle.ingest.specs.declared.restoring.RestoreFault.TheVariants as fault
use Rattle.ingest.specs.declared.restoring.Unrestored.{Unrestored}

-- the State is that of the rows, whose counts, tail and list of malformed lines are within bounds; there are few objects, and the
-- groups that wait ascend
pub record CanBeRemade (limits : Limits) (state : StateRow) (rows : List StoreRow) : Type 0 where
  pub state_is : state_of rows ≡ Some state
  pub counts : HasCounts state
  pub tail : HasTail limits.line state
  pub listed : HasListed limits.shown state
  pub few : length (keys rows) ≤ limits.entities
  pub ascend : AscendByKey rows

-- each part is what the rows say of it
pub record IsRemade (limits : Limits) (state : StateRow) (rows : List StoreRow) (parts : Remade) : Type 0 where
  pub reader_is : parts.reader ≡ reader_of limits state
  pub reads : (h : History) (p : ℕ) → state ≡ state_at (moment_of limits h p) → ReaderStandsFor limits parts.reader h
  pub sound : AreSoundWaiting limits state rows
  pub waits : JoinStandsFor limits parts.join (waiting_by limits state rows)
  pub quiet : NothingRipe parts.join
  pub history : StandsForClosed limits state rows parts.join
  pub tables_are : AreRestored limits rows parts.tables
  pub safe : AreSafe parts.tables
  pub bounds : HasLimits limits parts.tables
  pub counted : HasCountsOf rows parts.tables
  pub unmarked : parts.tables.marked ≡ None

-- a store as it is opened on a disk that is observable: what was read of them, of which a crash leaves no others, is saved
pub record IsOpen {D : Type 0} (state : D → DiskState) (limits : Limits) (opened : Opened D) : Type 0 where
  pub told : (state opened.store.disk).told
  pub read : IsStoreRead limits (state opened.store.disk).reads (opened.store.log, found_of opened)
  pub durable : IsDurable (state opened.store.disk)
  pub saved : opened.store.saved ≡ opened.store.rows.rows
  pub most : opened.store.log.most ≡ limits.payload
  pub end : opened.store.log.end ≡ limits.store

-- whatever history the open store has, the engine stands for it, and it is saved
abbrev pub StandsForStored : {D : Type 0} → (D → DiskState) → Limits → Mode → Opened D → Engine (OnDisk D) → Type 0
StandsForStored state limits mode opened engine = (h : History) (part : ℕ) → IsOpen state limits opened
    → StoresHistory limits mode (state opened.store.disk).reads h part → StandsWith limits engine h part × IsSaved state limits mode engine h part

-- the store of the engine, or the one that is handed back
abbrev pub store_after : {D : Type 0} → Result (Engine (OnDisk D)) (Unrestored (OnDisk D)) → OnDisk D
store_after (Ok engine) = engine.joined.keep
store_after (Err back) = back.keep

-- the State of the rows, if they have one, has this
abbrev pub OfState : List StoreRow → (StateRow → Type 0) → Type 0
OfState rows P = (state : StateRow) × (state_of rows ≡ Some state) × P state

-- a bad store is one whose last batch says that something waits which isn't sound
abbrev pub IsBadWaiting : {D K : Type 0} → Limits → Opened D → Unrestored K → Type 0
IsBadWaiting limits opened back = (place : ℕ) → back.why ≡ fault.BadStore place
    → (place ≡ unwrap_or opened.last 0) × OfState opened.rows (λ state. ¬ AreSoundWaiting limits state opened.rows)

-- a store is full if it has taken more bytes than the limit says, and what waits in it is sound
abbrev pub IsPastInput : {D K : Type 0} → Limits → Opened D → Unrestored K → Type 0
IsPastInput limits opened back = (full : Full) → back.why ≡ fault.Full full
    → (full ≡ input_full limits) × OfState opened.rows (λ state. limits.input < state.taken)
    × OfState opened.rows (λ state. AreSoundWaiting limits state opened.rows)

-- why an engine wasn't made again, if its rows couldn't be read so
abbrev pub unread : WalkFault → RestoreFault
unread walk.StoreFault = fault.StoreFault
unread (walk.BadStore place) = fault.BadRow place
unread walk.NoMemory = fault.NoMemory

-- the rows couldn't be read
abbrev pub IsOfReading : {K : Type 0} → Unrestored K → Type 0
IsOfReading back = (why : WalkFault) × (back.why ≡ unread why)

-- neither a failed read nor a missing row, but something else
abbrev pub IsOther : RestoreFault → Type 0
IsOther why = (why ≢ fault.StoreFault) × ((place : ℕ) → why ≢ fault.BadRow place)

-- a store fault comes only if the count of the disk's faults rose
abbrev pub FaultRose : {D : Type 0} → (D → ℕ) → (D → Type 0) → OnDisk D → Unrestored (OnDisk D) → Type 0
FaultRose faults spent store back = back.why ≡ fault.StoreFault → Rose (faults store.disk) (faults back.keep.disk) (spent back.keep.disk)

-- a row is missing only from a disk that isn't observable
abbrev pub IsHidden : {D : Type 0} → (D → DiskState) → OnDisk D → Unrestored (OnDisk D) → Type 0
IsHidden state store back = (place : ℕ) → back.why ≡ fault.BadRow place → ¬ (state store.disk).told
