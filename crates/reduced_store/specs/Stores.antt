-- Stores, and what opening one hands back.
use Rattle.std.specs.Prelude.{◌≡◌, ◌≢◌, ℕ, true, List, Option, Some, Result, Ok, Err}
use Rattle.flow_base.specs.declared.limits.Limits.{Limits}
use Rattle.reach_model.specs.declared.modes.Mode.{Mode}
use Rattle.batch_log.specs.Log.{Log}
use Rattle.reduced_store.specs.Opening.{IsStoreRead}
use Rattle.reduced_store.specs.declared.reading.Found.{Found}
use Rattle.reduced_store.specs.declared.opened.Opened.{Opened}
use Rattle.reduced_store.specs.declared.opened.Unopened.{Unopened}
use Rattle.batch_log.specs.declared.open.LogFault.{LogFault}
use Rattle.batch_log.specs.declared.open.LogFault.TheVariants as log
use Rattle.reduced_store.specs.declared.opened.OpenFault.{OpenFault}
use Rattle.reduced_store.specs.declared.opened.OpenFault.TheVariants.{StoreFault, BadStore, WrongMode, NoMemory}

-- what was found on the disk of an opened store
abbrev pub found_of : {D : Type 0} → Opened D → Found
found_of opened = record { mode = opened.mode; rows = opened.store.rows; others = opened.rows }

-- the same was found, but room may differ
pub record FindsSame (old new : Found) : Type 0 where
  pub mode : new.mode ≡ old.mode
  pub rows : new.rows.rows ≡ old.rows.rows
  pub lawful : new.rows.lawful ≡ old.rows.lawful
  pub others : new.others ≡ old.others

-- an opened store has the log of these bytes' batches, and what the store of their payloads holds
abbrev pub IsOpenedOver : {D : Type 0} → Limits → List ℕ → Opened D → Type 0
IsOpenedOver limits bytes opened = IsStoreRead limits bytes (opened.store.log, found_of opened)

-- the disk after an opening, opened or handed back
abbrev pub disk_after : {D : Type 0} → Result (Opened D) (Unopened D) → D
disk_after (Ok opened) = opened.store.disk
disk_after (Err back) = back.disk

-- the opening blames the disk
abbrev pub IsBlamed : {D : Type 0} → Result (Opened D) (Unopened D) → Type 0
IsBlamed (Ok opened) = ⊥
IsBlamed (Err back) = back.fault ≡ StoreFault

-- two modes that are both there are the same
abbrev pub Agree : Option Mode → Option Mode → Type 0
Agree kept asked = (m n : Mode) → kept ≡ Some m → asked ≡ Some n → m ≡ n

-- both modes are there, and they differ
pub record Differ (kept asked : Option Mode) (m n : Mode) : Type 0 where
  pub kept_is : kept ≡ Some m
  pub asked_is : asked ≡ Some n
  pub apart : m ≢ n

-- the fault says so of them
abbrev pub IsWrong : Option Mode → Option Mode → OpenFault → Type 0
IsWrong kept asked fault = (m n : Mode) × (fault ≡ WrongMode m n) × Differ kept asked m n

-- why reading a disk failed, as a fault of opening it
abbrev pub refusal : LogFault → OpenFault
refusal log.StoreFault = StoreFault
refusal (log.BadStore place) = BadStore place
refusal log.NoMemory = NoMemory

-- the bytes are a store of another mode than the one asked for, and no two of its rows have one last place
pub record IsOfWrongMode (limits : Limits) (bytes : List ℕ) (asked : Option Mode) (m n : Mode) : Type 0 where
  pub read : Log × Found
  pub is : IsStoreRead limits bytes read
  pub lawful : read.1.rows.lawful ≡ true
  pub differ : Differ read.1.mode asked m n
