-- The disks that a run over a store always refuses, and what it says then.
use Rattle.std.specs.Prelude.{◌≡◌, ◌⊎◌, ℕ, true, List, Option}
use Rattle.flow_base.specs.declared.limits.Limits.{Limits}
use Rattle.outside.specs.Disk.{DiskState}
use Rattle.reach_model.specs.declared.modes.Mode.{Mode}
use Rattle.reduced_store.specs.Opening.{IsBadAt}
use Rattle.reduced_store.specs.Stores.{Agree, IsOfWrongMode}
use Rattle.reduced_store.specs.declared.opened.Opened.{Opened}
use Rattle.store_runs.specs.Stores.{StoresNothing, StoresUnsoundly, WaitsUnsoundly}
use Rattle.store_runs.specs.declared.status.Status.{Status}
use Rattle.store_runs.specs.declared.status.Status.TheVariants as status

-- the run ends with this status, or else with want of memory or a store fault
abbrev pub EndsUnlessFailed : (ended why : Status) → Type 0
EndsUnlessFailed ended why = (ended ≡ why) ⊎ ((ended ≡ status.NoMemory) ⊎ (ended ≡ status.StoreFault))

-- The bytes are those of a store of the mode asked for, if one is, whose last batch begins at this place and says that something waits
-- which isn't sound. No two of its rows have one last place.
pub record IsUnsoundFor (limits : Limits) (asked : Option Mode) (place : ℕ) (bytes : List ℕ) : Type 0 where
  pub stores : StoresUnsoundly limits place bytes
  pub lawful : stores.found.rows.lawful ≡ true
  pub agrees : Agree stores.found.mode asked

-- A disk that is observable is refused: as a bad one at its place, if it is no store or what waits there isn't sound, and as a store
-- of another mode.
pub record AlwaysRefuses (limits : Limits) (disk : DiskState) (asked : Option Mode) (ended : Status) : Type 0 where
  pub bad : disk.told → (place : ℕ) → IsBadAt limits place disk.reads → EndsUnlessFailed ended (status.BadStore place)
  pub wrong : disk.told → (kept want : Mode) → IsOfWrongMode limits disk.reads asked kept want → EndsUnlessFailed ended (status.WrongMode kept want)
  pub unsound : disk.told → (place : ℕ) → IsUnsoundFor limits asked place disk.reads → EndsUnlessFailed ended (status.BadStore place)

-- a disk that is observable is refused at its first place if it is a store without a batch
abbrev pub RefusesNoBatch : Limits → DiskState → (ended : Status) → Type 0
RefusesNoBatch limits disk ended = disk.told → (place : ℕ) → StoresNothing limits place disk.reads → EndsUnlessFailed ended (status.BadStore place)

-- an opened store whose disk is observable is refused at its last batch if what waits by it isn't sound
abbrev pub RefusesUnsound : {D : Type 0} → (D → DiskState) → Limits → Opened D → (ended : Status) → Type 0
RefusesUnsound state limits opened ended =
    (state opened.store.disk).told → (place : ℕ) → WaitsUnsoundly limits opened place → EndsUnlessFailed ended (status.BadStore place)
