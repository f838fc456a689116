-- Why a run over a store stops, by what stopped it.
use Rattle.std.specs.Prelude.{◌≡◌, ⊤, ℕ, ◌<◌, Bool, true, false, Result, Ok, Err}
use Rattle.flow_base.specs.declared.limits.Full.{Full}
use Rattle.reach_model.specs.declared.modes.Mode.{Mode}
use Rattle.batch_log.specs.declared.log.CommitFault.{CommitFault}
use Rattle.batch_log.specs.declared.log.CommitFault.TheVariants as commit
use Rattle.ingest.specs.declared.ask_fault.AskFault.{AskFault}
use Rattle.ingest.specs.declared.ask_fault.AskFault.TheVariants as asking
use Rattle.ingest.specs.declared.restoring.RestoreFault.{RestoreFault}
use Rattle.ingest.specs.declared.restoring.RestoreFault.TheVariants as restore
use Rattle.reduced_store.specs.declared.opened.OpenFault.{OpenFault}
use Rattle.reduced_store.specs.declared.opened.OpenFault.TheVariants as opening
use Rattle.dialogue.specs.Course.{HasCauses, IsDue}
use Rattle.dialogue.specs.declared.halt.Halt.{Halt}
use Rattle.dialogue.specs.declared.halt.Halt.TheVariants as halt
use Rattle.dialogue.specs.declared.halt.StoreHalt.{StoreHalt}
use Rattle.dialogue.specs.declared.halt.StoreHalt.TheVariants as over

-- a commit that failed
abbrev pub commit_halt : CommitFault → Halt
commit_halt commit.StoreFault = halt.StoreFault
commit_halt (commit.Full full) = halt.Unwritten full
commit_halt commit.NoMemory = halt.NoMemory

-- a question that wasn't answered
abbrev pub ask_halt : AskFault → Halt
ask_halt asking.StoreFault = halt.StoreFault
ask_halt (asking.BadStore place) = halt.BadRow place
ask_halt asking.NoMemory = halt.NoMemory

-- a disk that wasn't opened
abbrev pub open_halt : OpenFault → StoreHalt
open_halt opening.StoreFault = over.Run halt.StoreFault
open_halt (opening.BadStore place) = over.BadStore place
open_halt (opening.WrongMode kept asked) = over.WrongMode kept asked
open_halt opening.NoMemory = over.Run halt.NoMemory

-- a store of which no engine was made
abbrev pub restore_halt : RestoreFault → StoreHalt
restore_halt (restore.BadStore place) = over.BadStore place
restore_halt (restore.Full full) = over.Run (halt.Full full)
restore_halt restore.StoreFault = over.Run halt.StoreFault
restore_halt (restore.BadRow place) = over.Run (halt.BadRow place)
restore_halt restore.NoMemory = over.Run halt.NoMemory

-- no place, and no modes
abbrev pub no_place : ℕ → Type 0
no_place place = ⊥

abbrev pub no_modes : Mode → Mode → Type 0
no_modes kept asked = ⊥

-- no short log, and one that has fewer bytes than were taken
abbrev pub no_lengths : ℕ → ℕ → Type 0
no_lengths taken had = ⊥

abbrev pub is_shorter : ℕ → ℕ → Type 0
is_shorter taken had = had < taken

-- one that has fewer, if a run goes on in its log, and none if it doesn't
abbrev pub shorter_in : (resume : Bool) → ℕ → ℕ → Type 0
shorter_in true = is_shorter
shorter_in false = no_lengths

-- each fault of a device, each place without a row, and each refusal of a store, has its cause
abbrev pub HasStoreCauses : (read write store hidden : Type 0) (bad : ℕ → Type 0) (wrong : Mode → Mode → Type 0) (short : ℕ → ℕ → Type 0) → StoreHalt → Type 0
HasStoreCauses read write store hidden bad wrong short (over.Run why) = HasCauses read write store hidden ⊤ why
HasStoreCauses read write store hidden bad wrong short (over.BadStore place) = bad place
HasStoreCauses read write store hidden bad wrong short (over.WrongMode kept asked) = wrong kept asked
HasStoreCauses read write store hidden bad wrong short (over.ShortLog taken had) = short taken had

-- a limit that is named would be passed, and no place without a row is named
abbrev pub IsRunDue : (passes : Full → Type 0) → StoreHalt → Type 0
IsRunDue passes (over.Run why) = IsDue passes why
IsRunDue passes _ = ⊤

-- a run as one over a store
abbrev pub over_run : Result Unit Halt → Result Unit StoreHalt
over_run (Ok done) = Ok done
over_run (Err why) = Err (over.Run why)

-- no limit on a store is named
abbrev pub NamesNoBatch : StoreHalt → Type 0
NamesNoBatch why = (full : Full) → why ≡ over.Run (halt.Unwritten full) → ⊥
