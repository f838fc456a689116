-- How a run ended: numbers and texts.
use Rattle.std.specs.Prelude.{⊤, ℕ, ◌++◌, List, [], Result, Ok, Err, codes, decimal}
use Rattle.flow_base.specs.declared.limits.Full.{Full}
use Rattle.flow_base.specs.declared.limits.Limit.{Limit}
use Rattle.flow_base.specs.declared.limits.Limit.TheVariants as limit
use Rattle.reach_model.specs.declared.modes.Mode.{Mode}
use Rattle.reach_model.specs.declared.modes.Mode.TheVariants as mode
use Rattle.dialogue.specs.declared.halt.Halt.{Halt}
use Rattle.dialogue.specs.declared.halt.Halt.TheVariants as halt
use Rattle.dialogue.specs.declared.halt.StoreHalt.{StoreHalt}
use Rattle.dialogue.specs.declared.halt.StoreHalt.TheVariants as over
use Rattle.store_runs.specs.declared.status.Status.{Status}
use Rattle.store_runs.specs.declared.status.Status.TheVariants as status

-- the name of a mode
abbrev pub mode_name : Mode → List ℕ
mode_name mode.Plain = codes "plain"
mode_name mode.Continuous = codes "continuous"
mode_name mode.Full = codes "full"
mode_name mode.Source = codes "source"

-- the number with which the program ends
abbrev pub number_of : Status → ℕ
number_of status.Done = 0
number_of status.BadWords = 2
number_of status.NoMemory = 3
number_of status.ReadFault = 4
number_of status.WriteFault = 5
number_of status.StoreFault = 6
number_of (status.BadStore place) = 7
number_of (status.BadRow place) = 7
number_of (status.WrongMode kept asked) = 8
number_of (status.Full full) = 9
number_of (status.ShortLog taken had) = 10

-- the name of a limit
abbrev pub limit_name : Limit → List ℕ
limit_name limit.Input = codes "input"
limit_name limit.Entities = codes "entities"
limit_name limit.Flows = codes "flows"
limit_name limit.Payload = codes "payload"
limit_name limit.Store = codes "store"

-- which limit was reached, and its number
abbrev pub full_text : Full → List ℕ
full_text full = codes "full: " ++ (limit_name full.limit ++ (codes " " ++ decimal full.number))

-- the batch from which on a disk isn't a store
abbrev pub bad_text : ℕ → List ℕ
bad_text place = codes "bad store at " ++ decimal place

-- the mode of the store, and the mode that was asked for
abbrev pub wrong_text : Mode → Mode → List ℕ
wrong_text kept asked = codes "wrong mode: kept " ++ (mode_name kept ++ (codes ", asked " ++ mode_name asked))

-- how many bytes of a log the store has taken, and how many there were
abbrev pub short_text : ℕ → ℕ → List ℕ
short_text taken had = codes "short log: taken " ++ (decimal taken ++ (codes ", had " ++ decimal had))

-- a text after the program's name
abbrev pub as_line : List ℕ → List ℕ
as_line text = codes "audit_cli: " ++ (text ++ codes "\n")

-- what the program says of its end
abbrev pub line_of : Status → List ℕ
line_of status.Done = []
line_of status.BadWords = as_line (codes "bad words")
line_of status.NoMemory = as_line (codes "no memory")
line_of status.ReadFault = as_line (codes "read fault")
line_of status.WriteFault = as_line (codes "write fault")
line_of status.StoreFault = as_line (codes "store fault")
line_of (status.BadStore place) = as_line (bad_text place)
line_of (status.BadRow place) = as_line (bad_text place)
line_of (status.WrongMode kept asked) = as_line (wrong_text kept asked)
line_of (status.Full full) = as_line (full_text full)
line_of (status.ShortLog taken had) = as_line (short_text taken had)

-- the status of a run
abbrev pub status_for : Result Unit Halt → Status
status_for (Ok done) = status.Done
status_for (Err halt.NoMemory) = status.NoMemory
status_for (Err halt.ReadFault) = status.ReadFault
status_for (Err halt.WriteFault) = status.WriteFault
status_for (Err halt.StoreFault) = status.StoreFault
status_for (Err (halt.BadRow place)) = status.BadRow place
status_for (Err (halt.Full full)) = status.Full full
status_for (Err (halt.Unwritten full)) = status.Full full

-- the status of a run over a store
abbrev pub store_status : Result Unit StoreHalt → Status
store_status (Ok done) = status.Done
store_status (Err (over.Run why)) = status_for (Err why)
store_status (Err (over.BadStore place)) = status.BadStore place
store_status (Err (over.WrongMode kept asked)) = status.WrongMode kept asked
store_status (Err (over.ShortLog taken had)) = status.ShortLog taken had

-- each fault of a device in a status has its cause, and so has a place without a row
abbrev pub StatusCause : (read write store hidden : Type 0) → Status → Type 0
StatusCause read write store hidden status.ReadFault = read
StatusCause read write store hidden status.WriteFault = write
StatusCause read write store hidden status.StoreFault = store
StatusCause read write store hidden (status.BadRow place) = hidden
StatusCause read write store hidden _ = ⊤

-- a store that is refused has its cause, and so has a place of it without a row
abbrev pub RefusesStore : Status → (bad : ℕ → Type 0) → (wrong : Mode → Mode → Type 0) → Type 0
RefusesStore (status.BadStore place) bad wrong = bad place
RefusesStore (status.BadRow place) bad wrong = bad place
RefusesStore (status.WrongMode kept asked) bad wrong = wrong kept asked
RefusesStore _ bad wrong = ⊤
