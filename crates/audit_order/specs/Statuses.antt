-- How a run ended: numbers, texts and causes.
use Rattle.std.specs.Prelude.{⊤, ℕ, List, [], Result, Ok, Err, codes}
use Rattle.audit_order.specs.declared.halt.Halt.{Halt}
use Rattle.audit_order.specs.declared.halt.Halt.TheVariants as halt
use Rattle.audit_order.specs.declared.status.Status.{Status}
use Rattle.audit_order.specs.declared.status.Status.TheVariants as status

-- the number with which the program ends
abbrev pub number_of : Status → ℕ
number_of status.Done = 0
number_of status.BadWords = 2
number_of status.NoMemory = 3
number_of status.ReadFault = 4
number_of status.WriteFault = 5

-- what the program says of its end
abbrev pub line_of : Status → List ℕ
line_of status.Done = []
line_of status.BadWords = codes "audit_order: bad words\n"
line_of status.NoMemory = codes "audit_order: no memory\n"
line_of status.ReadFault = codes "audit_order: read fault\n"
line_of status.WriteFault = codes "audit_order: write fault\n"

-- the status of a run
abbrev pub status_for : Result Unit Halt → Status
status_for (Ok done) = status.Done
status_for (Err halt.NoMemory) = status.NoMemory
status_for (Err halt.ReadFault) = status.ReadFault
status_for (Err halt.WriteFault) = status.WriteFault

-- what holds if the run was done
abbrev pub AtDone : Status → Type 0 → Type 0
AtDone status.Done P = P
AtDone _ P = ⊤

-- each fault of a device has its cause, and the words were good
abbrev pub StatusCause : (read write : Type 0) → Status → Type 0
StatusCause read write status.BadWords = ⊥
StatusCause read write status.ReadFault = read
StatusCause read write status.WriteFault = write
StatusCause read write _ = ⊤
