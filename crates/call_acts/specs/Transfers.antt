-- The acts of calls that move data through descriptors.
use Rattle.std.specs.Prelude.{ℕ, ◌&&◌, true, false, not, List, [], ◌∷◌, Option, None, Some}
use Rattle.flow_base.specs.declared.types.How.{How}
use Rattle.flow_base.specs.declared.types.How.TheVariants as how
use Rattle.audit_record.specs.declared.types.Record.{Record}
use Rattle.audit_record.specs.declared.types.Syscall.{Syscall}
use Rattle.acts.specs.declared.act.Act.{Act}
use Rattle.acts.specs.declared.act.Act.TheVariants.{Move}
use Rattle.acts.specs.declared.act.Thing.{Thing}
use Rattle.acts.specs.declared.act.Thing.TheVariants as thing
use Rattle.call_acts.specs.Answers.{is_ok, moved, fd, has, when, for_number}
use Rattle.call_acts.specs.Records.{address, mapped}

-- data goes from a thing to the caller
abbrev pub inward : Syscall → How → Thing → Act
inward call how what = Move call.pid true how what

-- data goes from the caller to a thing
abbrev pub outward : Syscall → How → Thing → Act
outward call how what = Move call.pid false how what

-- the peer of a message: its address, if there is one, else the descriptor that the first argument is
abbrev pub peer : Syscall → Option (List ℕ) → Thing
peer call None = thing.Fd (fd call.a0)
peer call (Some bytes) = thing.Address bytes

-- a read that moved something takes from its descriptor
abbrev pub reads : Syscall → List Act
reads call = when (moved call) (inward call how.Read (thing.Fd (fd call.a0)) ∷ [])

-- a receive that moved something takes from its peer
abbrev pub receives : List Record → Syscall → List Act
receives records call = when (moved call) (inward call how.Read (peer call (address records)) ∷ [])

-- a write that moved something gives to its descriptor
abbrev pub writes : Syscall → List Act
writes call = when (moved call) (outward call how.Write (thing.Fd (fd call.a0)) ∷ [])

-- a send that moved something gives to its peer
abbrev pub sends : List Record → Syscall → List Act
sends records call = when (moved call) (outward call how.Write (peer call (address records)) ∷ [])

-- what moved from one descriptor to another is read from the one and written to the other
abbrev pub passes : Syscall → ℕ → ℕ → List Act
passes call from to = when (moved call) (inward call how.Read (thing.Fd from) ∷ outward call how.Write (thing.Fd to) ∷ [])

-- a mapping reads from its descriptor, and one that is shared and can be written also writes to it
abbrev pub maps_fd : Syscall → ℕ → ℕ → List Act
maps_fd call flags mapped_fd =
    inward call how.Read (thing.Fd mapped_fd)
    ∷ when (has flags 1 && has call.a2 2) (outward call how.Write (thing.Fd mapped_fd) ∷ [])

-- an mmap that is ok and of a file maps the descriptor that its record names
abbrev pub maps : List Record → Syscall → ℕ → List Act
maps records call flags = when (is_ok call && not (has flags 32)) (for_number (mapped records) (maps_fd call flags))
