-- The acts of calls that open, copy and close descriptors.
use Rattle.std.specs.Prelude.{ℕ, ◌==◌, ◌||◌, ◌++◌, Bool, true, false, List, [], ◌∷◌, Option, None, Some, if◌then◌else◌}
use Rattle.flow_base.specs.declared.types.How.TheVariants as how
use Rattle.audit_record.specs.declared.types.Record.{Record}
use Rattle.audit_record.specs.declared.types.Syscall.{Syscall}
use Rattle.audit_record.specs.declared.types.PathItem.{PathItem}
use Rattle.audit_record.specs.declared.types.NameKind.TheVariants as named
use Rattle.acts.specs.declared.act.FileRef.{FileRef}
use Rattle.acts.specs.declared.act.Act.{Act}
use Rattle.acts.specs.declared.act.Act.TheVariants.{Set, SetBoth, Copy, Close, Mark, Address, Birth}
use Rattle.acts.specs.declared.act.Thing.TheVariants as thing
use Rattle.acts.specs.declared.act.Opens.TheVariants as opens
use Rattle.call_acts.specs.Answers.{is_ok, answered, goes_on, fd, has, when, for_number}
use Rattle.call_acts.specs.Calls.{TRUNCATE}
use Rattle.call_acts.specs.Records.{address, pair, target, file_of, same_kind}
use Rattle.call_acts.specs.Transfers.{outward}

-- the flag that a descriptor closes at an exec, in the flags of all calls that open descriptors
abbrev pub CLOEXEC : ℕ
CLOEXEC = 524288

-- ---- open

-- the descriptor opens the file
abbrev pub sets_file : Syscall → ℕ → ℕ → FileRef → Act
sets_file call flags n file = Set call.pid n (opens.File file) (has flags CLOEXEC)

-- a file that was created is born and made; one that was there is altered if the open truncates it
abbrev pub opens_file : Syscall → ℕ → ℕ → Bool → FileRef → List Act
opens_file call flags n true file =
    Birth file ∷ outward call how.Make (thing.File file) ∷ sets_file call flags n file ∷ []
opens_file call flags n false file =
    when (has flags TRUNCATE) (outward call how.Alter (thing.File file) ∷ []) ++ sets_file call flags n file ∷ []

-- an open opens its target; if the event has none, nothing is known of the descriptor any more
abbrev pub opens_target : ℕ → List Record → Syscall → ℕ → Option PathItem → ℕ → List Act
opens_target limit records call flags None n = Close call.pid n ∷ []
opens_target limit records call flags (Some item) n =
    opens_file call flags n (same_kind item.kind named.Create) (file_of limit records item)

-- an open that answered a descriptor
abbrev pub opens_path : ℕ → List Record → Syscall → ℕ → List Act
opens_path limit records call flags = for_number (answered call) (opens_target limit records call flags (target records))

-- ---- close, dup, fcntl

-- a close that is ok
abbrev pub closes : Syscall → List Act
closes call = when (is_ok call) (Close call.pid (fd call.a0) ∷ [])

-- the descriptor of the first argument is copied
abbrev pub copies_to : Syscall → Bool → ℕ → List Act
copies_to call cloexec n = Copy call.pid (fd call.a0) n cloexec ∷ []

-- a dup copies to the descriptor that it answered, also if that is the same one
abbrev pub dups : Syscall → List Act
dups call = for_number (answered call) (copies_to call false)

-- the descriptor of the first argument is copied to another one
abbrev pub copies_to_other : Syscall → Bool → ℕ → List Act
copies_to_other call cloexec n = if fd call.a0 == n then [] else copies_to call cloexec n

-- a dup2 copies to the descriptor that it answered, and to itself nothing
abbrev pub dups_to : Syscall → List Act
dups_to call = for_number (answered call) (copies_to_other call false)

-- a dup3 is a dup2 with flags
abbrev pub dups_with_flags : Syscall → ℕ → List Act
dups_with_flags call flags = for_number (answered call) (copies_to_other call (has flags CLOEXEC))

-- an fcntl copies by its commands 0 and 1030, the second with the mark, and marks by its command 2
abbrev pub controls : Syscall → List Act
controls call =
    if fd call.a1 == 0 then for_number (answered call) (copies_to call false)
    else if fd call.a1 == 1030 then for_number (answered call) (copies_to call true)
    else if fd call.a1 == 2 then when (is_ok call) (Mark call.pid (fd call.a0) (has call.a2 1) ∷ [])
    else []

-- ---- pipes and sockets

-- both descriptors of a pair
abbrev pub pairs_up : Syscall → ℕ → Option (ℕ × ℕ) → List Act
pairs_up call flags None = []
pairs_up call flags (Some both) = SetBoth call.pid both.0 both.1 (has flags CLOEXEC) ∷ []

-- a pipe or a socketpair that is ok opens the pair that its record names
abbrev pub opens_pair : List Record → Syscall → ℕ → List Act
opens_pair records call flags = when (is_ok call) (pairs_up call flags (pair records))

-- a socket opens the descriptor that it answered
abbrev pub sets_socket : Syscall → ℕ → ℕ → List Act
sets_socket call flags n = Set call.pid n (opens.Socket None None) (has flags CLOEXEC) ∷ []

-- a socket that answered a descriptor
abbrev pub opens_socket : Syscall → ℕ → List Act
opens_socket call flags = for_number (answered call) (sets_socket call flags)

-- the descriptor of the first argument gets the address, if there is one
abbrev pub gets_address : Syscall → Option (List ℕ) → List Act
gets_address call None = []
gets_address call (Some bytes) = Address call.pid (fd call.a0) bytes ∷ []

-- a bind that is ok gives its descriptor the address
abbrev pub binds : List Record → Syscall → List Act
binds records call = when (is_ok call) (gets_address call (address records))

-- a connect that is ok, or goes on by itself, gives its descriptor the address
abbrev pub connects : List Record → Syscall → List Act
connects records call = when (is_ok call || goes_on call.exit) (gets_address call (address records))

-- an accepted socket has the address of the event and the listener of the first argument
abbrev pub sets_accepted : List Record → Syscall → ℕ → ℕ → List Act
sets_accepted records call flags n =
    Set call.pid n (opens.Socket (address records) (Some (fd call.a0))) (has flags CLOEXEC) ∷ []

-- an accept that answered a descriptor
abbrev pub accepts : List Record → Syscall → ℕ → List Act
accepts records call flags = for_number (answered call) (sets_accepted records call flags)
