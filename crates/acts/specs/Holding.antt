-- What a descriptor holds, and which address a socket has, by looking back through the acts. Every list of acts is ordered newest first.
use Rattle.std.specs.Prelude.{◌==◌, ◌&&◌, ◌||◌, ℕ, Bool, false, List, [], ◌∷◌, length, if◌then◌else◌, Option, None, Some, is_some}
use Rattle.flow_base.specs.declared.types.Key.{Key}
use Rattle.flow_base.specs.declared.types.Key.TheVariants.{Lost}
use Rattle.acts.specs.declared.act.Act.{Act}
use Rattle.acts.specs.declared.act.Act.TheVariants.{See, Fork, End, Exec, Set, SetBoth, Copy, Close, Mark, Address}
use Rattle.acts.specs.declared.act.Opens.{Opens}
use Rattle.acts.specs.declared.act.Opens.TheVariants.{File as AFile, Socket as ASocket}
use Rattle.acts.specs.declared.held.Held.{Held}
use Rattle.acts.specs.declared.held.Object.{Object}
use Rattle.acts.specs.declared.held.Object.TheVariants.{File, Pipe, Sock}
use Rattle.acts.specs.Lives.{begins, begins_by_see, has_parent, life_of}
use Rattle.acts.specs.Births.{file_key}

-- the number of the next act
abbrev pub act_number : List Act → ℕ
act_number before = length before

-- descriptor n of p is descriptor fd of pid
abbrev pub is_at : ℕ → ℕ → ℕ → ℕ → Bool
is_at pid fd p n = pid == p && fd == n

-- what a new descriptor opens: the file's key as of now, or the socket that is named by this act
abbrev pub opened : List Act → Opens → Object
opened before (AFile file) = File (file_key before file)
opened before (ASocket address listener) = Sock (act_number before)

-- the object that is held, or else the lost one of this key
abbrev pub object_or : Key → Option Held → Object
object_or lost None = File lost
object_or lost (Some held) = held.object

-- what an exec leaves
abbrev pub unless_marked : Option Held → Option Held
unless_marked None = None
unless_marked (Some held) = if held.cloexec then None else Some held

-- what is held, with this mark
abbrev pub marked : Bool → Option Held → Option Held
marked cloexec None = None
marked cloexec (Some held) = Some (record { object = held.object; cloexec = cloexec })

-- the act that names the socket, if the object is one
abbrev pub socket_of : Object → Option ℕ
socket_of (Sock act) = Some act
socket_of other = None

-- the socket that is held
abbrev pub socket_held : Option Held → Option ℕ
socket_held None = None
socket_held (Some held) = socket_of held.object

-- the held socket stays; else there is now the socket that is named by this act, with no mark
abbrev pub socket_or : ℕ → Option Held → Option Held
socket_or act held = if is_some (socket_held held) then held else Some (record { object = Sock act; cloexec = false })

-- what descriptor n of p holds: what the last act that decided it put there
abbrev pub holds : List Act → ℕ → ℕ → Option Held
holds [] p n = None
holds (Set pid fd what cloexec ∷ before) p n =
    if is_at pid fd p n then Some (record { object = opened before what; cloexec = cloexec }) else holds before p n
holds (SetBoth pid first second cloexec ∷ before) p n =
    if is_at pid first p n || is_at pid second p n then Some (record { object = Pipe (act_number before); cloexec = cloexec }) else holds before p n
holds (Copy pid from to cloexec ∷ before) p n =
    if is_at pid to p n then Some (record { object = object_or (Lost pid (life_of before pid) from) (holds before pid from); cloexec = cloexec }) else holds before p n
holds (Close pid fd ∷ before) p n = if is_at pid fd p n then None else holds before p n
holds (End pid ∷ before) p n = if pid == p then None else holds before p n
holds (Exec pid ∷ before) p n = if pid == p then unless_marked (holds before p n) else holds before p n
holds (Mark pid fd cloexec ∷ before) p n = if is_at pid fd p n then marked cloexec (holds before p n) else holds before p n
holds (Address pid fd bytes ∷ before) p n = if is_at pid fd p n then socket_or (act_number before) (holds before p n) else holds before p n
holds (Fork pid child ∷ before) p n = if begins before (Fork pid child) p then holds before pid n else holds before p n
holds (See pid ppid exe ∷ before) p n =
    if begins_by_see before pid p then (if has_parent before pid ppid then holds before ppid n else None) else holds before p n
holds (other ∷ before) p n = holds before p n

-- a socket, or else the socket that is named by this act
abbrev pub named_or : ℕ → Option ℕ → ℕ
named_or act None = act
named_or act (Some socket) = socket

-- the socket that an act with an address for this descriptor gives it to
abbrev pub addressed : List Act → ℕ → ℕ → ℕ
addressed before pid fd = named_or (act_number before) (socket_held (holds before pid fd))

-- the address of the socket named by act s: what the last act gave which gave it an address; a set gives the stated one, else its listener's
abbrev pub address_of : List Act → ℕ → Option (List ℕ)
address_of [] s = None
address_of (Set pid fd (ASocket (Some address) listener) cloexec ∷ before) s = if s == act_number before then Some address else address_of before s
address_of (Set pid fd (ASocket None (Some listener)) cloexec ∷ before) s =
    if s == act_number before then elim (socket_held (holds before pid listener)) [ None ↦ None | Some socket ↦ address_of before socket ] else address_of before s
address_of (Address pid fd bytes ∷ before) s = if s == addressed before pid fd then Some bytes else address_of before s
address_of (other ∷ before) s = address_of before s
