-- No thing that a descriptor, a file or an address stands for is a process.
use Rattle.std.proofs.Common.{◌≡◌, refl, ℕ, ◌==◌, ◌||◌, Bool, true, false, List, [], ◌∷◌, length, Option, Some, None, is_some, if◌then◌else◌}
use Rattle.flow_base.specs.declared.types.FileId.{FileId}
use Rattle.flow_base.specs.declared.types.Key.{Key}
use Rattle.flow_base.specs.declared.types.Key.TheVariants.{Process, Lost}
use Rattle.acts.specs.declared.act.Act.{Act}
use Rattle.acts.specs.declared.act.Act.TheVariants.{See, Fork, End, Exec, Set, SetBoth, Copy, Close, Mark, Address, Birth, Move}
use Rattle.acts.specs.declared.act.Opens.{Opens}
use Rattle.acts.specs.declared.act.Opens.TheVariants.{File as AFile, Socket as ASocket}
use Rattle.acts.specs.declared.act.Thing.{Thing}
use Rattle.acts.specs.declared.act.Thing.TheVariants.{Fd as ThingFd, File as ThingFile, Address as ThingAddress}
use Rattle.acts.specs.declared.held.Held.{Held}
use Rattle.acts.specs.declared.held.Object.{Object}
use Rattle.acts.specs.declared.held.Object.TheVariants.{File, Pipe, Sock}
use Rattle.acts.specs.Births.{key_by}
use Rattle.acts.specs.Lives.{begins, begins_by_see, has_parent, life_of}
use Rattle.acts.specs.Holding.{holds, is_at, opened, object_or, marked, unless_marked, socket_held, socket_or, address_of}
use Rattle.acts.specs.Keys.{thing_key, socket_key, object_key, held_key}

abbrev pub is_process : Key → Bool
is_process (Process pid life) = true
is_process other = false

abbrev is_process_file : Object → Bool
is_process_file (File key) = is_process key
is_process_file other = false

abbrev holds_process : Option Held → Bool
holds_process None = false
holds_process (Some held) = is_process_file held.object

file_is_none : (acts : List Act) (file : Option FileId) (path : Option (List ℕ)) → is_process (key_by acts file path) ≡ false
file_is_none acts None path = refl
file_is_none acts (Some id) path = refl

opened_is_none : (before : List Act) (what : Opens) → is_process_file (opened before what) ≡ false
opened_is_none before (AFile file) = file_is_none before file.file file.path
opened_is_none before (ASocket address listener) = refl

either : (b : Bool) (x y : Option Held) → holds_process x ≡ false → holds_process y ≡ false → holds_process (if b then x else y) ≡ false
either true x y here there = here
either false x y here there = there

of_unmarked : (r : Option Held) → holds_process r ≡ false → holds_process (unless_marked r) ≡ false
of_unmarked None other_kind = other_kind
of_unmarked (Some held) other_kind = either held.cloexec None (Some held) refl other_kind

of_marked : (cloexec : Bool) (r : Option Held) → holds_process r ≡ false → holds_process (marked cloexec r) ≡ false
of_marked cloexec None other_kind = other_kind
of_marked cloexec (Some held) other_kind = other_kind

of_copied : (pid life fd : ℕ) (r : Option Held) → holds_process r ≡ false → is_process_file (object_or (Lost pid life fd) r) ≡ false
of_copied pid life fd None other_kind = refl
of_copied pid life fd (Some held) other_kind = other_kind

of_socket : (act : ℕ) (r : Option Held) → holds_process r ≡ false → holds_process (socket_or act r) ≡ false
of_socket act r other_kind = either (is_some (socket_held r)) r _ other_kind refl

-- other_kind process is held
held_are_none : (acts : List Act) (p n : ℕ) → holds_process (holds acts p n) ≡ false
held_are_none [] p n = refl
held_are_none (See pid ppid exe ∷ before) p n =
    either (begins_by_see before pid p) _ _ (either (has_parent before pid ppid) _ _ (held_are_none before ppid n) refl) (held_are_none before p n)
held_are_none (Fork pid child ∷ before) p n = either (begins before (Fork pid child) p) _ _ (held_are_none before pid n) (held_are_none before p n)
held_are_none (End pid ∷ before) p n = either (pid == p) _ _ refl (held_are_none before p n)
held_are_none (Exec pid ∷ before) p n = either (pid == p) _ _ (of_unmarked _ (held_are_none before p n)) (held_are_none before p n)
held_are_none (Set pid fd what cloexec ∷ before) p n = either (is_at pid fd p n) _ _ (opened_is_none before what) (held_are_none before p n)
held_are_none (SetBoth pid first second cloexec ∷ before) p n = either (is_at pid first p n || is_at pid second p n) _ _ refl (held_are_none before p n)
held_are_none (Copy pid from to cloexec ∷ before) p n =
    either (is_at pid to p n) _ _ (of_copied pid (life_of before pid) from _ (held_are_none before pid from)) (held_are_none before p n)
held_are_none (Close pid fd ∷ before) p n = either (is_at pid fd p n) _ _ refl (held_are_none before p n)
held_are_none (Mark pid fd cloexec ∷ before) p n = either (is_at pid fd p n) _ _ (of_marked cloexec _ (held_are_none before p n)) (held_are_none before p n)
held_are_none (Address pid fd bytes ∷ before) p n = either (is_at pid fd p n) _ _ (of_socket (length before) _ (held_are_none before p n)) (held_are_none before p n)
held_are_none (Birth file ∷ before) p n = held_are_none before p n
held_are_none (Move pid inward how what ∷ before) p n = held_are_none before p n

socket_is_none : (act : ℕ) (address : Option (List ℕ)) → is_process (socket_key act address) ≡ false
socket_is_none act None = refl
socket_is_none act (Some address) = refl

object_is_none : (acts : List Act) (object : Object) → is_process_file object ≡ false → is_process (object_key acts object) ≡ false
object_is_none acts (File key) other_kind = other_kind
object_is_none acts (Pipe act) other_kind = refl
object_is_none acts (Sock act) other_kind = socket_is_none act (address_of acts act)

key_is_none : (acts : List Act) (pid life fd : ℕ) (r : Option Held) → holds_process r ≡ false → is_process (held_key acts (Lost pid life fd) r) ≡ false
key_is_none acts pid life fd None other_kind = refl
key_is_none acts pid life fd (Some held) other_kind = object_is_none acts held.object other_kind

pub things_are_none : (acts : List Act) (pid : ℕ) (thing : Thing) → is_process (thing_key acts pid thing) ≡ false
things_are_none acts pid (ThingFd fd) = key_is_none acts pid (life_of acts pid) fd (holds acts pid fd) (held_are_none acts pid fd)
things_are_none acts pid (ThingFile file) = file_is_none acts file.file file.path
things_are_none acts pid (ThingAddress address) = refl
