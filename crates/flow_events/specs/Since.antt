-- What is remembered of the acts since a mark. Every list of acts is ordered newest first.
use Rattle.std.specs.Prelude.{◌≡◌, ◌==◌, ◌≤◌, ◌+◌, ◌++◌, ℕ, Bool, true, false, not, ◌&&◌, ◌||◌, List, [], length, Option, Some, None, ⊤, unwrap_or, is_some, nat_eq, if◌then◌else◌}
use Rattle.std.specs.Cmp.Lexicographic.{pointwise}
use Rattle.std.specs.List.{list_any}
use Rattle.std.specs.Map.{lookup}
use Rattle.std.specs.Option.{option_map}
use Rattle.flow_base.specs.declared.types.FileId.{FileId}
use Rattle.flow_base.specs.contracts.types.FileIdPartialEq.TheImpl.{ghosts as files}
use Rattle.acts.specs.declared.act.Act.{Act}
use Rattle.acts.specs.declared.act.Act.TheVariants.{Exec, Set, SetBoth, Copy, Close, Mark, Address}
use Rattle.acts.specs.declared.held.Held.{Held}
use Rattle.acts.specs.Births.{is_birth_of}
use Rattle.acts.specs.Flows.{objects}
use Rattle.acts.specs.Holding.{address_of, holds, is_at}
use Rattle.acts.specs.Lives.{live, beginnings}
use Rattle.acts.specs.Standing.{standing}
use Rattle.fd_table.specs.Table.{Table as Fds, HoldsAs, held_at, is_marked}
use Rattle.proc_table.specs.declared.life.Life.{Life}
use Rattle.proc_table.specs.Table.{Table as Procs, at, standing_of}
use Rattle.flow_events.specs.declared.plan.NewAddress.{NewAddress}
use Rattle.stored.specs.Batch.{names_pid, names_socket, since_names, WasHeld}

-- how many objects there were at the mark; each pid that was named, with its last life at the mark; the file numbers that were
-- born; the sockets that got an address; the descriptors that were touched while they held something; those at which something
-- was put; and the room for more of some of them
pub record Memory : Type 0 where
  pub known : ℕ
  pub pids : List (ℕ × Option Life)
  pub files : List FileId
  pub sockets : List ℕ
  pub slots : List (ℕ × ℕ)
  pub puts : List (ℕ × ℕ)
  pub pid_spare : ℕ
  pub file_spare : ℕ
  pub socket_spare : ℕ

-- the last life of a pid at the mark, if the pid is remembered
abbrev pub pid_in : Memory → ℕ → Option (Option Life)
pid_in memory p = lookup (nat_eq p) memory.pids

-- the births of a file number are remembered
abbrev pub has_file : Memory → FileId → Bool
has_file memory f = list_any (files.eq f) memory.files

-- the address of a socket is remembered
abbrev pub has_socket : Memory → ℕ → Bool
has_socket memory s = list_any (nat_eq s) memory.sockets

-- an act since names the pid
abbrev pub pid_named : List Act → List Act → ℕ → Bool
pid_named now before p = since_names (λ B. names_pid) now before p

-- an act since is a birth of the file number
abbrev pub file_named : List Act → List Act → FileId → Bool
file_named now before f = since_names (λ B. is_birth_of) now before f

-- exactly the pids that acts since named are remembered, each as it stood at the mark
pub record ArePids (memory : Memory) (before now : List Act) : Type 0 where
  pub each : (p : ℕ) → option_map standing_of (pid_in memory p) ≡ (if pid_named now before p then Some (standing before p) else None)

-- exactly the file numbers that were born since are remembered
pub record AreFiles (memory : Memory) (before now : List Act) : Type 0 where
  pub each : (f : FileId) → has_file memory f ≡ file_named now before f

-- a socket that isn't remembered has the address that it had, and one that is has an address that an act since gave
pub record AreSockets (memory : Memory) (before now : List Act) : Type 0 where
  pub others : (s : ℕ) → has_socket memory s ≡ false → address_of (now ++ before) s ≡ address_of before s
  pub named : (s : ℕ) → has_socket memory s ≡ true → since_names names_socket now before s ≡ true
  pub there : (s : ℕ) → has_socket memory s ≡ true → is_some (address_of (now ++ before) s) ≡ true

-- a descriptor of a pid is among these
abbrev pub has_slot : List (ℕ × ℕ) → ℕ → ℕ → Bool
has_slot slots p n = list_any (λ q. is_at q.0 q.1 p n) slots

-- a descriptor was touched since the mark, or something was put there
abbrev pub is_touched : Memory → ℕ × ℕ → Bool
is_touched memory q = has_slot memory.slots q.0 q.1 || has_slot memory.puts q.0 q.1

-- the life that a pid had at the mark, if the pid is remembered, is this one and was live
abbrev pub is_since : Option (Option Life) → Life → Bool
is_since (Some (Some was)) life = was.live && was.life == life.life
is_since other life = false

-- the life that a pid had at the mark goes on
pub record LivesOn (before now : List Act) (p : ℕ) : Type 0 where
  pub same : beginnings (now ++ before) p ≡ beginnings before p
  pub live_is : live (now ++ before) p ≡ true

-- these descriptors were held at the mark or after an act since; and what was held at the mark and is lost is among them, if the
-- life goes on
pub record AreSlots (slots : List (ℕ × ℕ)) (before now : List Act) : Type 0 where
  pub were : (p n : ℕ) → has_slot slots p n ≡ true → WasHeld now before p n
  pub lost : (p n : ℕ) → LivesOn before now p → is_some (holds before p n) ≡ true → holds (now ++ before) p n ≡ None → has_slot slots p n ≡ true

-- a descriptor that isn't among these holds what it held at the mark, or nothing, if the life goes on
pub record ArePuts (puts : List (ℕ × ℕ)) (before now : List Act) : Type 0 where
  pub others : (p n : ℕ) (h : Held) → LivesOn before now p → has_slot puts p n ≡ false → holds (now ++ before) p n ≡ Some h → holds before p n ≡ Some h

-- this is remembered of these acts after those before the mark
pub record IsSince (memory : Memory) (before now : List Act) : Type 0 where
  pub known_is : memory.known ≡ length (objects before)
  pub pids_are : ArePids memory before now
  pub files_are : AreFiles memory before now
  pub sockets_are : AreSockets memory before now
  pub slots_are : AreSlots memory.slots before now
  pub puts_are : ArePuts memory.puts before now

-- what is remembered once a pid is named, which is as it was if it is remembered already
abbrev pub NotesPid : Memory → Memory → Procs → (ℕ → Bool) → Type 0
NotesPid old new procs named = (p : ℕ) → pid_in new p ≡ (if named p then Some (unwrap_or (pid_in old p) (at procs p)) else pid_in old p)

-- and so are file numbers
abbrev pub NotesFile : Memory → Memory → (FileId → Bool) → Type 0
NotesFile old new born = (f : FileId) → has_file new f ≡ (born f || has_file old f)

-- two pids and a file number fit for each of this many acts
pub record HasRoom (memory : Memory) (acts : ℕ) : Type 0 where
  pub pids : acts + acts ≤ memory.pid_spare
  pub files : acts ≤ memory.file_spare

-- at most the pids are others
abbrev pub DiffersInPids : Memory → Memory → Type 0
DiffersInPids old new = new ≡ record old { pids = new.pids; pid_spare = new.pid_spare }

-- at most the file numbers are others
abbrev pub DiffersInFiles : Memory → Memory → Type 0
DiffersInFiles old new = new ≡ record old { files = new.files; file_spare = new.file_spare }

-- at most the pids and file numbers are others
pub record DiffersInNamed (old new : Memory) : Type 0 where
  pub known : new.known ≡ old.known
  pub sockets : new.sockets ≡ old.sockets
  pub slots : new.slots ≡ old.slots
  pub puts : new.puts ≡ old.puts
  pub socket_spare : new.socket_spare ≡ old.socket_spare

-- at most the sockets are others
abbrev pub DiffersInSockets : Memory → Memory → Type 0
DiffersInSockets old new = new ≡ record old { sockets = new.sockets; socket_spare = new.socket_spare }

-- at most the descriptors are others
abbrev pub DiffersInSlots : Memory → Memory → Type 0
DiffersInSlots old new = new ≡ record old { slots = new.slots; puts = new.puts }

-- at most the room is another
pub record IsSameMemory (old new : Memory) : Type 0 where
  pub known : new.known ≡ old.known
  pub pids : new.pids ≡ old.pids
  pub files : new.files ≡ old.files
  pub sockets : new.sockets ≡ old.sockets
  pub slots : new.slots ≡ old.slots
  pub puts : new.puts ≡ old.puts

-- what is remembered once sockets got another address
abbrev pub NotesSocket : Memory → Memory → (ℕ → Bool) → Type 0
NotesSocket old new changed = (s : ℕ) → has_socket new s ≡ (changed s || has_socket old s)

-- this is the address
abbrev pub is_address : Option (List ℕ) → List ℕ → Bool
is_address None bytes = false
is_address (Some address) bytes = pointwise nat_eq address bytes

-- socket s gets another address, if one socket has a new one
abbrev pub changes_address : (ℕ → Option (List ℕ)) → Option NewAddress → ℕ → Bool
changes_address addresses None s = false
changes_address addresses (Some new) s = s == new.socket && not (is_address (addresses new.socket) new.bytes)

-- if anything is remembered, there is room for this many acts and for one address
abbrev pub HasRoomFor : Option Memory → ℕ → Type 0
HasRoomFor None acts = ⊤
HasRoomFor (Some memory) acts = HasRoom memory acts × (1 ≤ memory.socket_spare)

-- something is remembered, and it is this
abbrev pub Remembers : Option Memory → List Act → List Act → Type 0
Remembers None before now = ⊥
Remembers (Some memory) before now = IsSince memory before now

-- what was remembered still is, if descriptors hold what this table says
abbrev pub RemembersTheSame : Fds → Option Memory → Option Memory → Type 0
RemembersTheSame fds old new = (before now : List Act) → HoldsAs fds (now ++ before) → Remembers old before now → Remembers new before now

-- the mark is now, whenever that is, with this many objects
abbrev pub IsMarked : ℕ → Option Memory → Option Memory → Type 0
IsMarked known old new = (before now next : List Act) → known ≡ length (objects next) → Remembers old before now → Remembers new next []

-- an act names this descriptor, which holds this, or closes it by an exec
abbrev pub touches : Act → ℕ → ℕ → Option Held → Bool
touches (Exec pid) p n held = pid == p && is_marked held
touches (Set pid fd what cloexec) p n held = is_at pid fd p n && is_some held
touches (SetBoth pid first second cloexec) p n held = (is_at pid first p n || is_at pid second p n) && is_some held
touches (Copy pid from to cloexec) p n held = is_at pid to p n && is_some held
touches (Close pid fd) p n held = is_at pid fd p n && is_some held
touches (Mark pid fd cloexec) p n held = is_at pid fd p n && is_some held
touches (Address pid fd bytes) p n held = is_at pid fd p n && is_some held
touches other p n held = false

-- one of these acts touches this descriptor, which holds this
abbrev pub any_touches : List Act → ℕ → ℕ → Option Held → Bool
any_touches acts p n held = list_any (λ act. touches act p n held) acts

-- besides those that were there, only descriptors are there that hold something
pub record AddsHeld (fds : Fds) (old new : List (ℕ × ℕ)) : Type 0 where
  pub stay : (p n : ℕ) → has_slot old p n ≡ true → has_slot new p n ≡ true
  pub held : (p n : ℕ) → has_slot new p n ≡ true → (has_slot old p n || is_some (held_at fds p n)) ≡ true

-- each descriptor that passes is among these
abbrev pub HasThose : Fds → List (ℕ × ℕ) → (ℕ → ℕ → Option Held → Bool) → Type 0
HasThose fds slots test = (p n : ℕ) → test p n (held_at fds p n) ≡ true → has_slot slots p n ≡ true

-- an act may put something at this descriptor
abbrev pub may_put : Act → ℕ → ℕ → Bool
may_put (Set pid fd what cloexec) p n = is_at pid fd p n
may_put (SetBoth pid first second cloexec) p n = is_at pid first p n || is_at pid second p n
may_put (Copy pid from to cloexec) p n = is_at pid to p n
may_put (Mark pid fd cloexec) p n = is_at pid fd p n
may_put (Address pid fd bytes) p n = is_at pid fd p n
may_put other p n = false

-- one of these acts may
abbrev pub any_may_put : List Act → ℕ → ℕ → Bool
any_may_put acts p n = list_any (λ act. may_put act p n) acts

-- those that were there are still there
abbrev pub StillHas : List (ℕ × ℕ) → List (ℕ × ℕ) → Type 0
StillHas old new = (p n : ℕ) → has_slot old p n ≡ true → has_slot new p n ≡ true

-- each descriptor that passes is among these, whatever it holds
abbrev pub HasEach : List (ℕ × ℕ) → (ℕ → ℕ → Bool) → Type 0
HasEach slots test = (p n : ℕ) → test p n ≡ true → has_slot slots p n ≡ true

-- if anything is remembered, it has each descriptor that these acts touch, and each at which they may put something
abbrev pub HasTouched : Option Memory → Fds → List Act → Type 0
HasTouched None fds acts = ⊤
HasTouched (Some memory) fds acts = HasThose fds memory.slots (any_touches acts) × HasEach memory.puts (any_may_put acts)
