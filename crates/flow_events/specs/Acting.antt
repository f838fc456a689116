-- The process of an event, once it was seen. Every list of acts is ordered newest first.
use Rattle.std.specs.Prelude.{◌≡◌, ◌==◌, ◌++◌, ◌-◌, ◌^◌, ℕ, ⊤, Bool, true, false, List, [], ◌∷◌, Option, None, Some}
use Rattle.flow_base.specs.declared.types.Key.{Key}
use Rattle.flow_base.specs.declared.types.Key.TheVariants.{Process}
use Rattle.acts.specs.declared.act.Act.{Act}
use Rattle.acts.specs.declared.act.Act.TheVariants.{See}
use Rattle.acts.specs.declared.act.FileRef.{FileRef}
use Rattle.acts.specs.declared.link.Link.{Link}
use Rattle.acts.specs.Admitted.{Admitted}
use Rattle.acts.specs.Births.{file_key}
use Rattle.acts.specs.Flows.{link_of}
use Rattle.acts.specs.Keys.{name_if}
use Rattle.acts.specs.Lives.{life_of}
use Rattle.acts.specs.Standing.{standing}
use Rattle.acts.specs.declared.held.Held.{Held}
use Rattle.acts.specs.Holding.{holds, socket_held}
use Rattle.proc_table.specs.Table.{Table as Procs, StandsFor, standing_of, at}
use Rattle.fd_table.specs.Table.{Table as Fds, AddressesAs, HoldsAs, held_at}
use Rattle.flow_events.specs.declared.acting.Acting.{Acting}
use Rattle.flow_events.specs.declared.change.Change.{Change}
use Rattle.flow_events.specs.declared.given.Given.{Given}
use Rattle.flow_events.specs.Changes.{changed}
use Rattle.flow_events.specs.Births.{Table as Births, BornAs, BornBelow}
use Rattle.flow_events.specs.Entering.{pair_of}
use Rattle.flow_events.specs.Lives.{LivesBelow}

-- the process is in this life and holds what the tables have of its holder, and all else is as in the tables
pub record IsActing (procs : Procs) (fds : Fds) (acting : Acting) (acts : List Act) : Type 0 where
  pub life_is : life_of acts acting.pid ≡ acting.life
  pub held_are : (n : ℕ) → holds acts acting.pid n ≡ held_at fds acting.holder n
  pub addresses_are : AddressesAs fds acts
  pub others_are : (p : ℕ) → (p == acting.pid) ≡ false → standing_of (at procs p) ≡ standing acts p

-- the births are those of the acts before the event, and then those of the event
pub record IsBorn (births fresh : Births) (before now : List Act) : Type 0 where
  pub before_are : BornAs births before
  pub now_are : BornAs fresh now
  pub births_few : BornBelow births (2 ^ 63)
  pub fresh_few : BornBelow fresh (2 ^ 63)

-- the name that is given, if one is
abbrev pub pair_if : Option Given → List (Key × List ℕ)
pair_if None = []
pair_if (Some given) = pair_of given ∷ []

-- the change is what this act does to descriptors after these acts
abbrev pub DoesAs : Change → List Act → Act → Type 0
DoesAs change acts act = (p n : ℕ) → holds (act ∷ acts) p n ≡ changed change (holds acts) p n

-- the address of a socket, if there is one
abbrev pub address_through : (ℕ → Option (List ℕ)) → Option ℕ → Option (List ℕ)
address_through addresses None = None
address_through addresses (Some socket) = addresses socket

-- the address of a new socket: the stated one, or else that of the listener
abbrev pub stated : (ℕ → Option (List ℕ)) → (ℕ → Option Held) → Option (List ℕ) → Option ℕ → Option (List ℕ)
stated addresses held (Some address) listener = Some address
stated addresses held None None = None
stated addresses held None (Some listener) = address_through addresses (socket_held (held listener))

-- the key is that of a process
abbrev pub is_process : Key → Bool
is_process (Process pid life) = true
is_process other = false

-- the act is no see
abbrev pub IsNoSee : Act → Type 0
IsNoSee (See pid ppid exe) = ⊥
IsNoSee other = ⊤

-- this holds of all acts whose births these tables have: the acts before the event, and its acts so far
abbrev pub ByBirths : Births → Births → (List Act → Type 0) → Type 0
ByBirths births fresh fact = (before now : List Act) → IsBorn births fresh before now → fact (now ++ before)

-- this holds of all acts after which the process is as this table of descriptors says, whatever the lives are
abbrev pub ByDescriptors : Fds → Acting → (List Act → Type 0) → Type 0
ByDescriptors fds acting fact = (procs : Procs) (acts : List Act) → IsActing procs fds acting acts → fact acts

-- this holds of all acts after which the process is as this table of lives says, whatever descriptors hold
abbrev pub ByLives : Procs → Acting → (List Act → Type 0) → Type 0
ByLives procs acting fact = (fds : Fds) (acts : List Act) → IsActing procs fds acting acts → fact acts

-- this holds of all acts whose births these tables have and after which the process is as they say
abbrev pub ByEvent : Procs → Fds → Births → Births → Acting → (List Act → Type 0) → Type 0
ByEvent procs fds births fresh acting fact =
    (before now : List Act) → IsBorn births fresh before now → IsActing procs fds acting (now ++ before) → fact (now ++ before)

-- after a see of this pid, which says this parent, it is in this life
abbrev pub SeesLife : Procs → ℕ → ℕ → ℕ → Type 0
SeesLife procs pid ppid life =
    LivesBelow procs (2 ^ 64 - 1) → (before : List Act) (exe : Option (List ℕ)) → StandsFor procs before → life_of (See pid ppid exe ∷ before) pid ≡ life

-- after a see of this pid, which says this parent, it holds what this one held before
abbrev pub SeesHolder : Procs → ℕ → ℕ → ℕ → Type 0
SeesHolder procs pid ppid holder =
    (before : List Act) (exe : Option (List ℕ)) → StandsFor procs before → Admitted before
    → (n : ℕ) → holds (See pid ppid exe ∷ before) pid n ≡ holds before holder n

-- a see of this pid, which says this parent, does this to descriptors
abbrev pub SeesChange : Procs → ℕ → ℕ → Change → Type 0
SeesChange procs pid ppid change =
    (before : List Act) (exe : Option (List ℕ)) → StandsFor procs before → Admitted before
    → DoesAs change before (See pid ppid exe)

-- a see of this pid, which says this parent, links this
abbrev pub SeesLink : Procs → ℕ → ℕ → Option Link → Type 0
SeesLink procs pid ppid link =
    LivesBelow procs (2 ^ 64 - 1) → (before : List Act) (exe : Option (List ℕ)) → StandsFor procs before → link ≡ link_of before (See pid ppid exe)

-- if the tables stand for these acts, and the see brings the process into its life with what its holder held, the process is as they say
abbrev pub SeeStarts : Procs → Fds → Acting → List Act → Act → Type 0
SeeStarts procs fds acting acts see =
    StandsFor procs acts → HoldsAs fds acts → AddressesAs fds acts → life_of (see ∷ acts) acting.pid ≡ acting.life
    → ((n : ℕ) → holds (see ∷ acts) acting.pid n ≡ holds acts acting.holder n) → IsActing procs fds acting (see ∷ acts)

-- the key of the process, in its life
abbrev pub process_of : Acting → Key
process_of acting = Process acting.pid acting.life

-- the program of the process as its name, if it is known
abbrev pub exe_name : Acting → Option (List ℕ) → List (Key × List ℕ)
exe_name acting exe = name_if (process_of acting) exe

-- the path of a file as its name, if it has one
abbrev pub path_name : List Act → FileRef → List (Key × List ℕ)
path_name acts file = name_if (file_key acts file) file.path
