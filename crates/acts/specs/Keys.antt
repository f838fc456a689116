-- The key of a thing, and the names that acts give to keys. Every list of acts is ordered newest first.
use Rattle.std.specs.Prelude.{◌++◌, ℕ, Bool, List, [], ◌∷◌, length, if◌then◌else◌, Option, None, Some, filter, fold, map, nat_eq, nat_le, ◌||◌}
use Rattle.std.specs.List.{list_any}
use Rattle.flow_base.specs.declared.types.Key.{Key}
use Rattle.flow_base.specs.declared.types.Key.TheVariants.{Process, Address, Made, Lost}
use Rattle.flow_base.specs.contracts.types.KeyPartialEq.TheImpl.{ghosts}
use Rattle.std.specs.Cmp.Lexicographic.{pointwise}
use Rattle.acts.specs.declared.act.Act.{Act}
use Rattle.acts.specs.declared.act.Act.TheVariants.{See, Set, Birth, Move, Address as AnAddress}
use Rattle.acts.specs.declared.act.Opens.TheVariants.{File as AFile, Socket as ASocket}
use Rattle.acts.specs.declared.act.Thing.{Thing}
use Rattle.acts.specs.declared.act.Thing.TheVariants.{Fd as ThingFd, File as ThingFile, Address as ThingAddress}
use Rattle.acts.specs.declared.held.Held.{Held}
use Rattle.acts.specs.declared.held.Object.{Object}
use Rattle.acts.specs.declared.held.Object.TheVariants.{File, Pipe, Sock}
use Rattle.acts.specs.Lives.{life_of}
use Rattle.acts.specs.Births.{file_key}
use Rattle.acts.specs.Holding.{holds, address_of}

-- the process that a pid is after these acts
abbrev pub process_key : List Act → ℕ → Key
process_key acts pid = Process pid (life_of acts pid)

-- a socket is its address, and the act that made it if it has none
abbrev pub socket_key : ℕ → Option (List ℕ) → Key
socket_key act None = Made act
socket_key act (Some address) = Address address

-- a file is the key that was put, a pipe is its act
abbrev pub object_key : List Act → Object → Key
object_key acts (File key) = key
object_key acts (Pipe act) = Made act
object_key acts (Sock act) = socket_key act (address_of acts act)

-- the key of what is held, or else this key of a descriptor of which nothing is known
abbrev pub held_key : List Act → Key → Option Held → Key
held_key acts lost None = lost
held_key acts lost (Some held) = object_key acts held.object

-- the key of a thing that pid names, after these acts
abbrev pub thing_key : List Act → ℕ → Thing → Key
thing_key acts pid (ThingFd fd) = held_key acts (Lost pid (life_of acts pid) fd) (holds acts pid fd)
thing_key acts pid (ThingFile file) = file_key acts file
thing_key acts pid (ThingAddress address) = Address address

-- a name that is given only if there is one
abbrev pub name_if : Key → Option (List ℕ) → List (Key × List ℕ)
name_if key None = []
name_if key (Some text) = (key, text) ∷ []

-- the texts of addresses stand with the texts of paths, below these definitions
module _ (address_text : List ℕ → List ℕ) where
  -- the keys that an act names, each with its text
  abbrev pub given : List Act → Act → List (Key × List ℕ)
  given before (See pid ppid exe) = name_if (process_key (See pid ppid exe ∷ before) pid) exe
  given before (Set pid fd (AFile file) cloexec) = name_if (file_key before file) file.path
  given before (Set pid fd (ASocket (Some address) listener) cloexec) = (Address address, address_text address) ∷ []
  given before (Birth file) = name_if (file_key (Birth file ∷ before) file) file.path
  given before (Move pid inward how (ThingFile file)) = name_if (file_key before file) file.path
  given before (Move pid inward how (ThingAddress address)) = (Address address, address_text address) ∷ []
  given before (AnAddress pid fd address) = (Address address, address_text address) ∷ []
  given before other = []

  -- all that was given, oldest first
  abbrev pub all_given : List Act → List (Key × List ℕ)
  all_given [] = []
  all_given (act ∷ before) = all_given before ++ given before act

-- x is appended if it is new
module _ {X : Type 0} (eq : X → X → Bool) where
  abbrev pub put_new : List X → X → List X
  put_new seen x = if list_any (eq x) seen then seen else seen ++ x ∷ []

-- how many names a key has at most
abbrev pub MOST_NAMES : ℕ
MOST_NAMES = 16

-- a text is appended if it is new and there are fewer than 16
abbrev pub with_name : List (List ℕ) → List ℕ → List (List ℕ)
with_name names text = if list_any (pointwise nat_eq text) names || nat_le MOST_NAMES (length names) then names else names ++ text ∷ []

-- the names of a key: the first 16 distinct texts among these that were given to it
abbrev pub names_of : Key → List (Key × List ℕ) → List (List ℕ)
names_of key pairs = fold with_name [] (map (λ p. p.1) (filter (λ p. ghosts.eq p.0 key) pairs))
