-- Worked lists of acts, and what the definitions make of them. Acts stand newest first.
use Rattle.std.specs.Prelude.{◌≡◌, ℕ, ◌+◌, true, false, List, [], ◌∷◌, None, Some, refl, codes}
use Rattle.flow_base.specs.declared.types.Key.{Key}
use Rattle.flow_base.specs.declared.types.Key.TheVariants.{Process, Inode, Lost, Address}
use Rattle.flow_base.specs.declared.types.FileId.{FileId}
use Rattle.flow_base.specs.declared.types.Flow.{Flow}
use Rattle.flow_base.specs.declared.types.How.{How}
use Rattle.flow_base.specs.declared.types.How.TheVariants.{Fork as ByFork, Exec as ByExec, Read, Write, Alter}
use Rattle.acts.specs.declared.act.Act.{Act}
use Rattle.acts.specs.declared.act.Act.TheVariants.{See, Fork, End, Exec, Set, Copy, Move, Address as AnAddress}
use Rattle.acts.specs.declared.act.Taken.{Taken}
use Rattle.acts.specs.declared.act.FileRef.{FileRef}
use Rattle.acts.specs.declared.act.Opens.TheVariants.{File as AFile, Socket as ASocket}
use Rattle.acts.specs.declared.act.Thing.TheVariants.{Fd as ThingFd, File as ThingFile}
use Rattle.acts.specs.Lives.{life_of, awaited}
use Rattle.acts.specs.Keys.{all_given, names_of}
use Rattle.acts.specs.Flows.{flows, objects, acts_of}

-- an act of the event with this serial, which happened this many milliseconds after the first second
abbrev at : ℕ → Act → Taken
at serial act = record { act = act; ms = 999 + serial; serial = serial }

-- a logged call of a process that runs /p
abbrev see : ℕ → ℕ → Act
see pid ppid = See pid ppid (Some (codes "/p"))

-- the flow between two objects that the event with this serial makes
abbrev arrow : ℕ → ℕ → How → ℕ → ℕ → Flow
arrow from to how serial place = record { from = record { 0 = from }; to = record { 0 = to }; how = how; at = record { ms = 999 + serial; place = place }; serial = serial }

-- what was given to a key, if an address is its own text
abbrev names : Key → List Taken → List (List ℕ)
names key taken = names_of key (all_given (λ bytes. bytes) (acts_of taken))

-- a file with a number, and the name /f
abbrev file : ℕ → FileId
file ino = record { device = record { major = 8; minor = 1 }; ino = ino }

abbrev of_file : ℕ → FileRef
of_file ino = record { file = Some (file ino); path = Some (codes "/f") }

-- two processes change one file
abbrev shared : List Taken
shared = at 2 (Move 200 false Alter (ThingFile (of_file 7))) ∷ at 2 (see 200 1) ∷ at 1 (Move 100 false Alter (ThingFile (of_file 7))) ∷ at 1 (see 100 1) ∷ []

shared_objects : objects (acts_of shared) ≡ Process 100 0 ∷ Inode (file 7) 0 ∷ Process 200 0 ∷ []
shared_objects = refl

shared_flows : flows shared ≡ arrow 0 1 Alter 1 0 ∷ arrow 2 1 Alter 2 1 ∷ []
shared_flows = refl

-- a child that makes a call before its fork is logged, ends, and is forked again
abbrev used_again : List Taken
used_again =
    at 5 (Fork 100 101) ∷ at 5 (see 100 1) ∷ at 4 (End 101) ∷ at 4 (see 101 100) ∷ at 3 (Fork 100 101) ∷ at 3 (see 100 1) ∷ at 2 (Move 101 true Read (ThingFd 3)) ∷ at 2 (see 101 100) ∷ at 1 (see 100 1) ∷ []

used_again_objects : objects (acts_of used_again) ≡ Process 100 0 ∷ Process 101 0 ∷ Lost 101 0 3 ∷ Process 101 1 ∷ []
used_again_objects = refl

used_again_flows : flows used_again ≡ arrow 0 1 ByFork 2 0 ∷ arrow 2 1 Read 2 1 ∷ arrow 0 3 ByFork 5 2 ∷ []
used_again_flows = refl

used_again_first_name : names (Process 101 0) used_again ≡ codes "/p" ∷ []
used_again_first_name = refl

used_again_no_name : names (Process 101 1) used_again ≡ []
used_again_no_name = refl

-- a process is seen whose parent was not, and its fork is logged later: the flow is made then
abbrev seen_first : List Taken
seen_first = at 2 (Fork 100 101) ∷ at 2 (see 100 1) ∷ at 1 (see 101 100) ∷ []

seen_first_flows : flows seen_first ≡ arrow 0 1 ByFork 2 0 ∷ []
seen_first_flows = refl

seen_first_life : life_of (acts_of seen_first) 101 ≡ 0
seen_first_life = refl

seen_first_awaits : awaited (acts_of seen_first) 101 ≡ None
seen_first_awaits = refl

-- a pid that is forked twice has two lives, also with no end between, and a fork by itself is nothing
abbrev forked_twice : List Taken
forked_twice = at 3 (Fork 100 100) ∷ at 2 (Fork 100 101) ∷ at 1 (Fork 100 101) ∷ at 1 (see 100 1) ∷ []

forked_twice_objects : objects (acts_of forked_twice) ≡ Process 100 0 ∷ Process 101 0 ∷ Process 101 1 ∷ []
forked_twice_objects = refl

forked_twice_flows : flows forked_twice ≡ arrow 0 1 ByFork 1 0 ∷ arrow 0 2 ByFork 2 1 ∷ []
forked_twice_flows = refl

-- the bytes of 192.0.2.1, port 443
abbrev address : List ℕ
address = 2 ∷ 0 ∷ 1 ∷ 187 ∷ 192 ∷ 0 ∷ 2 ∷ 1 ∷ []

-- a file is opened, its descriptor copied, another program runs, and a socket is connected
abbrev connects : List Taken
connects =
    at 8 (Move 100 false Write (ThingFd 4)) ∷ at 8 (see 100 1) ∷ at 7 (AnAddress 100 4 address) ∷ at 7 (see 100 1)
    ∷ at 6 (Set 100 4 (ASocket None None) false) ∷ at 6 (see 100 1) ∷ at 5 (Move 100 true Read (ThingFd 9)) ∷ at 5 (see 100 1)
    ∷ at 4 (Move 100 true Read (ThingFd 3)) ∷ at 4 (see 100 1) ∷ at 3 (Exec 100) ∷ at 3 (Move 100 true ByExec (ThingFile (of_file 8)))
    ∷ at 3 (see 100 1) ∷ at 2 (Copy 100 3 9 false) ∷ at 2 (see 100 1) ∷ at 1 (Set 100 3 (AFile (of_file 7)) true) ∷ at 1 (see 100 1) ∷ []

connects_objects : objects (acts_of connects) ≡ Inode (file 8) 0 ∷ Process 100 0 ∷ Lost 100 0 3 ∷ Inode (file 7) 0 ∷ Address address ∷ []
connects_objects = refl

connects_flows : flows connects ≡ arrow 0 1 ByExec 3 0 ∷ arrow 2 1 Read 4 1 ∷ arrow 3 1 Read 5 2 ∷ arrow 1 4 Write 8 3 ∷ []
connects_flows = refl

connects_file_name : names (Inode (file 7) 0) connects ≡ codes "/f" ∷ []
connects_file_name = refl

connects_lost_name : names (Lost 100 0 3) connects ≡ []
connects_lost_name = refl

connects_address_name : names (Address address) connects ≡ address ∷ []
connects_address_name = refl
