-- What is worked out of a whole event. Every list of acts is ordered newest first.
use Rattle.std.specs.Prelude.{◌+◌, ◌≡◌, ◌<◌, ◌-◌, ◌++◌, ◌^◌, ℕ, Option, None, List, [], ◌∷◌, length}
use Rattle.flow_base.specs.declared.limits.Full.{Full}
use Rattle.acts.specs.declared.act.Act.TheVariants.{See}
use Rattle.acts.specs.declared.act.Taken.{Taken}
use Rattle.acts.specs.Admitted.{Admitted}
use Rattle.acts.specs.Holding.{holds, address_of}
use Rattle.acts.specs.Keys.{all_given}
use Rattle.acts.specs.Flows.{acts_of, objects, flows}
use Rattle.name_text.specs.Addresses.{text_of}
use Rattle.entity_names.specs.Known.{NamesAs}
use Rattle.proc_table.specs.Table.{StandsFor as LivesAs}
use Rattle.fd_table.specs.Table.{HoldsAs, AddressesAs}
use Rattle.flow_events.specs.declared.draft.Draft.{Draft}
use Rattle.flow_events.specs.declared.draft.Ground.{Ground}
use Rattle.flow_events.specs.declared.acting.Acting.{Acting}
use Rattle.flow_events.specs.declared.change.Change.{Change}
use Rattle.flow_events.specs.declared.change.Change.TheVariants.{Nothing}
use Rattle.acts.specs.declared.act.Act.{Act}
use Rattle.flow_events.specs.declared.work.Worked.{Worked}
use Rattle.flow_events.specs.Acting.{DoesAs}
use Rattle.flow_events.specs.Added.{IsPast}
use Rattle.flow_events.specs.Births.{BornAs}
use Rattle.flow_events.specs.Changes.{changed}
use Rattle.flow_events.specs.Drafts.{Drafted, UnderWay, taken_at, turned}
use Rattle.flow_events.specs.Lives.{LivesBelow}
use Rattle.flow_events.specs.Standing.{readdressed}

-- the ground says what these acts say
pub record Grounded (ground : Ground) (before : List Taken) : Type 0 where
  pub lives_are : LivesAs ground.procs.now (acts_of before)
  pub held_are : HoldsAs ground.fds.now (acts_of before)
  pub addresses_are : AddressesAs ground.fds.now (acts_of before)
  pub births_are : BornAs ground.births.now (acts_of before)
  pub objects_are : ground.entities.now.keys ≡ objects (acts_of before)
  pub names_are : NamesAs ground.entities.now (all_given text_of (acts_of before))
  pub flows_are : ground.flows ≡ length (flows before)
  pub admitted : Admitted (acts_of before)
  pub few : length before < 2 ^ 63 - 1
  pub lives_few : LivesBelow ground.procs.now (2 ^ 64 - 1)

-- the see of an event as a log has it
abbrev pub see_at : ℕ → ℕ → ℕ → ℕ → Option (List ℕ) → Taken
see_at ms serial pid ppid exe = record { act = See pid ppid exe; ms = ms; serial = serial }

-- the event does these acts
pub record IsWorked (ground : Ground) (worked : Worked) (before now : List Taken) : Type 0 where
  pub drafted : Drafted ground.births.now ground.entities.now worked.draft before now
  pub held_are : (p n : ℕ) → holds (acts_of now ++ acts_of before) p n ≡ changed worked.last (changed worked.see (holds (acts_of before))) p n
  pub addresses_are : (s : ℕ) → address_of (acts_of now ++ acts_of before) s ≡ readdressed worked.address (address_of (acts_of before)) s

-- nothing of the event is worked out
pub record IsFresh (worked : Worked) : Type 0 where
  pub see : worked.see ≡ Nothing
  pub last : worked.last ≡ Nothing
  pub address : worked.address ≡ None
  pub births : BornAs worked.draft.births []
  pub given : worked.draft.given ≡ []
  pub added : worked.draft.added ≡ record { keys = []; flows = [] }

-- with these acts of the event the objects are more than there may be, and that is what is said
pub record IsRefused (ground : Ground) (full : Full) (before now : List Taken) : Type 0 where
  pub past : IsPast ground.most full (objects (acts_of now ++ acts_of before))

-- the event was begun by this act, after this many acts, and this many more are few
pub record IsBegun (ground : Ground) (acting : Acting) (draft : Draft) (before : List Taken) (first : Taken) (acts more : ℕ) : Type 0 where
  pub way : UnderWay ground acting draft before (first ∷ [])
  pub lives_few : LivesBelow ground.procs.now (2 ^ 64 - 1)
  pub acts_are : acts ≡ length before
  pub few : length before + (more + 2) < 2 ^ 63 - 1

-- after this many acts, this many more are few
pub record IsFew (ground : Ground) (before : List Taken) (acts more : ℕ) : Type 0 where
  pub grounded : Grounded ground before
  pub acts_are : acts ≡ length before
  pub few : length before + (more + 2) < 2 ^ 63 - 1

-- with this see the event is under way
abbrev pub BeginsWay : Ground → ℕ → ℕ → Option (List ℕ) → Draft → Acting → Type 0
BeginsWay ground pid ppid exe draft acting =
    (before : List Taken) → Grounded ground before
    → UnderWay ground acting draft before (see_at ground.ms ground.serial pid ppid exe ∷ [])

-- the first change of the event is what this see does
abbrev pub BeginsAs : Ground → ℕ → ℕ → Option (List ℕ) → Change → Type 0
BeginsAs ground pid ppid exe see = (before : List Taken) → Grounded ground before → DoesAs see (acts_of before) (See pid ppid exe)

-- with this see the objects are more than there may be
abbrev pub SeeIsPast : Ground → ℕ → ℕ → Option (List ℕ) → Full → Type 0
SeeIsPast ground pid ppid exe full =
    (before : List Taken) → Grounded ground before → IsPast ground.most full (objects (See pid ppid exe ∷ acts_of before))

-- an event that was begun after this many acts does these births and moves, oldest first, and this last act
abbrev pub GoesOnWith : Ground → Acting → (begun : Worked) → ℕ → List Act → Act → (worked : Worked) → Type 0
GoesOnWith ground acting begun acts front last worked =
    (before : List Taken) (first : Taken) → Grounded ground before → IsBegun ground acting begun.draft before first acts (length front)
    → DoesAs begun.see (acts_of before) first.act
    → IsWorked ground worked before (taken_at ground last ∷ (turned ground.ms ground.serial front ++ first ∷ []))

-- with the acts of such an event the objects are more than there may be
abbrev pub GoesPast : Ground → Acting → Draft → ℕ → List Act → Act → Full → Type 0
GoesPast ground acting draft acts front last full =
    (before : List Taken) (first : Taken) → IsBegun ground acting draft before first acts (length front)
    → IsPast ground.most full (objects (last ∷ (acts_of (turned ground.ms ground.serial front ++ first ∷ []) ++ acts_of before)))

-- after this many acts, the event does this see and then the rest, oldest first
abbrev pub DoesRest : Ground → ℕ → ℕ → ℕ → Option (List ℕ) → List Act → Worked → Type 0
DoesRest ground acts pid ppid exe rest worked =
    (before : List Taken) → Grounded ground before → IsFew ground before acts (length rest)
    → IsWorked ground worked before (turned ground.ms ground.serial rest ++ see_at ground.ms ground.serial pid ppid exe ∷ [])

-- after this many acts, the objects with those of this see and the rest are more than there may be
abbrev pub RestIsPast : Ground → ℕ → ℕ → ℕ → Option (List ℕ) → List Act → Full → Type 0
RestIsPast ground acts pid ppid exe rest full =
    (before : List Taken) → IsFew ground before acts (length rest)
    → IsRefused ground full before (turned ground.ms ground.serial rest ++ see_at ground.ms ground.serial pid ppid exe ∷ [])

-- after this many earlier acts, the event does these, oldest first
abbrev pub DoesEvent : Ground → ℕ → List Act → Worked → Type 0
DoesEvent ground number acts worked =
    (before : List Taken) → IsFew ground before number (length acts) → IsWorked ground worked before (turned ground.ms ground.serial acts)

-- after this many earlier acts, the objects with those of the event are more than there may be
abbrev pub EventIsPast : Ground → ℕ → List Act → Full → Type 0
EventIsPast ground number acts full =
    (before : List Taken) → IsFew ground before number (length acts) → IsRefused ground full before (turned ground.ms ground.serial acts)
