-- What is worked out of an event so far. Every list of acts is ordered newest first, what is added oldest first.
use Rattle.std.specs.Prelude.{◌≡◌, ◌≤◌, ◌<◌, ◌+◌, ◌-◌, ◌^◌, ◌++◌, ℕ, Option, List, [], ◌∷◌, length, map, reverse}
use Rattle.name_text.specs.Addresses.{text_of}
use Rattle.flow_base.specs.declared.limits.Full.{Full}
use Rattle.acts.specs.declared.act.Taken.{Taken}
use Rattle.acts.specs.declared.act.Act.TheVariants.{See}
use Rattle.acts.specs.Lives.{life_of}
use Rattle.proc_table.specs.Table.{StandsFor as LivesAs}
use Rattle.acts.specs.Keys.{all_given}
use Rattle.acts.specs.Flows.{acts_of, objects, flows}
use Rattle.entity_names.specs.Known.{Known, NamesAs}
use Rattle.acts.specs.declared.act.Act.{Act}
use Rattle.flow_events.specs.declared.draft.Draft.{Draft}
use Rattle.flow_events.specs.declared.draft.Ground.{Ground}
use Rattle.flow_events.specs.declared.acting.Acting.{Acting}
use Rattle.flow_events.specs.Acting.{IsActing}
use Rattle.flow_events.specs.Added.{AreNew, AreNumbered, IsPast}
use Rattle.flow_events.specs.Births.{Table as Births, BornAs}
use Rattle.flow_events.specs.Entering.{SameNames, pair_of}
use Rattle.flow_events.specs.Lives.{LivesBelow}

-- the draft has the births, names, objects and flows that these acts add to those before; a name that its key has by then may be left out
pub record Drafted (births : Births) (entities : Known) (draft : Draft) (before now : List Taken) : Type 0 where
  pub before_are : BornAs births (acts_of before)
  pub now_are : BornAs draft.births (acts_of now)
  pub known_are : NamesAs entities (all_given text_of (acts_of before))
  pub names_are : SameNames (all_given text_of (acts_of now ++ acts_of before)) (all_given text_of (acts_of before) ++ map pair_of draft.given)
  pub objects_are : objects (acts_of now ++ acts_of before) ≡ entities.keys ++ draft.added.keys
  pub flows_are : flows (now ++ before) ≡ flows before ++ draft.added.flows

-- an event is under way: its draft has these acts, and its process is as they say
pub record UnderWay (ground : Ground) (acting : Acting) (draft : Draft) (before now : List Taken) : Type 0 where
  pub drafted : Drafted ground.births.now ground.entities.now draft before now
  pub acting_is : IsActing ground.procs.now ground.fds.now acting (acts_of now ++ acts_of before)
  pub base : ground.flows ≡ length (flows before)

-- the event is under way, and there are numbers for the lives and births of this many more acts of it
pub record MayGoOn (ground : Ground) (acting : Acting) (draft : Draft) (before now : List Taken) (more : ℕ) : Type 0 where
  pub way : UnderWay ground acting draft before now
  pub lives_few : LivesBelow ground.procs.now (2 ^ 64 - 1)
  pub before_few : length before < 2 ^ 63 - 1
  pub now_few : length now + more < 2 ^ 63 - 1

-- what the draft adds to the ground is numbered, at the time of the event and from the next place on
abbrev pub IsNumbered : Ground → Draft → Type 0
IsNumbered ground draft = AreNumbered ground.entities.now.keys ground.ms ground.flows draft.added

-- acts of one event, oldest first, as a log has them, newest first
abbrev pub turned : ℕ → ℕ → List Act → List Taken
turned ms serial acts = reverse (map (λ act. record { act = act; ms = ms; serial = serial }) acts)

-- an act of the event as a log has it
abbrev pub taken_at : Ground → Act → Taken
taken_at ground act = record { act = act; ms = ground.ms; serial = ground.serial }

-- each key that the draft adds to the objects of the ground was new when it came
abbrev pub HasNewKeys : Ground → Draft → Type 0
HasNewKeys ground draft = AreNew ground.entities.now.keys draft.added.keys

-- nothing was worked out yet
pub record IsEmpty (draft : Draft) : Type 0 where
  pub births : BornAs draft.births []
  pub given : draft.given ≡ []
  pub added : draft.added ≡ record { keys = []; flows = [] }

-- if the keys that the draft added before were each new when they came, those that it adds now are too
abbrev pub StaysNew : Ground → Draft → Draft → Type 0
StaysNew ground old new = HasNewKeys ground old → HasNewKeys ground new

-- if what the draft added before is numbered, what it adds now is too
abbrev pub StaysNumbered : Ground → Draft → Draft → Type 0
StaysNumbered ground old new = IsNumbered ground old → IsNumbered ground new

-- the objects of the ground, with those that the draft adds, are no more than there may be
abbrev pub DraftFits : Ground → Draft → Type 0
DraftFits ground draft = length (ground.entities.now.keys ++ draft.added.keys) ≤ ground.most

-- after the flows of the draft there are places for this many more
abbrev pub HasPlacesFor : Ground → Draft → ℕ → Type 0
HasPlacesFor ground draft more = ground.flows + (length draft.added.flows + more) < 2 ^ 64

-- the draft adds at most this many flows more than before
abbrev pub GrowsAtMost : Draft → Draft → ℕ → Type 0
GrowsAtMost old new more = length new.added.flows ≤ length old.added.flows + more

-- the see of the process, which says this parent and this program
abbrev pub see_of : Acting → ℕ → Option (List ℕ) → Act
see_of acting ppid exe = See acting.pid ppid exe

-- a draft of no acts becomes that of the see that brings the process into its life
abbrev pub AddsSee : Ground → Acting → ℕ → Option (List ℕ) → Draft → Draft → Type 0
AddsSee ground acting ppid exe old new =
    LivesBelow ground.procs.now (2 ^ 64 - 1) → (before : List Taken) → ground.flows ≡ length (flows before) → LivesAs ground.procs.now (acts_of before)
    → life_of (see_of acting ppid exe ∷ acts_of before) acting.pid ≡ acting.life
    → Drafted ground.births.now ground.entities.now old before []
    → Drafted ground.births.now ground.entities.now new before (taken_at ground (see_of acting ppid exe) ∷ [])

-- after a draft of no acts, the objects with those of the see are more than there may be
abbrev pub SeePasses : Ground → Acting → ℕ → Option (List ℕ) → Draft → Full → Type 0
SeePasses ground acting ppid exe draft full =
    LivesBelow ground.procs.now (2 ^ 64 - 1) → (before : List Taken) → LivesAs ground.procs.now (acts_of before)
    → Drafted ground.births.now ground.entities.now draft before []
    → IsPast ground.most full (objects (see_of acting ppid exe ∷ acts_of before))

-- the draft of an event that is under way has this act too
abbrev pub AddsAct : Ground → Acting → Act → Draft → Draft → Type 0
AddsAct ground acting act old new =
    (before now : List Taken) → MayGoOn ground acting old before now 0
    → Drafted ground.births.now ground.entities.now new before (taken_at ground act ∷ now)

-- the objects with those of this act are more than there may be
abbrev pub ActPasses : Ground → Acting → Act → Draft → Full → Type 0
ActPasses ground acting act draft full =
    (before now : List Taken) → MayGoOn ground acting draft before now 0
    → IsPast ground.most full (objects (act ∷ (acts_of now ++ acts_of before)))

-- the event is still under way after these acts, oldest first
abbrev pub AddsActs : Ground → Acting → List Act → Draft → Draft → Type 0
AddsActs ground acting acts old new =
    (before now : List Taken) → MayGoOn ground acting old before now (length acts)
    → UnderWay ground acting new before (turned ground.ms ground.serial acts ++ now)

-- the objects with those of these acts, oldest first, are more than there may be
abbrev pub DraftedActsPass : Ground → Acting → List Act → Draft → Full → Type 0
DraftedActsPass ground acting acts draft full =
    (before now : List Taken) → MayGoOn ground acting draft before now (length acts)
    → IsPast ground.most full (objects (acts_of (turned ground.ms ground.serial acts ++ now) ++ acts_of before))
