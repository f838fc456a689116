-- What the tables stand for, and what a plan does to them. Every list of acts is ordered newest first.
use Rattle.std.specs.Prelude.{◌≡◌, ◌==◌, ◌≤◌, ◌<◌, ◌+◌, ◌-◌, ◌++◌, ◌^◌, ℕ, List, ◌∷◌, length, reverse, if◌then◌else◌, Option, None, Some}
use Rattle.acts.specs.declared.act.Act.{Act}
use Rattle.acts.specs.declared.act.Taken.{Taken}
use Rattle.acts.specs.Holding.{holds, address_of}
use Rattle.acts.specs.Keys.{all_given}
use Rattle.acts.specs.Flows.{acts_of, objects, flows}
use Rattle.proc_table.specs.Table.{StandsFor as LivesAs}
use Rattle.fd_table.specs.Table.{HoldsAs, AddressesAs, HoldsTheSame}
use Rattle.flow_base.specs.declared.types.Flow.{Flow}
use Rattle.flow_base.specs.declared.types.Key.{Key}
use Rattle.flow_base.specs.declared.limits.Limits.{Limits}
use Rattle.entity_names.specs.Known.{NamesAs, names_at}
use Rattle.flow_events.specs.declared.plan.NewAddress.{NewAddress}
use Rattle.flow_events.specs.declared.plan.Plan.{Plan}
use Rattle.flow_events.specs.declared.tables.Tables.{Tables}
use Rattle.flow_events.specs.Added.{StandFrom}
use Rattle.flow_events.specs.Births.{BornAs}
use Rattle.flow_events.specs.Changes.{changed, need}
use Rattle.flow_events.specs.Since.{HasRoomFor, HasTouched, RemembersTheSame}
use Rattle.flow_events.specs.Entering.{Covers, SameNames, SavedAlike, entered, pairs_of}
use Rattle.reach_rows.specs.Kept.{GoOn, known_after}

-- the tables say what these acts say, if an address has this text
pub record StandsFor (address_text : List ℕ → List ℕ) (tables : Tables) (taken : List Taken) : Type 0 where
  pub lives_are : LivesAs tables.procs (acts_of taken)
  pub held_are : HoldsAs tables.fds (acts_of taken)
  pub addresses_are : AddressesAs tables.fds (acts_of taken)
  pub births_are : BornAs tables.births (acts_of taken)
  pub objects_are : tables.entities.keys ≡ objects (acts_of taken)
  pub names_are : NamesAs tables.entities (all_given address_text (acts_of taken))
  pub flows_are : tables.flows ≡ length (flows taken)
  pub acts_are : tables.acts ≡ length taken
  pub limit_is : tables.limits.entities ≡ tables.entities.limit
  pub objects_fit : length tables.entities.keys ≤ tables.entities.limit

-- the flows aren't too many to be counted on, and the objects fit, whether or not the tables stand for some acts
pub record AreSafe (tables : Tables) : Type 0 where
  pub flows_few : tables.flows ≤ 2 ^ 60
  pub limit_is : tables.limits.entities ≡ tables.entities.limit
  pub objects_fit : length tables.entities.keys ≤ tables.entities.limit

-- the address of socket s, if one socket has a new one
abbrev pub readdressed : Option NewAddress → (ℕ → Option (List ℕ)) → ℕ → Option (List ℕ)
readdressed None addresses s = addresses s
readdressed (Some new) addresses s = if s == new.socket then Some new.bytes else addresses s

-- how many addresses are new
abbrev pub addresses_in : Option NewAddress → ℕ
addresses_in None = 0
addresses_in (Some new) = 1

-- the plan does what these acts do after those before
pub record IsPlanOf (address_text : List ℕ → List ℕ) (plan : Plan) (before now : List Taken) : Type 0 where
  pub acts_are : acts_of (now ++ before) ≡ reverse plan.acts ++ acts_of before
  pub held_are : (p n : ℕ) → holds (acts_of (now ++ before)) p n ≡ changed plan.work.last (changed plan.work.see (holds (acts_of before))) p n
  pub addresses_are : (s : ℕ) → address_of (acts_of (now ++ before)) s ≡ readdressed plan.work.address (address_of (acts_of before)) s
  pub names_are : SameNames (all_given address_text (acts_of (now ++ before))) (all_given address_text (acts_of before) ++ pairs_of plan.work.draft.given)
  pub objects_are : objects (acts_of (now ++ before)) ≡ entered (objects (acts_of before)) plan.work.draft.added.keys
  pub flows_are : flows (now ++ before) ≡ flows before ++ plan.work.draft.added.flows
  pub count_is : length (now ++ before) ≡ length before + length plan.acts

-- there is room in the tables for all that the plan does
pub record IsReady (tables : Tables) (plan : Plan) : Type 0 where
  pub lives : length plan.acts ≤ tables.procs.spare
  pub births : length plan.acts ≤ tables.births.spare
  pub held : need plan.work.see + need plan.work.last ≤ tables.fds.spare
  pub addresses : addresses_in plan.work.address ≤ tables.fds.address_spare
  pub names : Covers tables.entities plan.work.draft.given
  pub keys : length plan.work.draft.added.keys ≤ tables.entities.spare
  pub objects_fit : length (entered tables.entities.keys plan.work.draft.added.keys) ≤ tables.entities.limit
  pub flows_fit : tables.flows + length plan.work.draft.added.flows ≤ 2 ^ 60
  pub acts_fit : tables.acts + length plan.acts < 2 ^ 64 - 1
  pub since : HasRoomFor tables.since (length plan.acts)
  pub touched : HasTouched tables.since tables.fds plan.acts

-- there is room for what the plan does to lives, births, descriptors, addresses, names and objects
pub record HasRooms (tables : Tables) (plan : Plan) : Type 0 where
  pub lives : length plan.acts ≤ tables.procs.spare
  pub births : length plan.acts ≤ tables.births.spare
  pub held : need plan.work.see + need plan.work.last ≤ tables.fds.spare
  pub addresses : 1 ≤ tables.fds.address_spare
  pub names : Covers tables.entities plan.work.draft.given
  pub keys : length plan.work.draft.added.keys ≤ tables.entities.spare
  pub since : HasRoomFor tables.since (length plan.acts)
  pub touched : HasTouched tables.since tables.fds plan.acts

-- the tables differ at most in their room
pub record DiffersInRoom (old new : Tables) : Type 0 where
  pub lives : new.procs.all ≡ old.procs.all
  pub births : new.births.all ≡ old.births.all
  pub held : HoldsTheSame old.fds new.fds
  pub addresses : new.fds.addresses ≡ old.fds.addresses
  pub keys : new.entities.keys ≡ old.entities.keys
  pub limit : new.entities.limit ≡ old.entities.limit
  pub most_names : new.entities.most_names ≡ old.entities.most_names
  pub names : (key : Key) → names_at new.entities key ≡ names_at old.entities key
  pub saved : SavedAlike old.entities new.entities
  pub flows : new.flows ≡ old.flows
  pub acts : new.acts ≡ old.acts
  pub limits : new.limits ≡ old.limits
  pub marked : new.marked ≡ old.marked
  pub since : RemembersTheSame new.fds old.since new.since

-- what the plan's flows are after the tables: they number the new objects as these come, and stand from the next place on
pub record PlanFlows (tables : Tables) (ms : ℕ) (plan : Plan) : Type 0 where
  pub go_on : GoOn (length tables.entities.keys) plan.work.draft.added.flows
  pub known_are : known_after (length tables.entities.keys) plan.work.draft.added.flows ≡ length (entered tables.entities.keys plan.work.draft.added.keys)
  pub stand : StandFrom ms tables.flows plan.work.draft.added.flows

-- the plan's acts, flows and keys are counted in, and the mark is if it was
pub record HasGrown (old new : Tables) (plan : Plan) : Type 0 where
  pub acts : new.acts ≡ old.acts + length plan.acts
  pub flows : new.flows ≡ old.flows + length plan.work.draft.added.flows
  pub keys : new.entities.keys ≡ entered old.entities.keys plan.work.draft.added.keys
  pub limits : new.limits ≡ old.limits
  pub marked : new.marked ≡ old.marked

-- the acts, flows and objects are as before, and so are the limits
pub record CountsTheSame (old new : Tables) : Type 0 where
  pub acts : new.acts ≡ old.acts
  pub flows : new.flows ≡ old.flows
  pub keys : new.entities.keys ≡ old.entities.keys
  pub most_names : new.entities.most_names ≡ old.entities.most_names
  pub limits : new.limits ≡ old.limits

-- the tables were made with these limits
pub record HasLimits (limits : Limits) (tables : Tables) : Type 0 where
  pub limits_are : tables.limits ≡ limits
  pub names_are : tables.entities.most_names ≡ limits.names

-- this holds of all acts that the tables stand for, whatever text an address has
abbrev pub ByTables : Tables → ((List ℕ → List ℕ) → List Taken → Type 0) → Type 0
ByTables tables fact = (text : List ℕ → List ℕ) (taken : List Taken) → StandsFor text tables taken → fact text taken

-- the tables still stand for the acts that they stood for
abbrev pub StandsAsBefore : Tables → Tables → Type 0
StandsAsBefore old new = (text : List ℕ → List ℕ) (taken : List Taken) → StandsFor text old taken → StandsFor text new taken

-- with the acts of the plan the tables stand for them too
abbrev pub GoesOnStanding : Tables → Tables → Plan → Type 0
GoesOnStanding old new plan =
    (text : List ℕ → List ℕ) (before now : List Taken) → StandsFor text old before → IsPlanOf text plan before now → StandsFor text new (now ++ before)

-- the acts of the plan add these flows
abbrev pub AddsFlows : Plan → List Flow → Type 0
AddsFlows plan added = (text : List ℕ → List ℕ) (before now : List Taken) → IsPlanOf text plan before now → flows (now ++ before) ≡ flows before ++ added

-- the objects, with those of the plan, are no more than there may be
abbrev pub PlanFits : Tables → Plan → Type 0
PlanFits tables plan = length (entered tables.entities.keys plan.work.draft.added.keys) ≤ tables.entities.limit

-- the new address, if there is one, is what this act gives after these
abbrev pub GivesAddress : Option NewAddress → List Act → Act → Type 0
GivesAddress new acts act = (s : ℕ) → address_of (act ∷ acts) s ≡ readdressed new (address_of acts) s
