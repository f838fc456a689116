-- What an event may follow.
use Rattle.std.specs.Prelude.{◌≡◌, ◌<◌, ◌+◌, ◌-◌, ◌++◌, ◌^◌, ℕ, List, length, None, Some}
use Rattle.name_text.specs.Addresses.{text_of}
use Rattle.flow_base.specs.declared.limits.Limits.{Limits}
use Rattle.flow_base.specs.declared.limits.Full.{Full}
use Rattle.record_join.specs.declared.event.EventView.{EventView}
use Rattle.call_acts.specs.Acts.{event_acts}
use Rattle.acts.specs.declared.act.Act.{Act}
use Rattle.acts.specs.declared.act.Taken.{Taken}
use Rattle.acts.specs.Admitted.{Admitted}
use Rattle.acts.specs.Flows.{acts_of, objects}
use Rattle.acts.specs.LookBack.{full_at}
use Rattle.flow_events.specs.declared.tables.Tables.{Tables}
use Rattle.flow_events.specs.Added.{IsPast}
use Rattle.flow_events.specs.Standing.{AreSafe, StandsFor, HasLimits, IsPlanOf}
use Rattle.flow_events.specs.Drafts.{turned}
use Rattle.flow_events.specs.declared.plan.Plan.{Plan}

-- the tables stand for these acts, each of which but a see and a birth names a live pid, and this many more are few
pub record MayFollow (tables : Tables) (before : List Taken) (more : ℕ) : Type 0 where
  pub stands : StandsFor text_of tables before
  pub admitted : Admitted (acts_of before)
  pub few : length before + (more + 2) < 2 ^ 63 - 1

-- tables with these limits that stand for acts, each of which but a see and a birth names a live pid
pub record IsCourse (limits : Limits) (tables : Tables) : Type 0 where
  pub before : List Taken
  pub stands : StandsFor text_of tables before
  pub admitted : Admitted (acts_of before)
  pub limited : HasLimits limits tables
  pub safe : AreSafe tables

-- the acts of an event, oldest first
abbrev pub acts_of_event : Limits → EventView → List Act
acts_of_event limits event = event_acts limits.path event.records.now

-- the tables were made with these limits and stand for these acts, which the event may follow
pub record MayComeAfter (tables : Tables) (event : EventView) (limits : Limits) (before : List Taken) : Type 0 where
  pub limited : HasLimits limits tables
  pub follows : MayFollow tables before (length (acts_of_event limits event))

-- this many more acts can be counted
abbrev pub HasNumbersFor : Tables → ℕ → Type 0
HasNumbersFor tables more = tables.acts + (more + 2) < 2 ^ 63 - 1

-- the acts of an event, newest first
abbrev pub turned_by : Limits → EventView → List Taken
turned_by limits event = turned event.ms event.key.serial (acts_of_event limits event)

-- the plan does what the event does
abbrev pub PlansEvent : Tables → EventView → Plan → Type 0
PlansEvent tables event plan = (limits : Limits) (before : List Taken) → MayComeAfter tables event limits before → IsPlanOf text_of plan before (turned_by limits event)

-- with the event no limit of objects or flows is passed
abbrev pub EventFits : Tables → EventView → Type 0
EventFits tables event = (limits : Limits) (before : List Taken) → MayComeAfter tables event limits before → full_at limits.entities limits.flows (turned_by limits event ++ before) ≡ None

-- with the event this limit of objects or flows is passed
abbrev pub EventPasses : Tables → EventView → Full → Type 0
EventPasses tables event full = (limits : Limits) (before : List Taken) → MayComeAfter tables event limits before → full_at limits.entities limits.flows (turned_by limits event ++ before) ≡ Some full

-- the plan does what these acts do, oldest first
abbrev pub PlansActs : Tables → ℕ → ℕ → List Act → Plan → Type 0
PlansActs tables ms serial acts plan =
    (before : List Taken) → MayFollow tables before (length acts) → IsPlanOf text_of plan before (turned ms serial acts)

-- with these acts no limit of objects or flows is passed
abbrev pub ActsFit : Tables → ℕ → ℕ → List Act → Type 0
ActsFit tables ms serial acts =
    (limits : Limits) → HasLimits limits tables → (before : List Taken) → MayFollow tables before (length acts)
    → full_at limits.entities limits.flows (turned ms serial acts ++ before) ≡ None

-- with these acts this limit of objects or flows is passed
abbrev pub ActsPass : Tables → ℕ → ℕ → List Act → Full → Type 0
ActsPass tables ms serial acts full =
    (limits : Limits) → HasLimits limits tables → (before : List Taken) → MayFollow tables before (length acts)
    → full_at limits.entities limits.flows (turned ms serial acts ++ before) ≡ Some full

-- with these acts the objects are more than there may be
abbrev pub ActsPassObjects : Tables → ℕ → ℕ → List Act → Full → Type 0
ActsPassObjects tables ms serial acts full =
    (before : List Taken) → MayFollow tables before (length acts)
    → IsPast tables.limits.entities full (objects (acts_of (turned ms serial acts ++ before)))
