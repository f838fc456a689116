-- What the tables have taken, and what one more event adds.
use Rattle.std.specs.Prelude.{◌≡◌, ◌≤◌, ◌++◌, ℕ, List, Option}
use Rattle.name_text.specs.Addresses.{text_of}
use Rattle.flow_base.specs.declared.limits.Full.{Full}
use Rattle.flow_base.specs.declared.limits.Limits.{Limits}
use Rattle.record_join.specs.declared.event.Event.{Event}
use Rattle.acts.specs.declared.act.Taken.{Taken}
use Rattle.acts.specs.Admitted.{Admitted}
use Rattle.acts.specs.Flows.{acts_of, flows, latest, TimesNeverFall}
use Rattle.acts.specs.LookBack.{full_at}
use Rattle.flow_events.specs.declared.plan.Plan.{Plan}
use Rattle.flow_events.specs.declared.tables.Tables.{Tables}
use Rattle.flow_events.specs.Drafts.{turned}
use Rattle.flow_events.specs.Remembering.{StandsMarked}
use Rattle.flow_events.specs.Standing.{StandsFor as TablesStandFor, IsPlanOf}
use Rattle.kept_flows.specs.KeptFlows.{KeptFlows, StandsFor as KeptStandsFor}
use Rattle.ingest.specs.EventActs.{acts_of_event}

-- the tables stand for these acts, each of which but a see and a birth names a live pid, and remember those since their mark
pub record HasTaken (tables : Tables) (taken : List Taken) : Type 0 where
  pub tables_are : TablesStandFor text_of tables taken
  pub marked : StandsMarked text_of tables taken
  pub admitted : Admitted (acts_of taken)

-- the tables and the kept flows are those of these acts, after which an event of this time may come
pub record MayComeAt (ms : ℕ) (tables : Tables) (kept : KeptFlows) (taken : List Taken) : Type 0 where
  pub has : HasTaken tables taken
  pub kept_are : KeptStandsFor kept (flows taken)
  pub rise : TimesNeverFall taken
  pub no_later : latest taken ≤ ms

-- the acts of an event, newest first
abbrev pub turned_by : Limits → Event → List Taken
turned_by limits event = turned event.ms event.key.serial (acts_of_event limits event)

-- what the old tables had taken the new ones have taken
abbrev pub KeepTaken : (old new : Tables) → Type 0
KeepTaken old new = (taken : List Taken) → HasTaken old taken → HasTaken new taken

-- whatever acts the tables and the old kept flows have, the new kept flows have those of the event too
abbrev pub KeptWith : Tables → Event → (old new : KeptFlows) → Type 0
KeptWith tables event old new = (taken : List Taken) → MayComeAt event.ms tables old taken
    → KeptStandsFor new (flows (turned_by tables.limits event ++ taken))

-- whatever acts the tables have taken, this is the plan of the event after them
abbrev pub IsPlanFor : Tables → Event → Plan → Type 0
IsPlanFor tables event plan = (taken : List Taken) → HasTaken tables taken
    → IsPlanOf text_of plan taken (turned_by tables.limits event)

-- whatever acts the tables have taken, with those of the event this limit is passed, or none
abbrev pub IsFullWith : Tables → Event → Option Full → Type 0
IsFullWith tables event full = (taken : List Taken) → HasTaken tables taken
    → full_at tables.limits.entities tables.limits.flows (turned_by tables.limits event ++ taken) ≡ full
