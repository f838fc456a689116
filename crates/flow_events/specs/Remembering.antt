-- Tables that remember what changed since a mark. Every list of acts is ordered newest first.
use Rattle.std.specs.Prelude.{◌≡◌, ◌≤◌, ◌++◌, ℕ, List, [], length, Option, Some, reverse}
use Rattle.acts.specs.declared.act.Act.{Act}
use Rattle.acts.specs.declared.act.Taken.{Taken}
use Rattle.acts.specs.Flows.{acts_of}
use Rattle.acts.specs.Holding.{address_of}
use Rattle.proc_table.specs.Table.{Table as Procs, StandsFor as LivesAs}
use Rattle.fd_table.specs.Table.{Table as Fds, HoldsAs, AddressesAs}
use Rattle.flow_base.specs.declared.types.Key.{Key}
use Rattle.entity_names.specs.Known.{Known, saved_at}
use Rattle.stored.specs.Batch.{names_at}
use Rattle.flow_events.specs.declared.plan.NewAddress.{NewAddress}
use Rattle.flow_events.specs.declared.plan.Plan.{Plan}
use Rattle.flow_events.specs.declared.tables.Tables.{Tables}
use Rattle.flow_events.specs.Since.{Memory, Remembers}
use Rattle.flow_events.specs.Standing.{StandsFor, IsPlanOf, readdressed}

-- each key had as many names at the mark as acts gave it before
abbrev pub AreSavedNames : (List ℕ → List ℕ) → Known → List Taken → Type 0
AreSavedNames address_text table before = (key : Key) → saved_at table key ≡ length (names_at address_text table.most_names before key)

-- the tables stand for acts, and remember those of them that came after the mark
pub record StandsSince (address_text : List ℕ → List ℕ) (tables : Tables) (before now : List Taken) : Type 0 where
  pub stands : StandsFor address_text tables (now ++ before)
  pub since : Remembers tables.since (acts_of before) (acts_of now)
  pub saved : AreSavedNames address_text tables.entities before

-- Tables whose mark is at a number of acts are those of no fewer acts, and remember those that came after it. If no mark was
-- made this asks nothing.
pub record StandsMarked (address_text : List ℕ → List ℕ) (tables : Tables) (taken : List Taken) : Type 0 where
  pub within : (m : ℕ) → tables.marked ≡ Some m → m ≤ length taken
  pub since : (before now : List Taken) → taken ≡ now ++ before → tables.marked ≡ Some (length before) → StandsSince address_text tables before now

-- whatever acts the tables stood for, they stand for, and they remember what came since the mark
abbrev pub MarksNow : Tables → Tables → Type 0
MarksNow old new = (text : List ℕ → List ℕ) (taken : List Taken) → StandsFor text old taken → StandsFor text new taken × StandsMarked text new taken

-- the same, if they remembered what came since the mark before
abbrev pub MarksAnew : Tables → Tables → Type 0
MarksAnew old new =
    (text : List ℕ → List ℕ) (taken : List Taken) → StandsFor text old taken → StandsMarked text old taken → StandsFor text new taken × StandsMarked text new taken

-- what came since the mark is still remembered
abbrev pub StaysMarked : Tables → Tables → Type 0
StaysMarked old new = (text : List ℕ → List ℕ) (taken : List Taken) → StandsMarked text old taken → StandsMarked text new taken

-- and with the acts of the plan it is too
abbrev pub GoesOnMarked : Tables → Tables → Plan → Type 0
GoesOnMarked old new plan =
    (text : List ℕ → List ℕ) (taken fresh : List Taken) → StandsMarked text old taken → IsPlanOf text plan taken fresh → StandsMarked text new (fresh ++ taken)

-- the tables stand for the same acts and remember the same
abbrev pub StaysSince : Tables → Tables → Type 0
StaysSince old new = (text : List ℕ → List ℕ) (before now : List Taken) → StandsSince text old before now → StandsSince text new before now

-- with the acts of the plan the tables stand for them too, and remember them too
abbrev pub GoesOnSince : Tables → Tables → Plan → Type 0
GoesOnSince old new plan =
    (text : List ℕ → List ℕ) (before now fresh : List Taken) → StandsSince text old before now → IsPlanOf text plan (now ++ before) fresh → StandsSince text new before (fresh ++ now)

-- the mark is now
abbrev pub BeginsAnew : Tables → Tables → Type 0
BeginsAnew old new = (text : List ℕ → List ℕ) (before now : List Taken) → StandsSince text old before now → StandsSince text new (now ++ before) []

-- from now on something is remembered, at first nothing
abbrev pub BeginsToRemember : Tables → Tables → Type 0
BeginsToRemember old new = (text : List ℕ → List ℕ) (taken : List Taken) → StandsFor text old taken → StandsSince text new taken []

-- these acts, oldest first, are remembered too, if they give one socket this address or none one
abbrev pub NotesEvent : Option Memory → Option Memory → Procs → Fds → List Act → Option NewAddress → Type 0
NotesEvent old new procs fds acts address =
    (before now fresh : List Act) → LivesAs procs (now ++ before) → HoldsAs fds (now ++ before) → AddressesAs fds (now ++ before) → fresh ≡ reverse acts
    → ((s : ℕ) → address_of (fresh ++ (now ++ before)) s ≡ readdressed address (address_of (now ++ before)) s)
    → Remembers old before now → Remembers new before (fresh ++ now)
