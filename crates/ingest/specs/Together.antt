-- Tables and kept flows that go together, whether or not a log left them.
use Rattle.std.specs.Prelude.{◌≡◌, ◌≤◌, ◌<◌, ◌+◌, ℕ, List, length, Option, Some}
use Rattle.flow_base.specs.declared.types.Flow.{Flow}
use Rattle.reach_model.specs.Flows.{place, time}
use Rattle.reach_model.specs.Rows.{Row}
use Rattle.flow_events.specs.declared.plan.Plan.{Plan}
use Rattle.flow_events.specs.declared.tables.Tables.{Tables}
use Rattle.flow_events.specs.Entering.{entered}
use Rattle.flow_events.specs.Standing.{AreSafe}
use Rattle.kept_flows.specs.KeptFlows.{KeptFlows}
use Rattle.kept_flows.specs.Taking.{IsFlowOf}

-- a flow has a place below this one, and no later time than this
pub record IsBefore (flows ms : ℕ) (f : Flow) : Type 0 where
  pub place : place f < flows
  pub time : time f ≤ ms

-- if the rows are told, each of their first and last flows is such
abbrev pub AreBefore : (flows ms : ℕ) → Option (List Row) → Type 0
AreBefore flows ms told = (R : List Row) → told ≡ Some R → (f : Flow) → IsFlowOf R f → IsBefore flows ms f

-- The kept flows know this many objects, are no more than this many flows, and come before the next place and no later than this.
pub record AreKeptOf (objects flows ms : ℕ) (kept : KeptFlows) : Type 0 where
  pub known : kept.objects ≡ objects
  pub counted : kept.count ≤ flows
  pub before : AreBefore flows ms kept.told

-- the tables are safe, and the kept flows are of their objects and flows, none later than this
pub record GoTogether (ms : ℕ) (tables : Tables) (kept : KeptFlows) : Type 0 where
  pub safe : AreSafe tables
  pub kept_of : AreKeptOf (length tables.entities.keys) tables.flows ms kept

-- the kept flows are of the objects and flows of the tables and of a plan
abbrev pub GoWithPlan : ℕ → Tables → Plan → KeptFlows → Type 0
GoWithPlan ms tables plan kept =
    AreKeptOf (length (entered tables.entities.keys plan.work.draft.added.keys)) (tables.flows + length plan.work.draft.added.flows) ms kept
