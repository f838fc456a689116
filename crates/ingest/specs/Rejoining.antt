-- Joined parts that are made again of what an earlier run left.
use Rattle.std.specs.Prelude.{◌≡◌, ◌≤◌, ℕ, List, Option, None, Some, Result, Ok, Err}
use Rattle.flow_base.specs.declared.limits.Limits.{Limits}
use Rattle.name_text.specs.Addresses.{text_of}
use Rattle.query_walk.specs.Fault.{IsWalkOver}
use Rattle.reach_model.specs.declared.modes.Mode.{Mode}
use Rattle.reach_model.specs.Rows.{Row, Keeps}
use Rattle.record_join.specs.Events.{Joining}
use Rattle.record_join.specs.StandsFor.{Joiner, StandsFor as JoinStandsFor}
use Rattle.record_join.specs.declared.event.Event.{Event}
use Rattle.row_codec.specs.declared.rows.StoreRow.{StoreRow}
use Rattle.row_codec.specs.declared.state.StateRow.{StateRow}
use Rattle.store_check.specs.Store.{rows_of}
use Rattle.stored.specs.Moment.{state_at}
use Rattle.stored.specs.Stored.{AreTables}
use Rattle.audit_lex.specs.History.{History}
use Rattle.flow_events.specs.declared.tables.Tables.{Tables}
use Rattle.flow_events.specs.Standing.{StandsFor as TablesStandFor}
use Rattle.kept_flows.specs.declared.restoring.Unrestored.{Unrestored}
use Rattle.ingest.specs.Clocks.{HasReleased}
use Rattle.ingest.specs.Counting.{counts_in}
use Rattle.ingest.specs.Events.{taken_in, flows_in, state_of, events_of}
use Rattle.ingest.specs.Storing.{moment_of}
use Rattle.ingest.specs.Parts.{Joined}
use Rattle.ingest.specs.StandsFor.{AreInTime, JoinedStandsFor}
use Rattle.ingest.specs.StateParts.{counts_said}
use Rattle.ingest.specs.Stops.{full_of}

-- The joiner, the tables and the rows, if these are told, are those of what waits and of these released events, and the State
-- counts them. No limit is passed.
pub record WereLeft (limits : Limits) (mode : Mode) (told : Option (List Row)) (join : Joiner) (tables : Tables) (state : StateRow)
    (s : Joining) (released : List Event) : Type 0 where
  pub limits_are : tables.limits ≡ limits
  pub join_is : JoinStandsFor limits join s
  pub tables_are : TablesStandFor text_of tables (taken_in limits released)
  pub rows : List Row
  pub told_are : told ≡ Some rows
  pub keeps : Keeps mode (flows_in limits released) rows
  pub released_last : HasReleased s.clock released
  pub excess : state.excess ≡ s.excess
  pub counts : counts_said state ≡ counts_in released
  pub in_time : AreInTime (taken_in limits released) s
  pub fits : full_of limits released ≡ None

-- Rows and a State say what stood after a history, of which the joiner, the tables and the kept rows, if these are told, were
-- made. No limit is passed.
pub record IsLeftOf (limits : Limits) (mode : Mode) (told : Option (List Row)) (join : Joiner) (tables : Tables) (state : StateRow)
    (h : History) (part : ℕ) : Type 0 where
  pub rows : List StoreRow
  pub tables_are : AreTables text_of limits.names mode rows (moment_of limits h part)
  pub told_are : told ≡ Some (rows_of rows)
  pub state_is : state ≡ state_at (moment_of limits h part)
  pub limits_are : tables.limits ≡ limits
  pub join_is : JoinStandsFor limits join (state_of limits h)
  pub stands : TablesStandFor text_of tables (taken_in limits (events_of limits h))
  pub fits : full_of limits (events_of limits h) ≡ None

-- whatever the parts were left of, the joined parts stand for it
abbrev pub StandsForLeft : {K : Type 0} → Mode → Option (List Row) → Joiner → Tables → StateRow → Joined K → Type 0
StandsForLeft mode told join tables state again = (limits : Limits) (s : Joining) (released : List Event)
    → WereLeft limits mode told join tables state s released → JoinedStandsFor limits again s released

-- Joining again over rows. Their count of faults doesn't fall, and spent rows stay spent. A store fault comes only if the count
-- rose or the rows are spent, and a bad store only if the rows aren't observable.
abbrev pub RejoinsFrom : {K : Type 0} → (rows : K → Option (List Row)) → (faults : K → ℕ)
    → (spent : K → Type 0) → K → Result (Joined K) (Unrestored K) → Type 0
RejoinsFrom rows faults spent old (Ok joined) =
    (faults old ≤ faults joined.keep) × (spent old → spent joined.keep)
RejoinsFrom {K} rows faults spent old (Err back) =
    IsWalkOver {T = K} rows faults spent old back.rows (Err back.fault)

-- the rows of the result, or those that a refusal hands back, are like the ones that were given
abbrev pub RejoinsAlike : {K : Type 0} → (alike : K → K → Type 0) → K → Result (Joined K) (Unrestored K) → Type 0
RejoinsAlike alike old (Ok joined) = alike old joined.keep
RejoinsAlike alike old (Err back) = alike old back.rows
