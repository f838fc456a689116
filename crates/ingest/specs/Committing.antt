-- What tables and a joiner say of two moments, and the rows that a commit makes of it.
use Rattle.std.specs.Prelude.{◌≡◌, ◌++◌, ℕ, List, map}
use Rattle.flow_base.specs.declared.limits.Limits.{Limits}
use Rattle.audit_lex.specs.declared.header.EventKey.{EventKey}
use Rattle.acts.specs.Admitted.{Admitted}
use Rattle.acts.specs.Flows.{acts_of}
use Rattle.acts.specs.declared.act.Taken.{Taken}
use Rattle.flow_events.specs.declared.tables.Tables.{Tables}
use Rattle.flow_events.specs.Remembering.{StandsSince}
use Rattle.record_join.specs.StandsFor.{Joiner, StandsFor as JoinStandsFor}
use Rattle.reduced_store.specs.Committing.{AreTableParts, AreGroupsOf, other_rows, rows_at_end}
use Rattle.row_codec.specs.declared.rows.StoreRow.{StoreRow}
use Rattle.row_codec.specs.declared.rows.StoreRow.TheVariants.{Entity}
use Rattle.row_codec.specs.declared.state.StateRow.{StateRow}
use Rattle.stored.specs.Batch.{Batch}
use Rattle.stored.specs.Moment.{Moment, state_at}
use Rattle.stored.specs.Words.{Group}

-- the tables remember what led from one moment to another, and the joiner and the State are those of the other
pub record Lead (text : List ℕ → List ℕ) (tables : Tables) (join : Joiner) (state : StateRow) (m0 m : Moment) : Type 0 where
  pub now : List Taken
  pub goes_on : m.taken ≡ now ++ m0.taken
  pub tables_are : StandsSince text tables m0.taken now
  pub admitted : Admitted (acts_of (now ++ m0.taken))
  pub limits : Limits
  pub join_is : JoinStandsFor limits join m.join
  pub state_is : state ≡ state_at m

-- the rows that the batch of a commit has before those of flows and after them
pub record AreAround (text : List ℕ → List ℕ) (most : ℕ) (m0 m : Moment) (entities others : List StoreRow) : Type 0 where
  pub batch : Batch
  pub groups : List (EventKey × Group)
  pub parts : AreTableParts text most m0 m batch
  pub waiting : AreGroupsOf m groups
  pub entities_are : entities ≡ map Entity batch.entities
  pub others_are : others ≡ other_rows batch ++ rows_at_end m groups

-- whatever moments they lead from and to, these are the rows around those of flows, if this many names of an object are kept
abbrev pub ArePut : ℕ → Tables → Joiner → StateRow → (entities others : List StoreRow) → Type 0
ArePut most tables join state entities others =
    (text : List ℕ → List ℕ) (m0 m : Moment) → Lead text tables join state m0 m → AreAround text most m0 m entities others
