-- What a batch of a commit still needs to go on after the rows before it.
use Rattle.std.specs.Prelude.{ℕ, ◌≤◌, List, length, map, ◌++◌}
use Rattle.std.specs.List.{Contains}
use Rattle.flow_base.specs.declared.types.Flow.{Flow}
use Rattle.acts.specs.Flows.{acts_of, flows, objects, TimesNeverFall}
use Rattle.reach_model.specs.Flows.{time}
use Rattle.audit_lex.specs.declared.header.EventKey.{EventKey}
use Rattle.record_join.specs.Events.{Joining, group_of}
use Rattle.reach_model.specs.declared.modes.Mode.{Mode}
use Rattle.row_codec.specs.declared.rows.StoreRow.{StoreRow}
use Rattle.row_codec.specs.declared.rows.StoreRow.TheVariants.{Entity, Kept, Extend, State}
use Rattle.store_check.specs.Conditions.{Bounds, MayStand, EachAfter, HasCounts, HasTail, HasListed}
use Rattle.stored.specs.Moment.{Moment, state_at}
use Rattle.stored.specs.Batch.{Batch, front, held_row, address_row, born_row, waiting_row}

-- the rows after which a part of a batch stands
abbrev pub to_kept : List StoreRow → Batch → List StoreRow
to_kept before b = before ++ map Entity b.entities

-- those up to the Kept rows
abbrev pub to_extends : List StoreRow → Batch → List StoreRow
to_extends before b = to_kept before b ++ map Kept b.kept

-- those up to the Born rows
abbrev pub to_waiting : List StoreRow → Batch → List StoreRow
to_waiting before b = (((before ++ front b) ++ map held_row b.held) ++ map address_row b.addresses) ++ map born_row b.births

-- those up to the Waiting rows
abbrev pub to_state : List StoreRow → Batch → List StoreRow
to_state before b = to_waiting before b ++ map waiting_row b.waiting

-- the rows of these kinds may stand
pub record MayGo (bounds : Bounds) (mode : Mode) (before : List StoreRow) (b : Batch) : Type 0 where
  pub entities : EachAfter (MayStand bounds mode) before (map Entity b.entities)
  pub kept : EachAfter (MayStand bounds mode) (to_kept before b) (map Kept b.kept)
  pub extends : EachAfter (MayStand bounds mode) (to_extends before b) (map Extend b.extends)
  pub waiting : EachAfter (MayStand bounds mode) (to_waiting before b) (map waiting_row b.waiting)
  pub state : MayStand bounds mode (to_state before b) (State b.state)

-- What is asked of a moment that follows another one, for its State to stand.
pub record MayEnd (bounds : Bounds) (m0 m : Moment) : Type 0 where
  pub counts : HasCounts (state_at m)
  pub tail : HasTail bounds.line (state_at m)
  pub listed : HasListed bounds.shown (state_at m)
  pub times : (f : Flow) → Contains (flows m.taken) f → time f ≤ m.join.clock.effective
  pub rises : m0.join.clock.effective ≤ m.join.clock.effective

-- no group has more lines than that
abbrev pub AreFew : ℕ → Joining → Type 0
AreFew records s = (key : EventKey) → length (group_of key s.waiting) ≤ records

-- What a commit needs besides being one: the objects fit, no group has too many lines, and its State may stand.
pub record MayCommit (bounds : Bounds) (m0 m : Moment) : Type 0 where
  pub rise : TimesNeverFall m.taken
  pub fits : length (objects (acts_of m.taken)) ≤ bounds.entities
  pub few : AreFew bounds.records m.join
  pub ends : MayEnd bounds m0 m
