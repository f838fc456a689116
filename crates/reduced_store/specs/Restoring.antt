-- What is found in a store is enough to go on from its last commit.
use Rattle.std.specs.Prelude.{◌≡◌, ◌⊎◌, ℕ, ◌<◌, ◌≤◌, List, [], length, fold, Some}
use Rattle.std.specs.List.{Contains}
use Rattle.flow_base.specs.declared.types.FileId.{FileId}
use Rattle.flow_base.specs.declared.types.Flow.{Flow}
use Rattle.flow_base.specs.contracts.types.KeyPartialEq.TheImpl.{ghosts}
use Rattle.acts.specs.Keys.{put_new}
use Rattle.reach_model.specs.Flows.{place, time}
use Rattle.reach_model.specs.Numbers.{known}
use Rattle.reach_model.specs.Rows.{Row, firsts, lasts}
use Rattle.row_codec.specs.declared.state.StateRow.{StateRow}
use Rattle.row_codec.specs.declared.rows.StoreRow.{StoreRow}
use Rattle.store_check.specs.Conditions.{Bounds, HasCounts, HasTail, HasListed}
use Rattle.store_check.specs.Store.{keys, life_of}
use Rattle.stored.specs.Batch.{Ascends, IsKeyBefore}
use Rattle.stored.specs.Words.{pairs_in, held_of, address_of, born_of, groups_of, state_of}

-- others say of tables what rows say
pub record SaySame (rows others : List StoreRow) : Type 0 where
  pub keys_are : keys others ≡ keys rows
  pub names_are : pairs_in others ≡ pairs_in rows
  pub lives_are : (p : ℕ) → life_of p others ≡ life_of p rows
  pub held_are : (p n : ℕ) → held_of p n others ≡ held_of p n rows
  pub addresses_are : (s : ℕ) → address_of s others ≡ address_of s rows
  pub births_are : (f : FileId) → born_of f others ≡ born_of f rows

-- a flow stands at a place below the number of flows that a State says, and no later than its effective time
abbrev pub IsFlowBefore : StateRow → Flow → Type 0
IsFlowBefore state f = (place f < state.flows) × (time f ≤ state.effective)

-- The other rows have a State, which counts as it should. Their keys are distinct, few enough, and as many as the kept rows R
-- have objects. No more rows are kept than there were flows, each flow of them is before the State, and what waits is in order.
pub record CanBeRestored (bounds : Bounds) (others : List StoreRow) (R : List Row) : Type 0 where
  pub state : StateRow
  pub state_is : state_of others ≡ Some state
  pub counts : HasCounts state
  pub tail : HasTail bounds.line state
  pub listed : HasListed bounds.shown state
  pub few : length (keys others) ≤ bounds.entities
  pub new : fold (put_new ghosts.eq) [] (keys others) ≡ keys others
  pub objects : known (firsts R) ≡ length (keys others)
  pub counted : length R ≤ state.flows
  pub before : (f : Flow) → Contains (firsts R) f ⊎ Contains (lasts R) f → IsFlowBefore state f
  pub ascend : Ascends (λ x y. IsKeyBefore x.0 y.0) (groups_of others)
