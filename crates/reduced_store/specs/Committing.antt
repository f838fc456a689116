-- The batch of a commit by rows, from one moment of a history to a later one.
use Rattle.std.specs.Prelude.{◌≡◌, ◌<◌, ℕ, List, [], ◌∷◌, ◌++◌, length, map, drop}
use Rattle.flow_base.specs.declared.types.Key.{Key}
use Rattle.audit_lex.specs.declared.header.EventKey.{EventKey}
use Rattle.acts.specs.declared.act.Taken.{Taken}
use Rattle.acts.specs.Flows.{acts_of, flows, objects}
use Rattle.reach_model.specs.declared.modes.Mode.{Mode}
use Rattle.reach_model.specs.Rows.{Row, Keeps}
use Rattle.row_codec.specs.declared.rows.StoreRow.{StoreRow}
use Rattle.row_codec.specs.declared.rows.StoreRow.TheVariants.{Entity, State}
use Rattle.store_check.specs.Order.{IsBefore}
use Rattle.stored.specs.Batch.{Batch, Ascends, AreTablesOf, AreWaiting, IsCommitOf, IsKeyBefore, IsSlotBefore, names_at}
use Rattle.stored.specs.Batch.{name_row, life_row, held_row, address_row, born_row, waiting_row}
use Rattle.stored.specs.Moment.{Moment, state_at}
use Rattle.stored.specs.Words.{Group, texts_of}
use Rattle.reduced_store.specs.OnDisk.{rows_since}

-- the parts of a batch that tables give: they lead from what the tables say at one moment to what they say at a later one
pub record AreTableParts (text : List ℕ → List ℕ) (most : ℕ) (m0 m : Moment) (b : Batch) : Type 0 where
  pub since : List Taken
  pub goes_on : m.taken ≡ since ++ m0.taken
  pub entities : b.entities ≡ drop (length (objects (acts_of m0.taken))) (objects (acts_of m.taken))
  pub names : (k : Key) → texts_of k b.names ≡ drop (length (names_at text most m0.taken k)) (names_at text most m.taken k)
  pub tables : AreTablesOf (acts_of since) (acts_of m0.taken) b
  pub lives : Ascends (λ x y. x.0 < y.0) b.lives
  pub held : Ascends (λ x y. IsSlotBefore x.0 y.0) b.held
  pub addresses : Ascends (λ x y. x.0 < y.0) b.addresses
  pub births : Ascends (λ x y. IsBefore x.0 y.0) b.births

-- the rows of these parts besides the entities
abbrev pub other_rows : Batch → List StoreRow
other_rows b = map name_row b.names ++ (map life_row b.lives ++ (map held_row b.held ++ (map address_row b.addresses ++ map born_row b.births)))

-- the groups are all that wait at a moment, in order
pub record AreGroupsOf (m : Moment) (groups : List (EventKey × Group)) : Type 0 where
  pub waiting : AreWaiting m.join groups
  pub ascend : Ascends (λ x y. IsKeyBefore x.0 y.0) groups

-- the rows that close the batch of a moment with these groups
abbrev pub rows_at_end : Moment → List (EventKey × Group) → List StoreRow
rows_at_end m groups = map waiting_row groups ++ State (state_at m) ∷ []

-- The rows since the last commit, between the entities and the other rows of tables, what waits and the State, are those of
-- the commit of a moment, if the saved rows are those that the mode keeps of the earlier moment's flows, and the rows now are
-- those of the later one's.
abbrev pub CommitsByRows : Type 0
CommitsByRows =
    (text : List ℕ → List ℕ) (most : ℕ) (mode : Mode) (m0 m : Moment) (saved now : List Row) (b : Batch) (groups : List (EventKey × Group))
    → AreTableParts text most m0 m b
    → Keeps mode (flows m0.taken) saved → Keeps mode (flows m.taken) now
    → AreGroupsOf m groups
    → IsCommitOf text most mode m0 m (map Entity b.entities ++ (rows_since saved now ++ (other_rows b ++ rows_at_end m groups)))
