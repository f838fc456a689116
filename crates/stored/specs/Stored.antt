-- What a list of batches stores.
use Rattle.std.specs.Prelude.{◌≡◌, ℕ, List, [], ◌∷◌, ◌++◌, Option, Some, None, unwrap_or, ⊤}
use Rattle.flow_base.specs.declared.types.FileId.{FileId}
use Rattle.flow_base.specs.declared.types.Key.{Key}
use Rattle.acts.specs.Births.{born}
use Rattle.acts.specs.Flows.{acts_of, flows, objects}
use Rattle.acts.specs.Holding.{holds}
use Rattle.acts.specs.Holding as acts
use Rattle.acts.specs.Standing.{standing}
use Rattle.proc_table.specs.Table.{standing_of}
use Rattle.reach_model.specs.declared.modes.Mode.{Mode}
use Rattle.reach_model.specs.Rows.{Keeps}
use Rattle.row_codec.specs.declared.rows.StoreRow.{StoreRow}
use Rattle.store_check.specs.Conditions.{Bounds}
use Rattle.store_check.specs.Store.{keys, rows_of, life_of}
use Rattle.store_check.specs.Conditions.{Continues}
use Rattle.stored.specs.Words.{all_of, pairs_in, texts_of, held_of, address_of, born_of, groups_of, state_of}
use Rattle.stored.specs.Moment.{Moment, nothing, state_at}
use Rattle.stored.specs.Batch.{names_at, AreWaiting}

-- each batch continues the store of the batches before it
abbrev pub AllContinue : Bounds → Mode → List StoreRow → List (List StoreRow) → Type 0
AllContinue bounds mode before [] = ⊤
AllContinue bounds mode before (b ∷ batches) = Continues bounds mode before b × AllContinue bounds mode (before ++ b) batches

-- the last of a list, if it has one
abbrev pub last_of : {A : Type 0} → List A → Option A
last_of [] = None
last_of (x ∷ []) = Some x
last_of (x ∷ y ∷ xs) = last_of (y ∷ xs)

-- a batch's groups and State are those of the moment
pub record ClosesAt (m : Moment) (batch : List StoreRow) : Type 0 where
  pub waiting : AreWaiting m.join (groups_of batch)
  pub state : state_of batch ≡ Some (state_at m)

-- the last batch closes at the moment; without a batch it is the moment before the first byte
abbrev pub EndsAt : Moment → Option (List StoreRow) → Type 0
EndsAt m None = m ≡ nothing
EndsAt m (Some batch) = ClosesAt m batch

-- the rows are what the tables have after the moment's acts
pub record AreTables (text : List ℕ → List ℕ) (most : ℕ) (mode : Mode) (rows : List StoreRow) (m : Moment) : Type 0 where
  pub objects_are : keys rows ≡ objects (acts_of m.taken)
  pub rows_are : Keeps mode (flows m.taken) (rows_of rows)
  pub names_are : (k : Key) → texts_of k (pairs_in rows) ≡ names_at text most m.taken k
  pub lives_are : (p : ℕ) → standing_of (life_of p rows) ≡ standing (acts_of m.taken) p
  pub held_are : (p n : ℕ) → held_of p n rows ≡ holds (acts_of m.taken) p n
  pub addresses_are : (s : ℕ) → address_of s rows ≡ acts.address_of (acts_of m.taken) s
  pub births_are : (f : FileId) → unwrap_or (born_of f rows) 0 ≡ born (acts_of m.taken) f

-- the batches store the moment
pub record Stored (text : List ℕ → List ℕ) (most : ℕ) (bounds : Bounds) (mode : Mode) (batches : List (List StoreRow)) (m : Moment) : Type 0 where
  pub continue : AllContinue bounds mode [] batches
  pub tables : AreTables text most mode (all_of batches) m
  pub ends : EndsAt m (last_of batches)
