-- What was stored of a moment, and is found again.
use Rattle.std.specs.Prelude.{◌≡◌, ◌⊎◌, ℕ, List, [], Some, None}
use Rattle.reach_model.specs.declared.modes.Mode.{Mode}
use Rattle.row_codec.specs.declared.rows.StoreRow.{StoreRow}
use Rattle.store_check.specs.Store.{rows_of}
use Rattle.stored.specs.Moment.{Moment, nothing}
use Rattle.stored.specs.Stored.{AreTables, ClosesAt}
use Rattle.reduced_store.specs.Restoring.{SaySame}
use Rattle.reduced_store.specs.declared.reading.Found.{Found}

-- What is found was stored of a moment. Rows say what the tables have after the moment's acts; their kept rows are those that
-- are found, and the other rows that are found say the same of tables. These close at the moment, or there is nothing.
pub record WasStored (text : List ℕ → List ℕ) (most : ℕ) (mode : Mode) (found : Found) (m : Moment) : Type 0 where
  pub rows : List StoreRow
  pub tables : AreTables text most mode rows m
  pub kept : found.rows.rows ≡ rows_of rows
  pub say : SaySame rows found.others
  pub ends : ((found.mode ≡ None) × (found.others ≡ []) × (m ≡ nothing)) ⊎ ((found.mode ≡ Some mode) × ClosesAt m found.others)
