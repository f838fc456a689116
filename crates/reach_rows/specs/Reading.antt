-- When a row can't be read.
use Rattle.std.specs.Prelude.{◌≡◌, ◌⊎◌, ℕ, ◌<◌, ◌≤◌, List, Option, None, Result, Err}
use Rattle.reach_model.specs.Rows.{Row}
use Rattle.reach_rows.specs.declared.rows.RowFault.{RowFault}
use Rattle.reach_rows.specs.declared.rows.RowFault.TheVariants.{StoreFault, BadStore}

-- One reading of rows. The count of faults doesn't fall, and spent rows stay spent. A store fault comes only if the count
-- rose or the rows are spent, and a bad store only if the rows aren't observable.
pub record IsReading {T : Type 0} (told : Option (List Row)) (before now : ℕ) (was_spent spent : Type 0) (result : Result T RowFault) : Type 0 where
  pub later : before ≤ now
  pub stays : was_spent → spent
  pub store_fault : result ≡ Err StoreFault → (before < now) ⊎ spent
  pub bad_store : (place : ℕ) → result ≡ Err (BadStore place) → told ≡ None
