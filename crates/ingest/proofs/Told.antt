-- Rows that only an observable disk tells.
use Rattle.std.proofs.Common.{◌≡◌, ◌∙◌, refl, sym, Bool, true, false, List, [], None, Some}
use Rattle.std.specs.Option.{IfSome}
use Rattle.outside.specs.Disk.{DiskState, IsDisk}
use Rattle.reach_model.specs.Rows.{Row}
use Rattle.reduced_store.specs.Held.{told_if}
use Rattle.reduced_store.specs.OnDisk.{OnDisk, seen_rows}
use Rattle.ingest.proofs.Following.{none_some, same_some}

-- rows that are told are those of a disk that tells them
pub told_by : (tells : Bool) (R S : List Row) → told_if tells R ≡ Some S → (tells ≡ true) × (R ≡ S)
told_by true R S is = (refl, same_some R S is)
told_by false R S is = absurd (none_some S is)

-- no rows, if they are told
pub none_if_told : (tells : Bool) (R : List Row) → R ≡ [] → IfSome (told_if tells R) (λ S. S ≡ [])
none_if_told true R none = none
none_if_told false R none = tt

module _ {D : Type 0} (state : D → DiskState) (store : OnDisk D) (is : IsDisk (state store.disk)) where
  -- an observable disk tells the rows
  pub rows_told : (state store.disk).told → seen_rows state store ≡ Some store.rows.rows
  rows_told told = λ i. told_if (is.told_is.0 told i) store.rows.rows

  -- a disk that tells no rows isn't observable
  pub rows_hidden : seen_rows state store ≡ None → (state store.disk).told → ⊥
  rows_hidden hidden told = none_some store.rows.rows (sym hidden ∙ rows_told told)
