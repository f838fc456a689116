-- What was read of a store, payload by payload.
use Rattle.std.specs.Prelude.{length, map, ◌≡◌, ◌≢◌, ◌↔◌, ℕ, Bool, true, false, List, [], ◌∷◌, ◌++◌, Option, Some, None, filter, unwrap_or}
use Rattle.std.specs.List.{AllZip}
use Rattle.reach_model.specs.declared.modes.Mode.{Mode}
use Rattle.row_codec.specs.declared.rows.StoreRow.{StoreRow}
use Rattle.row_codec.specs.declared.rows.StoreRow.TheVariants.{Entity, Kept, Extend, Name, Life, Held, Address, Born, Waiting, State}
use Rattle.row_codec.specs.Payload.{IsPayload}
use Rattle.store_check.specs.Conditions.{Bounds}
use Rattle.store_check.specs.Store.{rows_of}
use Rattle.store_check.specs.Tables.{Tables, StandsFor}
use Rattle.stored.specs.Stored.{AllContinue, last_of}
use Rattle.stored.specs.Words.{all_of}
use Rattle.batch_log.specs.declared.find.Batch.{Batch}
use Rattle.reduced_store.specs.Filling.{AreApart, AreSound, place_of}
use Rattle.reduced_store.specs.Placing.{ArePlaced}
use Rattle.reduced_store.specs.declared.reading.Checked.{Checked}
use Rattle.reduced_store.specs.declared.reading.Reading.{Reading}
use Rattle.reduced_store.specs.declared.reading.Found.{Found}

-- a row from which tables are filled
abbrev pub is_of_table : StoreRow → Bool
is_of_table (Entity k) = true
is_of_table (Kept r) = false
is_of_table (Extend e) = false
is_of_table (Name k t) = true
is_of_table (Life p l) = true
is_of_table (Held p f h) = true
is_of_table (Address a b) = true
is_of_table (Born f b) = true
is_of_table (Waiting m s c l) = false
is_of_table (State s) = false

-- a row that says what stands at a batch's end
abbrev pub closes : StoreRow → Bool
closes (Entity k) = false
closes (Kept r) = false
closes (Extend e) = false
closes (Name k t) = false
closes (Life p l) = false
closes (Held p f h) = false
closes (Address a b) = false
closes (Born f b) = false
closes (Waiting m s c l) = true
closes (State s) = true

-- the rows of these kinds in all batches
abbrev pub table_rows : List (List StoreRow) → List StoreRow
table_rows batches = filter is_of_table (all_of batches)

-- the Waiting rows and the State of the last batch
abbrev pub closing_rows : List (List StoreRow) → List StoreRow
closing_rows batches = filter closes (unwrap_or (last_of batches) [])

-- the payloads are those of batches that make a store of this mode
pub record IsRead (bounds : Bounds) (mode : Mode) (batches : List (List StoreRow)) (payloads : List (List ℕ)) : Type 0 where
  pub spelled : AllZip (IsPayload mode) batches payloads
  pub continue : AllContinue bounds mode [] batches

-- the payloads are those of no store
abbrev pub AreNoStore : Bounds → List (List ℕ) → Type 0
AreNoStore bounds payloads = (mode : Mode) (batches : List (List StoreRow)) → ¬ IsRead bounds mode batches payloads

-- a checker of these rows, with the bounds and the mode of the store
pub record IsChecker (bounds : Bounds) (mode : Mode) (before : List StoreRow) (check : Tables) : Type 0 where
  pub stands : StandsFor check before
  pub bounds_are : check.bounds ≡ bounds
  pub mode_is : check.mode ≡ mode

-- some payloads, read as a store, and its checker
pub record AreChecked (bounds : Bounds) (batches : List (List StoreRow)) (payloads : List (List ℕ)) (c : Checked) : Type 0 where
  pub some : payloads ≢ []
  pub read : IsRead bounds c.mode batches payloads
  pub checker : IsChecker bounds c.mode (all_of batches) c.check

-- no payload yet, or some with their checker
abbrev pub IsChecked : Bounds → List (List StoreRow) → List (List ℕ) → Option Checked → Type 0
IsChecked bounds batches payloads None = (batches ≡ []) × (payloads ≡ [])
IsChecked bounds batches payloads (Some c) = AreChecked bounds batches payloads c

-- the batches so far are of another mode
abbrev pub IsOfOther : Mode → Option Checked → Type 0
IsOfOther mode None = ⊥
IsOfOther mode (Some c) = c.mode ≢ mode

-- the places of the last flows of the rows of the batches so far, by their checker
abbrev pub last_places : Option Checked → List ℕ
last_places None = []
last_places (Some c) = map place_of c.check.lasts

-- a payload in a batch that was listed: of these rows, and as long as the batch says
pub record IsPayloadIn (batch : Batch) (mode : Mode) (rows : List StoreRow) : Type 0 where
  pub bytes : List ℕ
  pub is : IsPayload mode rows bytes
  pub long : length bytes ≡ batch.length

-- what was read of these payloads of listed batches: they make a store so far, its kept rows aren't judged yet, and the other rows are set aside
pub record HasRead (bounds : Bounds) (listed : List Batch) (payloads : List (List ℕ)) (r : Reading) : Type 0 where
  pub batches : List (List StoreRow)
  pub checked : IsChecked bounds batches payloads r.checked
  pub rows : r.rows.rows ≡ rows_of (all_of batches)
  pub unjudged : r.rows.lawful ≡ false
  pub sound : AreSound bounds.entities (all_of batches)
  pub placed : ArePlaced listed payloads r.rows
  pub tables : r.tables ≡ table_rows batches
  pub closing : r.closing ≡ closing_rows batches

-- one payload more, that of the last listed batch: they still make a store, or they make none
abbrev pub Further : Bool → Bounds → List Batch → List (List ℕ) → List ℕ → Reading → Type 0
Further true bounds listed payloads payload r = HasRead bounds listed (payloads ++ payload ∷ []) r
Further false bounds listed payloads payload r = AreNoStore bounds (payloads ++ payload ∷ [])

-- no mode and no payload, or a mode and payloads of a store of it
abbrev pub IsOfMode : Bounds → List (List StoreRow) → List (List ℕ) → Option Mode → Type 0
IsOfMode bounds batches payloads None = (batches ≡ []) × (payloads ≡ [])
IsOfMode bounds batches payloads (Some mode) = (payloads ≢ []) × IsRead bounds mode batches payloads

-- what a store of these payloads holds
pub record IsFound (bounds : Bounds) (payloads : List (List ℕ)) (f : Found) : Type 0 where
  pub batches : List (List StoreRow)
  pub mode : IsOfMode bounds batches payloads f.mode
  pub rows : f.rows.rows ≡ rows_of (all_of batches)
  pub sound : AreSound bounds.entities (all_of batches)
  pub lawful : (f.rows.lawful ≡ true) ↔ AreApart (rows_of (all_of batches))
  pub others : f.others ≡ table_rows batches ++ closing_rows batches
