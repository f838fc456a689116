-- What opening a disk finds.
use Rattle.std.specs.Prelude.{◌≡◌, ◌⊎◌, ℕ, suc, ◌-◌, ◌<◌, List, length, take, slice_get, slice_index_or, Option, Some}
use Rattle.std.specs.Option.{option_map}
use Rattle.flow_base.specs.declared.limits.Limits.{Limits}
use Rattle.reach_model.specs.declared.modes.Mode.{Mode}
use Rattle.row_codec.specs.declared.rows.StoreRow.{StoreRow}
use Rattle.batch_log.specs.declared.find.Batch.{Batch}
use Rattle.batch_log.specs.Batches.{HasBatches, IsStore, BreaksAt}
use Rattle.batch_log.specs.Finding.{places}
use Rattle.batch_log.specs.Log.{Log}
use Rattle.store_check.specs.Conditions.{Bounds, bounds_of}
use Rattle.store_check.specs.Store.{rows_of}
use Rattle.stored.specs.Words.{all_of}
use Rattle.reduced_store.specs.Filling.{AreApart}
use Rattle.reduced_store.specs.Reading.{IsRead, AreNoStore, IsFound}
use Rattle.reduced_store.specs.declared.reading.Found.{Found}

-- The payloads up to one of them make a store, and with it they make none. The place is that of its batch's gate.
pub record StopsAt (bounds : Bounds) (listed : List Batch) (payloads : List (List ℕ)) (place : ℕ) : Type 0 where
  pub index : ℕ
  pub within : index < length listed
  pub at : (d : Batch) → place ≡ (slice_index_or listed index d).gate
  pub store : (mode : Mode) × (batches : List (List StoreRow)) × IsRead bounds mode batches (take index payloads)
  pub none : AreNoStore bounds (take (suc index) payloads)

-- the place of the last batch's gate, if there is a batch
abbrev pub last_gate : List Batch → Option ℕ
last_gate listed = option_map (λ batch. batch.gate) (slice_get listed (length listed - 1))

-- the bytes are a store whose last batch, if it has one, begins at this place
abbrev pub BeginsLast : Limits → List ℕ → Option ℕ → Type 0
BeginsLast limits bytes place = (payloads : List (List ℕ)) × IsStore limits.payload payloads bytes × (place ≡ last_gate (places 0 payloads))

-- a log of these bytes' batches, and what the store of their payloads holds
abbrev pub IsStoreRead : Limits → List ℕ → (Log × Found) → Type 0
IsStoreRead limits bytes read = (payloads : List (List ℕ)) × HasBatches limits.payload payloads read.0.last bytes × IsFound (bounds_of limits) payloads read.1

-- The bytes have the batches of a store, and two of its rows have one last place. The place is that of the last batch's gate.
pub record RepeatsAPlace (limits : Limits) (place : ℕ) (bytes : List ℕ) : Type 0 where
  pub payloads : List (List ℕ)
  pub store : IsStore limits.payload payloads bytes
  pub mode : Mode
  pub batches : List (List StoreRow)
  pub read : IsRead (bounds_of limits) mode batches payloads
  pub repeats : ¬ AreApart (rows_of (all_of batches))
  pub last : Some place ≡ last_gate (places 0 payloads)

-- The batches break at this place, or they are whole and that of this gate is the first that doesn't go on with the store, or
-- all of them do and two rows of the store have one last place.
abbrev pub IsBadAt : Limits → ℕ → List ℕ → Type 0
IsBadAt limits place bytes =
    BreaksAt limits.payload place bytes
    ⊎ (((payloads : List (List ℕ)) × IsStore limits.payload payloads bytes × StopsAt (bounds_of limits) (places 0 payloads) payloads place)
    ⊎ RepeatsAPlace limits place bytes)
