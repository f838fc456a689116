-- The bytes of a store.
use Rattle.std.specs.Prelude.{ℕ, List}
use Rattle.std.specs.List.{AllZip}
use Rattle.batch_log.specs.Batches.{IsStore}
use Rattle.reach_model.specs.declared.modes.Mode.{Mode}
use Rattle.row_codec.specs.declared.rows.StoreRow.{StoreRow}
use Rattle.row_codec.specs.Payload.{IsPayload}
use Rattle.store_check.specs.Conditions.{Bounds}
use Rattle.stored.specs.Moment.{Moment}
use Rattle.stored.specs.Stored.{Stored}

-- the bytes are a store of this mode, and its batches store the moment
pub record IsStoreOf (text : List ℕ → List ℕ) (names payload : ℕ) (bounds : Bounds) (mode : Mode) (bytes : List ℕ) (m : Moment) : Type 0 where
  pub batches : List (List StoreRow)
  pub payloads : List (List ℕ)
  pub spelled : AllZip (IsPayload mode) batches payloads
  pub store : IsStore payload payloads bytes
  pub stored : Stored text names bounds mode batches m
