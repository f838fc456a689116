-- What is found in the bytes of a store of a moment was stored of it.
use Rattle.std.proofs.Common.{◌≡◌, ◌≢◌, ◌⊎◌, ◌∙◌, refl, sym, ap, subst, inl, inr, ℕ, List, [], ◌∷◌, ◌++◌, Option, Some, None}
use Rattle.std.specs.List.{AllZip}
use Rattle.flow_base.specs.declared.limits.Limits.{Limits}
use Rattle.batch_log.specs.Log.{Log}
use Rattle.batch_log.specs.OneReading.{OneList}
use Rattle.reach_model.specs.declared.modes.Mode.{Mode}
use Rattle.row_codec.specs.declared.rows.StoreRow.{StoreRow}
use Rattle.row_codec.specs.Payload.{IsPayload}
use Rattle.store_check.specs.Conditions.{Bounds, bounds_of}
use Rattle.store_check.specs.Store.{rows_of}
use Rattle.stored.specs.Batch.{AreWaiting}
use Rattle.stored.specs.Bytes.{IsStoreOf}
use Rattle.stored.specs.Moment.{Moment, nothing}
use Rattle.stored.specs.Stored.{ClosesAt, EndsAt, last_of, Stored}
use Rattle.stored.specs.Words.{all_of}
use Rattle.reduced_store.specs.Opening.{IsStoreRead}
use Rattle.reduced_store.specs.Reading.{IsFound, IsOfMode, IsRead, table_rows, closing_rows}
use Rattle.reduced_store.specs.Restoring.{SaySame}
use Rattle.reduced_store.specs.Storing.{WasStored}
use Rattle.reduced_store.specs.declared.reading.Found.{Found}
use Rattle.reduced_store.proofs.ReadLemmas.{Apart, one_reading, one_mode, last_pushed}
use Rattle.reduced_store.proofs.PickedLemmas.{others_say_same, state_of_last, groups_of_last}
use Rattle.reduced_store.proofs.RestoreLemmas.{some_last}

-- no payload has no batch
no_batch : (mode : Mode) (batches : List (List StoreRow)) → AllZip (IsPayload mode) batches [] → batches ≡ []
no_batch mode [] spelled = refl
no_batch mode (b ∷ batches) spelled = absurd spelled

-- the rows that are found close at the moment at which the last batch does
closes_still : (m : Moment) (batches : List (List StoreRow)) (batch : List StoreRow) → last_of batches ≡ Some batch → ClosesAt m batch → ClosesAt m (table_rows batches ++ closing_rows batches)
closes_still m batches batch last closes = record {
  waiting = subst (AreWaiting m.join) (sym (groups_of_last batches batch last)) closes.waiting;
  state = state_of_last batches batch last ∙ closes.state;
}

module _ (text : List ℕ → List ℕ) (names : ℕ) (bounds : Bounds) (mode : Mode) (m : Moment) (batches : List (List StoreRow)) (payloads : List (List ℕ)) (found : Found)
    (apart : Apart) (spelled : AllZip (IsPayload mode) batches payloads) (stored : Stored text names bounds mode batches m) (is : IsFound bounds payloads found) where
  -- what is the same for every mode
  stored_of : batches ≡ is.batches → ((found.mode ≡ None) × (found.others ≡ []) × (m ≡ nothing)) ⊎ ((found.mode ≡ Some mode) × ClosesAt m found.others) → WasStored text names mode found m
  stored_of same ends = record {
    rows = all_of batches;
    tables = stored.tables;
    kept = is.rows ∙ sym (ap (λ (bs : List (List StoreRow)). rows_of (all_of bs)) same);
    say = subst (SaySame (all_of batches)) (ap (λ (bs : List (List StoreRow)). table_rows bs ++ closing_rows bs) same ∙ sym is.others) (others_say_same batches);
    ends = ends;
  }

  nothing_stored : found.mode ≡ None → (is.batches ≡ []) × (payloads ≡ []) → WasStored text names mode found m
  nothing_stored mode_is none =
      let empty = no_batch mode batches (subst (AllZip (IsPayload mode) batches) none.1 spelled) in
      stored_of (empty ∙ sym none.0) (inl (
        mode_is,
        is.others ∙ ap (λ (bs : List (List StoreRow)). table_rows bs ++ closing_rows bs) none.0,
        subst (λ (bs : List (List StoreRow)). EndsAt m (last_of bs)) empty stored.ends,
      ))

  some_stored : (other : Mode) → found.mode ≡ Some other → payloads ≢ [] → IsRead bounds other is.batches payloads → WasStored text names mode found m
  some_stored other mode_is some read =
      let modes = one_mode apart other mode is.batches batches payloads some read.spelled spelled in
      let same = one_reading apart mode batches is.batches payloads spelled (subst (λ (n : Mode). AllZip (IsPayload n) is.batches payloads) modes read.spelled) in
      let l = some_last mode batches payloads some spelled in
      let last : last_of batches ≡ Some l.last = ap last_of l.is ∙ last_pushed l.front l.last in
      let closes : ClosesAt m l.last = subst (EndsAt m) last stored.ends in
      stored_of same (inr (
        mode_is ∙ ap Some modes,
        subst (ClosesAt m) (ap (λ (bs : List (List StoreRow)). table_rows bs ++ closing_rows bs) same ∙ sym is.others) (closes_still m batches l.last last closes),
      ))

  by_mode : (o : Option Mode) → found.mode ≡ o → IsOfMode bounds is.batches payloads o → WasStored text names mode found m
  by_mode None mode_is none = nothing_stored mode_is none
  by_mode (Some other) mode_is some = some_stored other mode_is some.0 some.1

pub was_stored : Apart → OneList → (text : List ℕ → List ℕ) (limits : Limits) (mode : Mode) (bytes : List ℕ) (m : Moment) (log : Log) (found : Found)
    → IsStoreRead limits bytes (log, found) → IsStoreOf text limits.names limits.payload (bounds_of limits) mode bytes m → WasStored text limits.names mode found m
was_stored apart one text limits mode bytes m log found read s =
    let payloads = read.0 in
    let same : s.payloads ≡ payloads = one limits.payload s.payloads payloads bytes limits.payload_within s.store (log.last, read.1) in
    let is = read.2 in
    by_mode text limits.names (bounds_of limits) mode m s.batches payloads found apart (subst (AllZip (IsPayload mode) s.batches) same s.spelled) s.stored is found.mode refl is.mode
