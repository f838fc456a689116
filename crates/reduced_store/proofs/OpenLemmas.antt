-- Batches of a disk, one after the other.
use Rattle.std.proofs.Common.{◌≡◌, ◌∙◌, ◌-◌, Bool, true, false, if◌then◌else◌, refl, sym, ap, subst, ℕ, zero, suc, ◌+◌, ◌<◌, ◌≤◌, List, [], ◌∷◌, ◌++◌, length, get_or, take, Option, Some, None, Ok, Err, ◌⊎◌, ⊎_elim, true≢false, arith}
use Rattle.std.specs.List.{AllZip}
use Rattle.std.specs.Result.{is_ok}
use Rattle.std.specs.Prelude.{slice_get}
use Rattle.std.specs.Option.{option_map}
use Rattle.std.proofs.lemmas.List.{take_more}
use Rattle.std.proofs.lemmas.Option.{slice_get-get_or}
use Rattle.outside.specs.Disk.{DiskState, IsDurable, OnlyLooks, Settles}
use Rattle.reach_model.specs.declared.modes.Mode.{Mode}
use Rattle.reach_model.specs.declared.modes.Mode.TheVariants.{Plain}
use Rattle.row_codec.specs.declared.rows.StoreRow.{StoreRow}
use Rattle.batch_log.specs.declared.find.Batch.{Batch}
use Rattle.batch_log.specs.Payloads.{IsThere, IsPayloadOf}
use Rattle.store_check.specs.Conditions.{Bounds, bounds_of}
use Rattle.flow_base.specs.declared.limits.Limits.{Limits}
use Rattle.batch_log.specs.Batches.{IsStore}
use Rattle.batch_log.specs.Finding.{places}
use Rattle.store_check.specs.Store.{rows_of}
use Rattle.stored.specs.Words.{all_of}
use Rattle.reduced_store.specs.Filling.{AreApart}
use Rattle.reduced_store.specs.Opening.{RepeatsAPlace, last_gate}
use Rattle.reduced_store.specs.Placing.{AreThere}
use Rattle.reduced_store.specs.Reading.{IsRead, IsChecked, HasRead, IsOfMode, IsFound}
use Rattle.reduced_store.specs.declared.reading.Found.{Found}
use Rattle.reduced_store.specs.declared.reading.Checked.{Checked}
use Rattle.reduced_store.specs.declared.reading.Reading.{Reading}

zip_length : {A B : Type 0} (R : A → B → Type 0) (xs : List A) (ys : List B) → AllZip R xs ys → length xs ≡ length ys
zip_length R [] [] all = refl
zip_length R [] (y ∷ ys) all = absurd all
zip_length R (x ∷ xs) [] all = absurd all
zip_length R (x ∷ xs) (y ∷ ys) all = ap suc (zip_length R xs ys all.1)

zip_at : {A B : Type 0} (R : A → B → Type 0) (xs : List A) (ys : List B) (i : ℕ) (d : A) (e : B) → AllZip R xs ys → i < length xs → R (get_or xs i d) (get_or ys i e)
zip_at R [] ys i d e all h = absurd (omega arith)
zip_at R (x ∷ xs) [] i d e all h = absurd all
zip_at R (x ∷ xs) (y ∷ ys) zero d e all h = all.0
zip_at R (x ∷ xs) (y ∷ ys) (suc i) d e all h = zip_at R xs ys i d e all.1 (omega arith)

pub same_at : {A : Type 0} (xs : List A) (i : ℕ) (d e : A) → i < length xs → get_or xs i d ≡ get_or xs i e
same_at [] i d e h = absurd (omega arith)
same_at (x ∷ xs) zero d e h = refl
same_at (x ∷ xs) (suc i) d e h = same_at xs i d e (omega arith)

take_past : {A : Type 0} (i : ℕ) (xs : List A) → length xs ≤ i → take i xs ≡ xs
take_past zero [] h = refl
take_past (suc i) [] h = refl
take_past zero (x ∷ xs) h = absurd (omega arith)
take_past (suc i) (x ∷ xs) h = ap (λ r. x ∷ r) (take_past i xs (omega arith))

module _ (bytes : List ℕ) (listed : List Batch) (payloads : List (List ℕ)) (there : AreThere bytes listed payloads) where
  pub batch_there : (i : ℕ) (d : Batch) → i < length listed → IsThere bytes (get_or listed i d) (get_or payloads i [])
  batch_there i d h = zip_at (IsThere bytes) listed payloads i d [] there h

  pub more_taken : (i : ℕ) (d : Batch) (p : List ℕ) → i < length listed → IsPayloadOf (get_or listed i d) bytes p → take (i + 1) payloads ≡ take i payloads ++ p ∷ []
  more_taken i d p h is =
      let within : i < length payloads = omega (arith, zip_length (IsThere bytes) listed payloads there, h) in
      let same : get_or payloads i [] ≡ p = (batch_there i d h).payload_of ∙ sym is in
      take_more payloads i [] within ∙ ap (λ (q : List ℕ). take i payloads ++ q ∷ []) same

  pub all_taken : (i : ℕ) → length listed ≤ i → take i payloads ≡ payloads
  all_taken i h = take_past i payloads (omega (arith, zip_length (IsThere bytes) listed payloads there, h))

-- what was read is a store
read_of : (bounds : Bounds) (payloads : List (List ℕ)) (batches : List (List StoreRow)) (o : Option Checked) → IsChecked bounds batches payloads o → (mode : Mode) × (bs : List (List StoreRow)) × IsRead bounds mode bs payloads
read_of bounds payloads batches None checked = (Plain, [], subst (λ (ps : List (List ℕ)). IsRead bounds Plain [] ps) (sym checked.1) (record { spelled = tt; continue = tt }))
read_of bounds payloads batches (Some c) checked = (c.mode, batches, checked.read)

pub store_of : (bounds : Bounds) (listed : List Batch) (payloads : List (List ℕ)) (r : Reading) → HasRead bounds listed payloads r → (mode : Mode) × (bs : List (List StoreRow)) × IsRead bounds mode bs payloads
store_of bounds listed payloads r h = read_of bounds payloads h.batches r.checked h.checked

-- calls that write nothing after a disk has settled
pub settles_by_looking : (old mid new : DiskState) → Settles old mid → OnlyLooks mid new → mid.told → Settles old new
settles_by_looking old mid new settles looks told = record {
  from = settles.from;
  after = settles.after;
  by_now = omega (arith, settles.by_now, looks.later);
  only = λ c left. settles.only c (looks.adds_nothing settles.from c settles.by_now left) ∙ sym (looks.same told);
}

pub durable_by_looking : (mid new : DiskState) → IsDurable mid → OnlyLooks mid new → mid.told → IsDurable new
durable_by_looking mid new durable looks told = λ c image. durable c (looks.image c image) ∙ sym (looks.same told)

-- a call that didn't fail isn't to blame
pub not_blamed : {T E P : Type 0} (x : T) (e : E) → ((Ok x ≡ Err e) ⊎ P) → P
not_blamed {T} {E} x e either = ⊎_elim (λ blamed. absurd (true≢false (ap is_ok blamed))) (λ p. p) either

-- ---- rows that have one last place

-- a store without a batch has no rows
pub nothing_lawful : (bounds : Bounds) (found : Found) → IsFound bounds [] found → found.rows.lawful ≡ true
nothing_lawful bounds found is = by found.mode is.mode
  where
    by : (o : Option Mode) → IsOfMode bounds is.batches [] o → found.rows.lawful ≡ true
    by None none = is.lawful.1 (subst (λ (bs : List (List StoreRow)). AreApart (rows_of (all_of bs))) (sym none.0) (λ i j d low h. absurd (omega (arith, h))))
    by (Some mode) some = absurd (some.0 refl)

no_last : (listed : List Batch) → last_gate listed ≡ None → listed ≡ []
no_last [] none = refl
no_last (b ∷ listed) none =
    let all = b ∷ listed in
    let there : slice_get all (length all - 1) ≡ Some (get_or all (length all - 1) b) = slice_get-get_or all (length all - 1) b (omega arith) in
    let gate : last_gate all ≡ Some (get_or all (length all - 1) b).gate = ap (option_map (λ (x : Batch). x.gate)) there in
    absurd (let e = sym gate ∙ none in cc)

-- a store that is not refused has lawful rows
pub lawful_by_place : (bounds : Bounds) (found : Found) (listed : List Batch) (last : Option ℕ) → last ≡ last_gate listed → (listed ≡ [] → IsFound bounds [] found)
    → (if found.rows.lawful then None else last) ≡ None → found.rows.lawful ≡ true
lawful_by_place bounds found listed last is nothing none = by found.rows.lawful refl none
  where
    by : (b : Bool) → found.rows.lawful ≡ b → (if b then None else last) ≡ None → found.rows.lawful ≡ true
    by true so none = so
    by false so none = nothing_lawful bounds found (nothing (no_last listed (sym is ∙ none)))

-- one that is refused has two rows with one last place
pub repeats_at : (limits : Limits) (bytes : List ℕ) (payloads : List (List ℕ)) (found : Found) (last : Option ℕ) (place : ℕ) → IsStore limits.payload payloads bytes → IsFound (bounds_of limits) payloads found
    → last ≡ last_gate (places 0 payloads) → (if found.rows.lawful then None else last) ≡ Some place → RepeatsAPlace limits place bytes
repeats_at limits bytes payloads found last place store is last_is at = by_law found.rows.lawful refl at
  where
    by_mode : (o : Option Mode) → IsOfMode (bounds_of limits) is.batches payloads o → found.rows.lawful ≡ false → last ≡ Some place → RepeatsAPlace limits place bytes
    by_mode None none not at = absurd (let e : Some place ≡ None = sym at ∙ last_is ∙ ap (λ (ps : List (List ℕ)). last_gate (places 0 ps)) none.1 in cc)
    by_mode (Some mode) some not at = record {
      payloads = payloads;
      store = store;
      mode = mode;
      batches = is.batches;
      read = some.1;
      repeats = λ apart. true≢false (sym (is.lawful.1 apart) ∙ not);
      last = sym at ∙ last_is;
    }

    by_law : (b : Bool) → found.rows.lawful ≡ b → (if b then None else last) ≡ Some place → RepeatsAPlace limits place bytes
    by_law true so at = absurd (let e : None ≡ Some place = at in cc)
    by_law false so at = by_mode found.mode is.mode so at
