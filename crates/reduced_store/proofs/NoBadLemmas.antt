-- Bytes are read as a store in one way, and a store is no bad one.
use Rattle.std.proofs.Common.{◌≡◌, ◌∙◌, ◌<◌, ◌≤◌, ◌^◌, refl, sym, ap, subst, arith, inl, inr, ℕ, zero, suc, List, [], ◌∷◌, ◌++◌, take, Option, None, Some, slice_index_or}
use Rattle.std.specs.List.{AllZip}
use Rattle.flow_base.specs.declared.limits.Limits.{Limits}
use Rattle.acts.specs.Flows.{flows}
use Rattle.batch_log.specs.Batches.{IsStore}
use Rattle.batch_log.specs.declared.find.Batch.{Batch}
use Rattle.batch_log.specs.Finding.{places}
use Rattle.batch_log.specs.Log.{Log}
use Rattle.batch_log.specs.OneReading.{NoStore, OneList, OnePlace}
use Rattle.reach_model.specs.declared.modes.Mode.{Mode}
use Rattle.reach_model.specs.declared.modes.Mode.TheVariants.{Plain}
use Rattle.reach_model.specs.Flows.{IsLawful}
use Rattle.row_codec.specs.declared.rows.StoreRow.{StoreRow}
use Rattle.row_codec.specs.Payload.{IsPayload}
use Rattle.store_check.specs.Conditions.{Bounds, bounds_of}
use Rattle.store_check.specs.Store.{rows_of}
use Rattle.stored.specs.Bytes.{IsStoreOf}
use Rattle.stored.specs.Moment.{Moment}
use Rattle.stored.specs.Stored.{AllContinue}
use Rattle.stored.specs.Words.{all_of}
use Rattle.reduced_store.specs.Filling.{AreApart}
use Rattle.reduced_store.specs.OneReading.{BadAtOnePlace, BadNowhere, OneLast, OneMode, SameOthers}
use Rattle.reduced_store.specs.Opening.{IsBadAt, IsStoreRead, RepeatsAPlace, StopsAt, last_gate}
use Rattle.reduced_store.specs.Reading.{IsFound, IsOfMode, IsRead, closing_rows, table_rows}
use Rattle.reduced_store.specs.declared.reading.Found.{Found}
use Rattle.reduced_store.proofs.FillLemmas.{kept_apart}
use Rattle.reduced_store.proofs.ReadLemmas.{Apart, one_mode}

-- ---- a front of a store

zip_take : {A B : Type 0} (R : A → B → Type 0) (n : ℕ) (xs : List A) (ys : List B) → AllZip R xs ys → AllZip R (take n xs) (take n ys)
zip_take R zero xs ys all = tt
zip_take R (suc n) [] [] all = tt
zip_take R (suc n) [] (y ∷ ys) all = absurd all
zip_take R (suc n) (x ∷ xs) [] all = absurd all
zip_take R (suc n) (x ∷ xs) (y ∷ ys) all = (all.0, zip_take R n xs ys all.1)

continue_take : (bounds : Bounds) (mode : Mode) (before : List StoreRow) (n : ℕ) (batches : List (List StoreRow)) → AllContinue bounds mode before batches → AllContinue bounds mode before (take n batches)
continue_take bounds mode before zero batches all = tt
continue_take bounds mode before (suc n) [] all = tt
continue_take bounds mode before (suc n) (b ∷ batches) all = (all.0, continue_take bounds mode (before ++ b) n batches all.1)

-- ---- one reading, whatever the modes

same_batches : Apart → (m n : Mode) (xs ys : List (List StoreRow)) (payloads : List (List ℕ)) → AllZip (IsPayload m) xs payloads → AllZip (IsPayload n) ys payloads → xs ≡ ys
same_batches apart m n [] [] [] a b = refl
same_batches apart m n [] ys (p ∷ ps) a b = absurd a
same_batches apart m n [] (y ∷ ys) [] a b = absurd b
same_batches apart m n (x ∷ xs) ys [] a b = absurd a
same_batches apart m n (x ∷ xs) [] (p ∷ ps) a b = absurd b
same_batches apart m n (x ∷ xs) (y ∷ ys) (p ∷ ps) a b =
    ap (λ (r : List StoreRow). r ∷ xs) (apart m n x y p a.0 b.0).1 ∙ ap (λ (r : List (List StoreRow)). y ∷ r) (same_batches apart m n xs ys ps a.1 b.1)

-- ---- a store is bad nowhere

take_take : {A : Type 0} (i j : ℕ) (xs : List A) → i ≤ j → take i (take j xs) ≡ take i xs
take_take zero j xs low = refl
take_take (suc i) zero xs low = absurd (omega (arith, low))
take_take (suc i) (suc j) [] low = refl
take_take (suc i) (suc j) (x ∷ xs) low = ap (λ ys. x ∷ ys) (take_take i j xs (omega (arith, low)))

front_read : (bounds : Bounds) (mode : Mode) (batches : List (List StoreRow)) (payloads : List (List ℕ)) (n : ℕ) → IsRead bounds mode batches payloads → IsRead bounds mode (take n batches) (take n payloads)
front_read bounds mode batches payloads n read = record {
  spelled = zip_take (IsPayload mode) n batches payloads read.spelled;
  continue = continue_take bounds mode [] n batches read.continue;
}

module _ (apart : Apart) (one : OneList) (limits : Limits) (bytes : List ℕ) (place : ℕ) (mode : Mode) (batches : List (List StoreRow)) (payloads : List (List ℕ))
    (store : IsStore limits.payload payloads bytes) (read : IsRead (bounds_of limits) mode batches payloads) where
  never_stops : (others : List (List ℕ)) → IsStore limits.payload others bytes → {listed : List _} → StopsAt (bounds_of limits) listed others place → ⊥
  never_stops others also stops =
      let same : others ≡ payloads = one limits.payload others payloads bytes limits.payload_within also store in
      let n = suc stops.index in
      stops.none mode (take n batches) (subst (λ (ps : List (List ℕ)). IsRead (bounds_of limits) mode (take n batches) (take n ps)) (sym same) (front_read (bounds_of limits) mode batches payloads n read))

  never_repeats : AreApart (rows_of (all_of batches)) → RepeatsAPlace limits place bytes → ⊥
  never_repeats differ r =
      let same : r.payloads ≡ payloads = one limits.payload r.payloads payloads bytes limits.payload_within r.store store in
      let spelled : AllZip (IsPayload r.mode) r.batches payloads = subst (AllZip (IsPayload r.mode) r.batches) same r.read.spelled in
      let as_read : batches ≡ r.batches = same_batches apart mode r.mode batches r.batches payloads read.spelled spelled in
      r.repeats (subst (λ (bs : List (List StoreRow)). AreApart (rows_of (all_of bs))) as_read differ)

  never_bad : NoStore → AreApart (rows_of (all_of batches)) → ¬ IsBadAt limits place bytes
  never_bad none differ (inl breaks) = none limits.payload place payloads bytes limits.payload_within store breaks
  never_bad none differ (inr (inl stops)) = never_stops stops.0 stops.1 stops.2
  never_bad none differ (inr (inr repeats)) = never_repeats differ repeats

-- a store of a moment
pub stored_bad : Apart → OneList → NoStore → (text : List ℕ → List ℕ) (limits : Limits) (mode : Mode) (bytes : List ℕ) (m : Moment) (place : ℕ) → IsLawful (flows m.taken)
    → IsStoreOf text limits.names limits.payload (bounds_of limits) mode bytes m → ¬ IsBadAt limits place bytes
stored_bad apart one none text limits mode bytes m place lawful s =
    never_bad apart one limits bytes place mode s.batches s.payloads s.store (record { spelled = s.spelled; continue = s.stored.continue }) none (kept_apart lawful s.stored.tables.rows_are)

-- payloads of a store are those of some mode
some_read : (bounds : Bounds) (batches : List (List StoreRow)) (payloads : List (List ℕ)) (o : Option Mode) → IsOfMode bounds batches payloads o → (mode : Mode) × IsRead bounds mode batches payloads
some_read bounds batches payloads None none =
    let empty : IsRead bounds Plain [] [] = record { spelled = tt; continue = tt } in
    (Plain, subst (λ (bs : List (List StoreRow)). IsRead bounds Plain bs payloads) (sym none.0) (subst (IsRead bounds Plain []) (sym none.1) empty))
some_read bounds batches payloads (Some mode) some = (mode, some.1)

-- a store of which was found that its rows are lawful
pub bad_nowhere : Apart → OneList → NoStore → BadNowhere
bad_nowhere apart one none limits bytes read place is lawful =
    let found = is.2 in
    let some = some_read (bounds_of limits) found.batches is.0 read.1.mode found.mode in
    never_bad apart one limits bytes place some.0 found.batches is.0 (read.0.last, is.1) some.1 none (found.lawful.0 lawful)

-- ---- a bad store is bad at one place

-- a store stops at one batch
no_later : (bounds : Bounds) (listed : List Batch) (payloads : List (List ℕ)) (place other : ℕ) (s : StopsAt bounds listed payloads place) (t : StopsAt bounds listed payloads other) → s.index < t.index → ⊥
no_later bounds listed payloads place other s t less =
    let n = suc s.index in
    let mode = t.store.0 in
    let batches = t.store.1 in
    let front : IsRead bounds mode (take n batches) (take n (take t.index payloads)) = front_read bounds mode batches (take t.index payloads) n t.store.2 in
    s.none mode (take n batches) (subst (IsRead bounds mode (take n batches)) (take_take n t.index payloads (omega (arith, less))) front)

same_index : (a b : ℕ) → (a < b → ⊥) → (b < a → ⊥) → a ≡ b
same_index zero zero low high = refl
same_index zero (suc b) low high = absurd (low (omega arith))
same_index (suc a) zero low high = absurd (high (omega arith))
same_index (suc a) (suc b) low high = ap suc (same_index a b (λ less. low (omega (arith, less))) (λ less. high (omega (arith, less))))

one_stop : (bounds : Bounds) (listed : List Batch) (payloads : List (List ℕ)) (place other : ℕ) → StopsAt bounds listed payloads place → StopsAt bounds listed payloads other → place ≡ other
one_stop bounds listed payloads place other s t =
    let d : Batch = record { gate = 0; length = 0 } in
    let same : s.index ≡ t.index = same_index s.index t.index (no_later bounds listed payloads place other s t) (no_later bounds listed payloads other place t s) in
    s.at d ∙ ap (λ (i : ℕ). (slice_index_or listed i d).gate) same ∙ sym (t.at d)

some_one : (a b : ℕ) → ◌≡◌ {A = Option ℕ} (Some a) (Some b) → a ≡ b
some_one a b e = cc

module _ (apart : Apart) (one : OneList) (places_one : OnePlace) (none : NoStore) (limits : Limits) (bytes : List ℕ) where
  within : limits.payload ≤ 2 ^ 30
  within = limits.payload_within

  stops_once : (place other : ℕ) (payloads others : List (List ℕ)) → IsStore limits.payload payloads bytes → IsStore limits.payload others bytes
      → StopsAt (bounds_of limits) (places 0 payloads) payloads place → StopsAt (bounds_of limits) (places 0 others) others other → place ≡ other
  stops_once place other payloads others a b s t =
      let same : others ≡ payloads = one limits.payload others payloads bytes within b a in
      one_stop (bounds_of limits) (places 0 payloads) payloads place other s (subst (λ (ps : List (List ℕ)). StopsAt (bounds_of limits) (places 0 ps) ps other) same t)

  repeats_once : (place other : ℕ) → RepeatsAPlace limits place bytes → RepeatsAPlace limits other bytes → place ≡ other
  repeats_once place other r q =
      let same : r.payloads ≡ q.payloads = one limits.payload r.payloads q.payloads bytes within r.store q.store in
      some_one place other (r.last ∙ ap (λ (ps : List (List ℕ)). last_gate (places 0 ps)) same ∙ sym q.last)

  once : (place other : ℕ) → IsBadAt limits place bytes → IsBadAt limits other bytes → place ≡ other
  once place other (inl a) (inl b) = places_one limits.payload place other bytes within a b
  once place other (inl a) (inr (inl t)) = absurd (none limits.payload place t.0 bytes within t.1 a)
  once place other (inl a) (inr (inr q)) = absurd (none limits.payload place q.payloads bytes within q.store a)
  once place other (inr (inl s)) (inl b) = absurd (none limits.payload other s.0 bytes within s.1 b)
  once place other (inr (inr r)) (inl b) = absurd (none limits.payload other r.payloads bytes within r.store b)
  once place other (inr (inl s)) (inr (inl t)) = stops_once place other s.0 t.0 s.1 t.1 s.2 t.2
  once place other (inr (inl s)) (inr (inr q)) = absurd (never_stops apart one limits bytes place q.mode q.batches q.payloads q.store q.read s.0 s.1 s.2)
  once place other (inr (inr r)) (inr (inl t)) = absurd (never_stops apart one limits bytes other r.mode r.batches r.payloads r.store r.read t.0 t.1 t.2)
  once place other (inr (inr r)) (inr (inr q)) = repeats_once place other r q

pub bad_at_one_place : Apart → OneList → OnePlace → NoStore → BadAtOnePlace
bad_at_one_place apart one places_one none limits bytes place other a b = once apart one places_one none limits bytes place other a b

-- ---- what is found is the same

-- of one list of payloads
same_read : Apart → (bounds : Bounds) (payloads : List (List ℕ)) (xs ys : List (List StoreRow)) (o p : Option Mode) → IsOfMode bounds xs payloads o → IsOfMode bounds ys payloads p → (o ≡ p) × (xs ≡ ys)
same_read apart bounds payloads xs ys None None a b = (refl, a.0 ∙ sym b.0)
same_read apart bounds payloads xs ys None (Some n) a b = absurd (b.0 a.1)
same_read apart bounds payloads xs ys (Some m) None a b = absurd (a.0 b.1)
same_read apart bounds payloads xs ys (Some m) (Some n) a b =
    (ap Some (one_mode apart m n xs ys payloads a.0 a.1.spelled b.1.spelled), same_batches apart m n xs ys payloads a.1.spelled b.1.spelled)

same_found : Apart → (bounds : Bounds) (payloads : List (List ℕ)) (f g : Found) → IsFound bounds payloads f → IsFound bounds payloads g → (f.mode ≡ g.mode) × (f.others ≡ g.others)
same_found apart bounds payloads f g a b =
    let both = same_read apart bounds payloads a.batches b.batches f.mode g.mode a.mode b.mode in
    (both.0, a.others ∙ ap (λ (bs : List (List StoreRow)). table_rows bs ++ closing_rows bs) both.1 ∙ sym b.others)

reads_same : Apart → OneList → (limits : Limits) (bytes : List ℕ) (read other : Log × Found) → IsStoreRead limits bytes read → IsStoreRead limits bytes other
    → (read.1.mode ≡ other.1.mode) × (read.1.others ≡ other.1.others)
reads_same apart one limits bytes read other a b =
    let same : b.0 ≡ a.0 = one limits.payload b.0 a.0 bytes limits.payload_within (other.0.last, b.1) (read.0.last, a.1) in
    same_found apart (bounds_of limits) a.0 read.1 other.1 a.2 (subst (λ (ps : List (List ℕ)). IsFound (bounds_of limits) ps other.1) same b.2)

pub reads_mode : Apart → OneList → OneMode
reads_mode apart one limits bytes read other a b = (reads_same apart one limits bytes read other a b).0

pub reads_others : Apart → OneList → SameOthers
reads_others apart one limits bytes read other a b = (reads_same apart one limits bytes read other a b).1

pub begins_once : OneList → OneLast
begins_once one limits bytes last other a b =
    let same : a.0 ≡ b.0 = one limits.payload a.0 b.0 bytes limits.payload_within a.1 b.1 in
    a.2 ∙ ap (λ (ps : List (List ℕ)). last_gate (places 0 ps)) same ∙ sym b.2
