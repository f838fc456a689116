-- Payloads of a store, one more of them.
use Rattle.std.proofs.Common.{◌≡◌, ◌≢◌, ◌∙◌, refl, sym, ap, subst, ℕ, ◌^◌, ◌<◌, false, List, [], ◌∷◌, ◌++◌, Option, Some, None, append_assoc}
use Rattle.std.specs.Prelude.{◌↔◌, Bool, IsTrue, filter, fold, map, nat_eq, true, unwrap_or, MatchOption}
use Rattle.std.specs.List.{AllZip, IsDistinct, flat_map}
use Rattle.std.specs.Option.{option_map}
use Rattle.std.proofs.lemmas.List.{append-nil}
use Rattle.std.proofs.lemmas.List.Concat.{flat_map-cons}
use Rattle.std.proofs.lemmas.List.Elements.{filter-append}
use Rattle.std.proofs.lemmas.Grind.{flat_map-append, fold-append}
use Rattle.reach_model.specs.declared.modes.Mode.{Mode}
use Rattle.reach_model.specs.Rows.{Row}
use Rattle.row_codec.specs.declared.rows.StoreRow.{StoreRow}
use Rattle.row_codec.specs.Payload.{IsPayload}
use Rattle.store_check.specs.Conditions.{Bounds, Continues}
use Rattle.store_check.specs.Store.{grown, rows_of}
use Rattle.store_check.specs.Tables.{Tables, Goes, StandsFor}
use Rattle.stored.specs.Stored.{AllContinue, last_of}
use Rattle.stored.specs.Words.{all_of}
use Rattle.reduced_store.specs.Filling.{AllGoOn, AreApart, AreSound, place_of}
use Rattle.reduced_store.specs.Reading.{is_of_table, closes, IsRead, AreNoStore, IsChecker, AreChecked, IsChecked, IsOfOther, IsOfMode, HasRead, last_places}
use Rattle.reduced_store.specs.declared.reading.Checked.{Checked}
use Rattle.reduced_store.specs.declared.reading.Reading.{Reading}
use Rattle.batch_log.specs.declared.find.Batch.{Batch}
use Rattle.reduced_store.specs.Placing.{ArePlaced}
use Rattle.reduced_store.proofs.FillLemmas.{apart_rows, batch_goes_on, distinct_rows}

-- a payload has one mode and one list of rows
abbrev pub Apart : Type 0
Apart = (m n : Mode) (rows others : List StoreRow) (bytes : List ℕ) → IsPayload m rows bytes → IsPayload n others bytes → (m ≡ n) × (rows ≡ others)

-- ---- lists of batches

alone : {A : Type 0} (x : List A) → flat_map (λ (b : List A). b) (x ∷ []) ≡ x
alone x = flat_map-cons (λ b. b) x [] ∙ append-nil x

pub all_pushed : (batches : List (List StoreRow)) (batch : List StoreRow) → all_of (batches ++ batch ∷ []) ≡ all_of batches ++ batch
all_pushed batches batch = flat_map-append (λ (b : List StoreRow). b) batches (batch ∷ []) ∙ ap (λ (r : List StoreRow). all_of batches ++ r) (alone batch)

pub last_pushed : {A : Type 0} (xs : List A) (x : A) → last_of (xs ++ x ∷ []) ≡ Some x
last_pushed [] x = refl
last_pushed (y ∷ []) x = refl
last_pushed (y ∷ z ∷ xs) x = last_pushed (z ∷ xs) x

all_first : (before batch : List StoreRow) (batches : List (List StoreRow)) → (before ++ batch) ++ all_of batches ≡ before ++ all_of (batch ∷ batches)
all_first before batch batches = append_assoc before batch (all_of batches) ∙ ap (λ (r : List StoreRow). before ++ r) (sym (flat_map-cons (λ (b : List StoreRow). b) batch batches))

continue_push : (bounds : Bounds) (mode : Mode) (before : List StoreRow) (batches : List (List StoreRow)) (batch : List StoreRow) → AllContinue bounds mode before batches → Continues bounds mode (before ++ all_of batches) batch → AllContinue bounds mode before (batches ++ batch ∷ [])
continue_push bounds mode before [] batch all next = (subst (λ (r : List StoreRow). Continues bounds mode r batch) (append-nil before) next, tt)
continue_push bounds mode before (b ∷ batches) batch all next =
    (all.0, continue_push bounds mode (before ++ b) batches batch all.1 (subst (λ (r : List StoreRow). Continues bounds mode r batch) (sym (all_first before b batches)) next))

pub continue_last : (bounds : Bounds) (mode : Mode) (before : List StoreRow) (batches : List (List StoreRow)) (batch : List StoreRow) → AllContinue bounds mode before (batches ++ batch ∷ []) → AllContinue bounds mode before batches × Continues bounds mode (before ++ all_of batches) batch
continue_last bounds mode before [] batch all = (tt, subst (λ (r : List StoreRow). Continues bounds mode r batch) (sym (append-nil before)) all.0)
continue_last bounds mode before (b ∷ batches) batch all =
    let rest = continue_last bounds mode (before ++ b) batches batch all.1 in
    ((all.0, rest.0), subst (λ (r : List StoreRow). Continues bounds mode r batch) (all_first before b batches) rest.1)

zip_push : {A B : Type 0} (R : A → B → Type 0) (xs : List A) (ys : List B) (x : A) (y : B) → AllZip R xs ys → R x y → AllZip R (xs ++ x ∷ []) (ys ++ y ∷ [])
zip_push R [] [] x y all one = (one, tt)
zip_push R [] (b ∷ ys) x y all one = absurd all
zip_push R (a ∷ xs) [] x y all one = absurd all
zip_push R (a ∷ xs) (b ∷ ys) x y all one = (all.0, zip_push R xs ys x y all.1 one)

record Ends {A B : Type 0} (R : A → B → Type 0) (xs : List A) (ys : List B) (y : B) : Type 0 where
  pub front : List A
  pub last : A
  pub is : xs ≡ front ++ last ∷ []
  pub all : AllZip R front ys
  pub one : R last y

zip_last : {A B : Type 0} (R : A → B → Type 0) (xs : List A) (ys : List B) (y : B) → AllZip R xs (ys ++ y ∷ []) → Ends R xs ys y
zip_last R [] [] y all = absurd all
zip_last R (x ∷ []) [] y all = record { front = []; last = x; is = refl; all = tt; one = all.0 }
zip_last R (x ∷ z ∷ xs) [] y all = absurd all.1
zip_last R [] (b ∷ ys) y all = absurd all
zip_last R (x ∷ xs) (b ∷ ys) y all =
    let rest = zip_last R xs ys y all.1 in
    record { front = x ∷ rest.front; last = rest.last; is = ap (λ r. x ∷ r) rest.is; all = (all.0, rest.all); one = rest.one }

-- ---- one reading

pub one_reading : Apart → (m : Mode) (xs ys : List (List StoreRow)) (payloads : List (List ℕ)) → AllZip (IsPayload m) xs payloads → AllZip (IsPayload m) ys payloads → xs ≡ ys
one_reading apart m [] [] [] a b = refl
one_reading apart m [] [] (p ∷ ps) a b = absurd a
one_reading apart m [] (y ∷ ys) [] a b = absurd b
one_reading apart m [] (y ∷ ys) (p ∷ ps) a b = absurd a
one_reading apart m (x ∷ xs) ys [] a b = absurd a
one_reading apart m (x ∷ xs) [] (p ∷ ps) a b = absurd b
one_reading apart m (x ∷ xs) (y ∷ ys) (p ∷ ps) a b =
    ap (λ (r : List StoreRow). r ∷ xs) (apart m m x y p a.0 b.0).1 ∙ ap (λ (r : List (List StoreRow)). y ∷ r) (one_reading apart m xs ys ps a.1 b.1)

pub one_mode : Apart → (m n : Mode) (xs ys : List (List StoreRow)) (payloads : List (List ℕ)) → payloads ≢ [] → AllZip (IsPayload m) xs payloads → AllZip (IsPayload n) ys payloads → m ≡ n
one_mode apart m n xs ys [] some a b = absurd (some refl)
one_mode apart m n [] ys (p ∷ ps) some a b = absurd a
one_mode apart m n (x ∷ xs) [] (p ∷ ps) some a b = absurd b
one_mode apart m n (x ∷ xs) (y ∷ ys) (p ∷ ps) some a b = (apart m n x y p a.0 b.0).0

not_empty : {A : Type 0} (xs : List A) (x : A) → xs ++ x ∷ [] ≢ []
not_empty [] x e = absurd cc
not_empty (y ∷ xs) x e = absurd cc

-- ---- a payload after which there is no store

module _ (bounds : Bounds) (payloads : List (List ℕ)) (bytes : List ℕ) where
  record LastRead (mode : Mode) : Type 0 where
    pub front : List (List StoreRow)
    pub rows : List StoreRow
    pub read : IsRead bounds mode front payloads
    pub spelled : IsPayload mode rows bytes
    pub goes_on : Continues bounds mode (all_of front) rows

  last_read : (mode : Mode) (batches : List (List StoreRow)) → IsRead bounds mode batches (payloads ++ bytes ∷ []) → LastRead mode
  last_read mode batches r =
      let ends = zip_last (IsPayload mode) batches payloads bytes r.spelled in
      let goes = continue_last bounds mode [] ends.front ends.last (subst (AllContinue bounds mode []) ends.is r.continue) in
      record { front = ends.front; rows = ends.last; read = record { spelled = ends.all; continue = goes.0 }; spelled = ends.one; goes_on = goes.1 }

  pub malformed_is_none : ((mode : Mode) (rows : List StoreRow) → ¬ IsPayload mode rows bytes) → AreNoStore bounds (payloads ++ bytes ∷ [])
  malformed_is_none bad = λ mode batches r. let l = last_read mode batches r in bad mode l.rows l.spelled

  pub other_is_none : Apart → (mode : Mode) (rows : List StoreRow) (batches : List (List StoreRow)) (o : Option Checked) → IsChecked bounds batches payloads o → IsPayload mode rows bytes → IsOfOther mode o → AreNoStore bounds (payloads ++ bytes ∷ [])
  other_is_none apart mode rows batches None checked spelled other = absurd other
  other_is_none apart mode rows batches (Some c) checked spelled other = λ m bs r.
      let l = last_read m bs r in
      let same : c.mode ≡ m = one_mode apart c.mode m batches l.front payloads checked.some checked.read.spelled l.read.spelled in
      other (same ∙ (apart m mode l.rows rows bytes l.spelled spelled).0)

  pub stopped_is_none : Apart → (mode : Mode) (rows : List StoreRow) (batches : List (List StoreRow)) → IsRead bounds mode batches payloads → IsPayload mode rows bytes → ¬ Continues bounds mode (all_of batches) rows → AreNoStore bounds (payloads ++ bytes ∷ [])
  stopped_is_none apart mode rows batches read spelled stop = λ m bs r.
      let l = last_read m bs r in
      let both = apart m mode l.rows rows bytes l.spelled spelled in
      let front : l.front ≡ batches = one_reading apart mode l.front batches payloads (subst (λ (n : Mode). AllZip (IsPayload n) l.front payloads) both.0 l.read.spelled) read.spelled in
      stop (subst (λ (n : Mode). Continues bounds n (all_of batches) rows) both.0
      (subst (λ (bs : List (List StoreRow)). Continues bounds m (all_of bs) rows) front (subst (λ (rs : List StoreRow). Continues bounds m (all_of l.front) rs) both.1 l.goes_on)))

  -- ---- a payload that goes on

  pub goes_on_still : (listed : List Batch) (batch : Batch) (mode : Mode) (rows : List StoreRow) (old new : Reading) (check now : Tables) (h : HasRead bounds listed payloads old) → bounds.entities < 2 ^ 32
      → IsRead bounds mode h.batches payloads → IsChecker bounds mode (all_of h.batches) check → IsPayload mode rows bytes
      → Continues check.bounds check.mode (all_of h.batches) rows → Goes check (all_of h.batches ++ rows) now
      → new.checked ≡ Some (record { mode = mode; check = now }) → new.rows.rows ≡ fold grown old.rows.rows rows → new.rows.lawful ≡ false
      → new.tables ≡ old.tables ++ filter is_of_table rows → new.closing ≡ filter closes rows
      → ArePlaced (listed ++ batch ∷ []) (payloads ++ bytes ∷ []) new.rows → HasRead bounds (listed ++ batch ∷ []) (payloads ++ bytes ∷ []) new
  goes_on_still listed batch mode rows old new check now h few read checker spelled goes_on goes checked kept unjudged tables closing placed =
      let before = all_of h.batches in
      let all = all_pushed h.batches rows in
      let continues : Continues bounds mode before rows = subst (λ (m : Mode). Continues bounds m before rows) checker.mode_is (subst (λ (b : Bounds). Continues b check.mode before rows) checker.bounds_are goes_on) in
      let more : IsRead bounds mode (h.batches ++ rows ∷ []) (payloads ++ bytes ∷ []) = record {
        spelled = zip_push (IsPayload mode) h.batches payloads rows bytes read.spelled spelled;
        continue = continue_push bounds mode [] h.batches rows read.continue continues;
      } in
      let are : AreChecked bounds (h.batches ++ rows ∷ []) (payloads ++ bytes ∷ []) (record { mode = mode; check = now }) = record {
        some = not_empty payloads bytes;
        read = more;
        checker = record { stands = subst (λ (rs : List StoreRow). StandsFor now rs) (sym all) goes.stands; bounds_are = goes.bounds ∙ checker.bounds_are; mode_is = goes.mode ∙ checker.mode_is };
      } in
      record {
        batches = h.batches ++ rows ∷ [];
        checked = subst (IsChecked bounds (h.batches ++ rows ∷ []) (payloads ++ bytes ∷ [])) (sym checked) are;
        rows = kept ∙ ap (λ (R : List Row). fold grown R rows) h.rows ∙ sym (ap rows_of all ∙ fold-append grown [] before rows);
        unjudged = unjudged;
        sound = subst (AreSound bounds.entities) (sym all) (batch_goes_on bounds mode before rows continues.stand h.sound few).1;
        placed = placed;
        tables = tables ∙ ap (λ (r : List StoreRow). r ++ filter is_of_table rows) h.tables ∙ sym (ap (filter is_of_table) all ∙ filter-append is_of_table before rows);
        closing = closing ∙ sym (ap (λ (o : Option (List StoreRow)). filter closes (unwrap_or o [])) (last_pushed h.batches rows));
      }

-- what is asked of the rows of a batch that goes on
pub may_fill : (bounds : Bounds) (listed : List Batch) (payloads : List (List ℕ)) (mode : Mode) (rows : List StoreRow) (old : Reading) (check : Tables) (h : HasRead bounds listed payloads old) → bounds.entities < 2 ^ 32
    → IsChecker bounds mode (all_of h.batches) check → Continues check.bounds check.mode (all_of h.batches) rows → AllGoOn old.rows.rows rows
may_fill bounds listed payloads mode rows old check h few checker goes_on =
    let before = all_of h.batches in
    let continues : Continues bounds mode before rows = subst (λ (m : Mode). Continues bounds m before rows) checker.mode_is (subst (λ (b : Bounds). Continues b check.mode before rows) checker.bounds_are goes_on) in
    subst (λ (R : List Row). AllGoOn R rows) (sym h.rows) (batch_goes_on bounds mode before rows continues.stand h.sound few).0

-- ---- the checker of the batches so far

pub same_mode : (bounds : Bounds) (batches : List (List StoreRow)) (payloads : List (List ℕ)) (o : Option Checked) (c : Checked) (mode : Mode) → o ≡ Some c → c.mode ≡ mode → IsChecked bounds batches payloads o
    → IsRead bounds mode batches payloads × IsChecker bounds mode (all_of batches) c.check
same_mode bounds batches payloads o c mode is same checked =
    let are : AreChecked bounds batches payloads c = subst (IsChecked bounds batches payloads) is checked in
    subst (λ (m : Mode). IsRead bounds m batches payloads × IsChecker bounds m (all_of batches) c.check) same (are.read, are.checker)

pub other_mode : (o : Option Checked) (c : Checked) (mode : Mode) → o ≡ Some c → c.mode ≢ mode → IsOfOther mode o
other_mode o c mode is other = subst (IsOfOther mode) (sym is) other

-- the mode of the batches so far
pub mode_found : (bounds : Bounds) (batches : List (List StoreRow)) (payloads : List (List ℕ)) (o : Option Checked) → IsChecked bounds batches payloads o → IsOfMode bounds batches payloads (option_map (λ (c : Checked). c.mode) o)
mode_found bounds batches payloads None checked = checked
mode_found bounds batches payloads (Some c) checked = (checked.some, checked.read)

-- what is said of an option that is known
pub told_none : {A : Type 0} (N : Type 0) (S : A → Type 0) (o : Option A) → o ≡ None → MatchOption o N S → N
told_none {A} N S o is m = subst (λ (x : Option A). MatchOption x N S) is m

pub told_some : {A : Type 0} (N : Type 0) (S : A → Type 0) (o : Option A) (a : A) → o ≡ Some a → MatchOption o N S → S a
told_some {A} N S o a is m = subst (λ (x : Option A). MatchOption x N S) is m

-- ---- last places by the checker

distinct_places : (bounds : Bounds) (batches : List (List StoreRow)) (payloads : List (List ℕ)) (o : Option Checked) → IsChecked bounds batches payloads o → last_places o ≡ map place_of (map (λ (r : Row). r.last.at) (rows_of (all_of batches)))
distinct_places bounds batches payloads None checked = sym (ap (λ (bs : List (List StoreRow)). map place_of (map (λ (r : Row). r.last.at) (rows_of (all_of bs)))) checked.0)
distinct_places bounds batches payloads (Some c) checked = ap (map place_of) checked.checker.stands.lasts

-- the rows are lawful if the checker has distinct places
pub places_apart : (bounds : Bounds) (batches : List (List StoreRow)) (payloads : List (List ℕ)) (o : Option Checked) (lawful apart : Bool) → lawful ≡ apart → IsChecked bounds batches payloads o
    → (IsTrue apart ↔ IsDistinct nat_eq (last_places o)) → (lawful ≡ true) ↔ AreApart (rows_of (all_of batches))
places_apart bounds batches payloads o lawful apart is checked told =
    let places = distinct_places bounds batches payloads o checked in (
      λ so. apart_rows (rows_of (all_of batches)) (subst (IsDistinct nat_eq) places (told.0 (sym is ∙ so))),
      λ differ. is ∙ told.1 (subst (IsDistinct nat_eq) (sym places) (distinct_rows (rows_of (all_of batches)) differ)),
    )
