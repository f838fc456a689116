-- What is found in a store can be restored.
use Rattle.std.proofs.Common.{◌≡◌, ◌≢◌, ◌⊎◌, ◌∙◌, refl, sym, ap, subst, ⊎_elim, inl, ℕ, zero, suc, ◌<◌, ◌≤◌, Bool, true, false, if◌then◌else◌, List, [], ◌∷◌, ◌++◌, length, get_or, arith, append_assoc, Some, None}
use Rattle.std.specs.Prelude.{fold, IfSome}
use Rattle.std.specs.List.{Contains, AllByRecursion, AllZip, list_any}
use Rattle.std.proofs.lemmas.List.{append-nil, length-map}
use Rattle.std.proofs.lemmas.List.Elements.{All-contains, All-from_recursion, Contains-get_or}
use Rattle.std.proofs.lemmas.Grind.{fold-append}
use Rattle.indexmap.proofs.CallerLemmas.{Contains-list_any}
use Rattle.flow_base.specs.declared.types.Flow.{Flow}
use Rattle.flow_base.specs.declared.types.Key.{Key}
use Rattle.flow_base.specs.contracts.types.KeyPartialEq.TheImpl.{ghosts}
use Rattle.acts.specs.Keys.{put_new}
use Rattle.reach_model.specs.declared.modes.Mode.{Mode}
use Rattle.reach_model.specs.Flows.{place}
use Rattle.reach_model.specs.Numbers.{known}
use Rattle.reach_model.specs.Rows.{Row, firsts, lasts, row_of}
use Rattle.reach_model.proofs.Members.{from_map}
use Rattle.row_codec.specs.declared.state.StateRow.{StateRow}
use Rattle.row_codec.specs.declared.rows.StoreRow.{StoreRow}
use Rattle.row_codec.specs.declared.rows.StoreRow.TheVariants.{Entity, Kept, Extend, Name, Life, Held, Address, Born, Waiting, State}
use Rattle.row_codec.specs.Payload.{IsPayload}
use Rattle.store_check.specs.Conditions.{Bounds, EachAfter, MayStand, IsNextState}
use Rattle.store_check.specs.Store.{keys, key_in, grown, rows_of, flow_of, extended, place_in, time_in, EachIn}
use Rattle.store_check.proofs.Growing.{keys_push, rows_push}
use Rattle.stored.specs.Batch.{Ascends, IsKeyBefore}
use Rattle.stored.specs.Stored.{AllContinue}
use Rattle.stored.specs.Words.{all_of, state_of}
use Rattle.reduced_store.specs.Filling.{AreSound}
use Rattle.reduced_store.specs.Reading.{IsOfMode, IsFound, table_rows, closing_rows}
use Rattle.reduced_store.specs.Restoring.{CanBeRestored, IsFlowBefore}
use Rattle.reduced_store.specs.declared.reading.Found.{Found}
use Rattle.reduced_store.proofs.FillLemmas.{all_changed}
use Rattle.reduced_store.proofs.ReadLemmas.{all_pushed, last_pushed, continue_last}
use Rattle.reduced_store.proofs.PickedLemmas.{others_say_same, state_of_last, groups_of_last}
use Rattle.reduced_store.proofs.OrderLemmas.{groups_ascend, has_state, last_stands}

-- ---- keys

-- equal keys are one
abbrev pub AreOne : Type 0
AreOne = (a b : Key) → ghosts.eq a b ≡ true → a ≡ b

-- each key is new where it comes
abbrev AreNew : List Key → Type 0
AreNew ks = fold (put_new ghosts.eq) [] ks ≡ ks

new_more : AreOne → (ks : List Key) (k : Key) → AreNew ks → ¬ Contains ks k → AreNew (ks ++ k ∷ [])
new_more one ks k are new = fold-append (put_new ghosts.eq) [] ks (k ∷ []) ∙ ap (λ (seen : List Key). put_new ghosts.eq seen k) are ∙ by (list_any (ghosts.eq k) ks) refl
  where
    by : (b : Bool) → list_any (ghosts.eq k) ks ≡ b → put_new ghosts.eq ks k ≡ ks ++ k ∷ []
    by true is = absurd (new (Contains-list_any ghosts.eq one ks k is))
    by false is = ap (λ (b : Bool). if b then ks else ks ++ k ∷ []) is

same_keys : (before : List StoreRow) (row : StoreRow) → key_in row ≡ [] → AreNew (keys before) → AreNew (keys (before ++ row ∷ []))
same_keys before row none are = subst AreNew (sym (keys_push before row ∙ ap (λ (ks : List Key). keys before ++ ks) none ∙ append-nil (keys before))) are

module _ (bounds : Bounds) (mode : Mode) (one : AreOne) where
  new_next : (before : List StoreRow) (row : StoreRow) → MayStand bounds mode before row → AreNew (keys before) → AreNew (keys (before ++ row ∷ []))
  new_next before (Entity k) may are = subst AreNew (sym (keys_push before (Entity k))) (new_more one (keys before) k are may.new)
  new_next before (Kept r) may are = same_keys before (Kept r) refl are
  new_next before (Extend e) may are = same_keys before (Extend e) refl are
  new_next before (Name k t) may are = same_keys before (Name k t) refl are
  new_next before (Life p l) may are = same_keys before (Life p l) refl are
  new_next before (Held p f h) may are = same_keys before (Held p f h) refl are
  new_next before (Address a b) may are = same_keys before (Address a b) refl are
  new_next before (Born f b) may are = same_keys before (Born f b) refl are
  new_next before (Waiting m s c l) may are = same_keys before (Waiting m s c l) refl are
  new_next before (State s) may are = same_keys before (State s) refl are

  new_batch : (before rows : List StoreRow) → EachAfter (MayStand bounds mode) before rows → AreNew (keys before) → AreNew (keys (before ++ rows))
  new_batch before [] each are = subst (λ (r : List StoreRow). AreNew (keys r)) (sym (append-nil before)) are
  new_batch before (row ∷ rows) each are =
      subst (λ (r : List StoreRow). AreNew (keys r)) (append_assoc before (row ∷ []) rows) (new_batch (before ++ row ∷ []) rows each.1 (new_next before row each.0 are))

  new_all : (before : List StoreRow) (batches : List (List StoreRow)) → AllContinue bounds mode before batches → AreNew (keys before) → AreNew (keys (before ++ all_of batches))
  new_all before [] all are = subst (λ (r : List StoreRow). AreNew (keys r)) (sym (append-nil before)) are
  new_all before (b ∷ batches) all are =
      subst (λ (r : List StoreRow). AreNew (keys r)) (append_assoc before b (all_of batches)) (new_all (before ++ b) batches all.1 (new_batch before b all.0.stand are))

-- ---- flows of kept rows

module _ (state : StateRow) where
  -- both flows of a row are before the State
  abbrev IsRowBefore : Row → Type 0
  IsRowBefore r = IsFlowBefore state r.first × IsFlowBefore state r.last

  -- so is the mark of a row of the store
  abbrev HasMarkBefore : StoreRow → Type 0
  HasMarkBefore row = IfSome (place_in row) (λ n. n < state.flows) × IfSome (time_in row) (λ ms. ms ≤ state.effective)

  row_put : (R : List Row) (r : Row) → AllByRecursion IsRowBefore R → IsRowBefore r → AllByRecursion IsRowBefore (R ++ r ∷ [])
  row_put [] r all one = (one, tt)
  row_put (x ∷ R) r all one = (all.0, row_put R r all.1 one)

  row_more : (R : List Row) (row : StoreRow) → AllByRecursion IsRowBefore R → HasMarkBefore row → AllByRecursion IsRowBefore (grown R row)
  row_more R (Kept r) all mark = row_put R (row_of (flow_of r)) all ((mark.0, mark.1), (mark.0, mark.1))
  row_more R (Extend e) all mark = all_changed IsRowBefore e.row (extended e.mark) R (λ q is both. (both.0, (mark.0, mark.1))) all
  row_more R (Entity k) all mark = all
  row_more R (Name k t) all mark = all
  row_more R (Life p l) all mark = all
  row_more R (Held p f h) all mark = all
  row_more R (Address a b) all mark = all
  row_more R (Born f b) all mark = all
  row_more R (Waiting m s c l) all mark = all
  row_more R (State s) all mark = all

  rows_before : (R : List Row) (rows : List StoreRow) → AllByRecursion IsRowBefore R → AllByRecursion HasMarkBefore rows → AllByRecursion IsRowBefore (fold grown R rows)
  rows_before R [] all marks = all
  rows_before R (row ∷ rows) all marks = rows_before (grown R row) rows (row_more R row all marks.0) marks.1

  marks_before : (rows : List StoreRow) → ((row : StoreRow) → Contains rows row → HasMarkBefore row) → AllByRecursion HasMarkBefore rows
  marks_before [] each = tt
  marks_before (row ∷ rows) each = (each row (0, omega arith, refl), marks_before rows (λ other c. each other (suc c.0, omega (arith, c.1), c.2)))

  pub flow_before : (rows : List StoreRow) → EachIn place_in (λ n. n < state.flows) rows → EachIn time_in (λ ms. ms ≤ state.effective) rows
      → (f : Flow) → Contains (firsts (rows_of rows)) f ⊎ Contains (lasts (rows_of rows)) f → IsFlowBefore state f
  flow_before rows places times f there =
      let all = All-from_recursion IsRowBefore (rows_of rows) (rows_before [] rows tt (marks_before rows (λ row c. (places row c, times row c)))) in
      ⊎_elim
      (λ c. let r = from_map (λ (x : Row). x.first) (rows_of rows) f c in subst (IsFlowBefore state) r.2 (All-contains IsRowBefore (rows_of rows) r.0 all r.1).0)
      (λ c. let r = from_map (λ (x : Row). x.last) (rows_of rows) f c in subst (IsFlowBefore state) r.2 (All-contains IsRowBefore (rows_of rows) r.0 all r.1).1)
      there

-- places that ascend are no smaller than their index
at_least : (K : List Flow) → ((i j : ℕ) (d : Flow) → i < j → j < length K → place (get_or K i d) < place (get_or K j d)) → (i : ℕ) (d : Flow) → i < length K → i ≤ place (get_or K i d)
at_least K ascend zero d h = omega arith
at_least K ascend (suc i) d h =
    let low = at_least K ascend i d (omega (arith, h)) in
    let up = ascend i (suc i) d (omega arith) h in
    omega (arith, low, up)

few_below : (n : ℕ) (K : List Flow) → ((i j : ℕ) (d : Flow) → i < j → j < length K → place (get_or K i d) < place (get_or K j d)) → ((f : Flow) → Contains K f → place f < n) → length K ≤ n
few_below n [] ascend below = omega arith
few_below n (f ∷ F) ascend below =
    let h : length F < length (f ∷ F) = omega arith in
    let low = at_least (f ∷ F) ascend (length F) f h in
    let up = below (get_or (f ∷ F) (length F) f) (Contains-get_or (f ∷ F) (length F) f h) in
    omega (arith, low, up)

-- ---- the last batch

pub record HasLast (batches : List (List StoreRow)) : Type 0 where
  pub front : List (List StoreRow)
  pub last : List StoreRow
  pub is : batches ≡ front ++ last ∷ []

has_last : (batch : List StoreRow) (batches : List (List StoreRow)) → HasLast (batch ∷ batches)
has_last batch [] = record { front = []; last = batch; is = refl }
has_last batch (next ∷ batches) =
    let rest = has_last next batches in
    record { front = batch ∷ rest.front; last = rest.last; is = ap (λ (r : List (List StoreRow)). batch ∷ r) rest.is }

pub some_last : (mode : Mode) (batches : List (List StoreRow)) (payloads : List (List ℕ)) → payloads ≢ [] → AllZip (IsPayload mode) batches payloads → HasLast batches
some_last mode [] [] some spelled = absurd (some refl)
some_last mode [] (p ∷ ps) some spelled = absurd spelled
some_last mode (b ∷ batches) payloads some spelled = has_last b batches

-- ---- a store that has a batch

module _ (bounds : Bounds) (mode : Mode) (one : AreOne) (front : List (List StoreRow)) (batch : List StoreRow) (all : AllContinue bounds mode [] (front ++ batch ∷ [])) (sound : AreSound bounds.entities (all_of (front ++ batch ∷ []))) where
  abbrev batches : List (List StoreRow)
  batches = front ++ batch ∷ []

  abbrev rows : List StoreRow
  rows = all_of batches

  abbrev others : List StoreRow
  others = table_rows batches ++ closing_rows batches

  pub restored : CanBeRestored bounds others (rows_of rows)
  restored =
      let goes = (continue_last bounds mode [] front batch all).1 in
      let ends = has_state batch goes.ended in
      let before = all_of front ++ ends.front in
      let next : IsNextState bounds before ends.state = last_stands (MayStand bounds mode) (all_of front) ends.front (State ends.state) (subst (EachAfter (MayStand bounds mode) (all_of front)) ends.is goes.stand) in
      let whole : rows ≡ before ++ State ends.state ∷ [] = all_pushed front batch ∙ ap (λ (r : List StoreRow). all_of front ++ r) ends.is ∙ sym (append_assoc (all_of front) ends.front (State ends.state ∷ [])) in
      let kept : rows_of rows ≡ rows_of before = ap rows_of whole ∙ rows_push before (State ends.state) in
      let named : keys rows ≡ keys before = ap keys whole ∙ keys_push before (State ends.state) ∙ append-nil (keys before) in
      let same = others_say_same batches in
      let before_state : (f : Flow) → Contains (firsts (rows_of rows)) f ⊎ Contains (lasts (rows_of rows)) f → IsFlowBefore ends.state f =
      λ f there. flow_before ends.state before next.places next.times f (subst (λ (R : List Row). Contains (firsts R) f ⊎ Contains (lasts R) f) kept there) in
      let last = last_pushed front batch in
      let few = few_below ends.state.flows (firsts (rows_of rows)) sound.order.ascend (λ f c. (before_state f (inl c)).0) in
      record {
        state = ends.state;
        state_is = state_of_last batches batch last ∙ ap state_of ends.is ∙ state_last ends.front ends.state;
        counts = next.counts;
        tail = next.tail;
        listed = next.listed;
        few = subst (λ (ks : List Key). length ks ≤ bounds.entities) (sym same.keys_are) sound.few;
        new = subst AreNew (sym same.keys_are) (new_all bounds mode one [] batches all refl);
        objects = ap (λ (R : List Row). known (firsts R)) kept ∙ next.appear ∙ sym (ap length (same.keys_are ∙ named));
        counted = subst (λ (n : ℕ). n ≤ ends.state.flows) (length-map (rows_of rows) (λ (r : Row). r.first)) few;
        before = before_state;
        ascend = subst (Ascends (λ x y. IsKeyBefore x.0 y.0)) (sym (groups_of_last batches batch last)) (groups_ascend batch goes.ordered);
      }
    where
      state_last : (ahead : List StoreRow) (state : StateRow) → state_of (ahead ++ State state ∷ []) ≡ Some state
      state_last ahead state = fold-append _ None ahead (State state ∷ [])

pub found_restored : AreOne → (bounds : Bounds) (payloads : List (List ℕ)) (found : Found) (mode : Mode) → IsFound bounds payloads found → found.mode ≡ Some mode → CanBeRestored bounds found.others found.rows.rows
found_restored one bounds payloads found mode is mode_is =
    let of_mode : IsOfMode bounds is.batches payloads (Some mode) = subst (IsOfMode bounds is.batches payloads) mode_is is.mode in
    let l = some_last mode is.batches payloads of_mode.0 of_mode.1.spelled in
    let all = subst (AllContinue bounds mode []) l.is of_mode.1.continue in
    let sound = subst (λ (bs : List (List StoreRow)). AreSound bounds.entities (all_of bs)) l.is is.sound in
    subst (λ (others : List StoreRow). CanBeRestored bounds others found.rows.rows) (sym (is.others ∙ ap (λ (bs : List (List StoreRow)). table_rows bs ++ closing_rows bs) l.is))
    (subst (CanBeRestored bounds (table_rows (l.front ++ l.last ∷ []) ++ closing_rows (l.front ++ l.last ∷ []))) (sym (is.rows ∙ ap (λ (bs : List (List StoreRow)). rows_of (all_of bs)) l.is))
    (restored bounds mode one l.front l.last all sound))
