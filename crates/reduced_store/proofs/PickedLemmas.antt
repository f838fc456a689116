-- The rows that are found in a store say of its tables what all its rows say.
use Rattle.std.proofs.Common.{◌≡◌, ◌∙◌, refl, sym, ap, ℕ, Bool, true, false, cond, List, [], ◌∷◌, ◌++◌, Option, Some, None}
use Rattle.std.specs.Prelude.{filter, fold, unwrap_or}
use Rattle.std.specs.List.{flat_map}
use Rattle.std.proofs.lemmas.List.{append-nil}
use Rattle.std.proofs.lemmas.Grind.{flat_map-append, fold-append}
use Rattle.row_codec.specs.declared.state.StateRow.{StateRow}
use Rattle.row_codec.specs.declared.rows.KeptRow.{KeptRow}
use Rattle.row_codec.specs.declared.rows.ExtendRow.{ExtendRow}
use Rattle.row_codec.specs.declared.rows.StoreRow.{StoreRow}
use Rattle.row_codec.specs.declared.rows.StoreRow.TheVariants.{Entity, Kept, Extend, Name, Life, Held, Address, Born, Waiting, State}
use Rattle.store_check.specs.Store.{key_in, life_in, newer}
use Rattle.stored.specs.Stored.{last_of}
use Rattle.stored.specs.Words.{all_of, name_in, Holding, holding_with, nothing_held, address_in, born_in, group_in, groups_of, state_in, state_of}
use Rattle.reduced_store.specs.Reading.{is_of_table, closes, table_rows, closing_rows}
use Rattle.reduced_store.specs.Restoring.{SaySame}

-- ---- rows of which only some say anything

module _ {B : Type 0} (test : StoreRow → Bool) (f : StoreRow → List B) where
  -- the rows that don't pass say nothing
  flat_kept : ((row : StoreRow) → test row ≡ false → f row ≡ []) → (rows : List StoreRow) → flat_map f (filter test rows) ≡ flat_map f rows
  flat_kept none [] = refl
  flat_kept none (row ∷ rows) = by (test row) refl (flat_kept none rows)
    where
      by : (b : Bool) → test row ≡ b → flat_map f (filter test rows) ≡ flat_map f rows → flat_map f (cond b (row ∷ filter test rows) (filter test rows)) ≡ f row ++ flat_map f rows
      by true is rest = ap (λ (t : List B). f row ++ t) rest
      by false is rest = rest ∙ ap (λ (t : List B). t ++ flat_map f rows) (sym (none row is))

  -- the rows that pass say nothing
  flat_none : ((row : StoreRow) → test row ≡ true → f row ≡ []) → (rows : List StoreRow) → flat_map f (filter test rows) ≡ []
  flat_none none [] = refl
  flat_none none (row ∷ rows) = by (test row) refl (flat_none none rows)
    where
      by : (b : Bool) → test row ≡ b → flat_map f (filter test rows) ≡ [] → flat_map f (cond b (row ∷ filter test rows) (filter test rows)) ≡ []
      by true is rest = ap (λ (t : List B). t ++ flat_map f (filter test rows)) (none row is) ∙ rest
      by false is rest = rest

module _ {A : Type 0} (test : StoreRow → Bool) (step : A → StoreRow → A) where
  fold_kept : ((row : StoreRow) → test row ≡ false → (a : A) → step a row ≡ a) → (a : A) (rows : List StoreRow) → fold step a (filter test rows) ≡ fold step a rows
  fold_kept none a [] = refl
  fold_kept none a (row ∷ rows) = by (test row) refl (λ x. fold_kept none x rows)
    where
      by : (b : Bool) → test row ≡ b → ((x : A) → fold step x (filter test rows) ≡ fold step x rows) → fold step a (cond b (row ∷ filter test rows) (filter test rows)) ≡ fold step (step a row) rows
      by true is rest = rest (step a row)
      by false is rest = rest a ∙ ap (λ (x : A). fold step x rows) (sym (none row is a))

  fold_none : ((row : StoreRow) → test row ≡ true → (a : A) → step a row ≡ a) → (a : A) (rows : List StoreRow) → fold step a (filter test rows) ≡ a
  fold_none none a [] = refl
  fold_none none a (row ∷ rows) = by (test row) refl (fold_none none a rows)
    where
      by : (b : Bool) → test row ≡ b → fold step a (filter test rows) ≡ a → fold step a (cond b (row ∷ filter test rows) (filter test rows)) ≡ a
      by true is rest = ap (λ (x : A). fold step x (filter test rows)) (none row is a) ∙ rest
      by false is rest = rest

-- ---- the kinds of rows

module _ (P : StoreRow → Type 0) where
  -- what holds of each kind of row that fills no table
  not_of_table : ((r : KeptRow) → P (Kept r)) → ((e : ExtendRow) → P (Extend e)) → ((m s : ℕ) (c : Bool) (l : List (List ℕ)) → P (Waiting m s c l)) → ((s : StateRow) → P (State s))
      → (row : StoreRow) → is_of_table row ≡ false → P row
  not_of_table kept extend waiting state (Entity k) is = absurd cc
  not_of_table kept extend waiting state (Kept r) is = kept r
  not_of_table kept extend waiting state (Extend e) is = extend e
  not_of_table kept extend waiting state (Name k t) is = absurd cc
  not_of_table kept extend waiting state (Life p l) is = absurd cc
  not_of_table kept extend waiting state (Held p f h) is = absurd cc
  not_of_table kept extend waiting state (Address a b) is = absurd cc
  not_of_table kept extend waiting state (Born f b) is = absurd cc
  not_of_table kept extend waiting state (Waiting m s c l) is = waiting m s c l
  not_of_table kept extend waiting state (State s) is = state s

  -- what holds of each kind of row that closes a batch
  closing : ((m s : ℕ) (c : Bool) (l : List (List ℕ)) → P (Waiting m s c l)) → ((s : StateRow) → P (State s)) → (row : StoreRow) → closes row ≡ true → P row
  closing waiting state (Entity k) is = absurd cc
  closing waiting state (Kept r) is = absurd cc
  closing waiting state (Extend e) is = absurd cc
  closing waiting state (Name k t) is = absurd cc
  closing waiting state (Life p l) is = absurd cc
  closing waiting state (Held p f h) is = absurd cc
  closing waiting state (Address a b) is = absurd cc
  closing waiting state (Born f b) is = absurd cc
  closing waiting state (Waiting m s c l) is = waiting m s c l
  closing waiting state (State s) is = state s

-- ---- what rows say of tables

module _ (batches : List (List StoreRow)) where
  abbrev all : List StoreRow
  all = all_of batches

  abbrev tables : List StoreRow
  tables = table_rows batches

  abbrev last : List StoreRow
  last = unwrap_or (last_of batches) []

  abbrev ends : List StoreRow
  ends = closing_rows batches

  flat_same : {B : Type 0} (f : StoreRow → List B) → ((row : StoreRow) → is_of_table row ≡ false → f row ≡ []) → ((row : StoreRow) → closes row ≡ true → f row ≡ []) → flat_map f (tables ++ ends) ≡ flat_map f all
  flat_same {B} f others none =
      flat_map-append f tables ends
      ∙ ap (λ (t : List B). flat_map f tables ++ t) (flat_none closes f none last)
      ∙ append-nil (flat_map f tables)
      ∙ flat_kept is_of_table f others all

  fold_same : {A : Type 0} (step : A → StoreRow → A) (a : A) → ((row : StoreRow) → is_of_table row ≡ false → (x : A) → step x row ≡ x) → ((row : StoreRow) → closes row ≡ true → (x : A) → step x row ≡ x)
      → fold step a (tables ++ ends) ≡ fold step a all
  fold_same step a others none =
      fold-append step a tables ends
      ∙ fold_none closes step none (fold step a tables) last
      ∙ fold_kept is_of_table step others a all

  found_same : {A : Type 0} (here : StoreRow → Option A) → ((row : StoreRow) → is_of_table row ≡ false → here row ≡ None) → ((row : StoreRow) → closes row ≡ true → here row ≡ None)
      → fold (λ (found : Option A) (row : StoreRow). newer found (here row)) None (tables ++ ends) ≡ fold (λ (found : Option A) (row : StoreRow). newer found (here row)) None all
  found_same {A} here others none =
      fold_same (λ (found : Option A) (row : StoreRow). newer found (here row)) None
      (λ row is x. ap (newer x) (others row is))
      (λ row is x. ap (newer x) (none row is))

  pub others_say_same : SaySame all (tables ++ ends)
  others_say_same = record {
    keys_are = flat_same key_in
        (not_of_table (λ row. key_in row ≡ []) (λ r. refl) (λ e. refl) (λ m s c l. refl) (λ s. refl))
        (closing (λ row. key_in row ≡ []) (λ m s c l. refl) (λ s. refl));
    names_are = flat_same name_in
        (not_of_table (λ row. name_in row ≡ []) (λ r. refl) (λ e. refl) (λ m s c l. refl) (λ s. refl))
        (closing (λ row. name_in row ≡ []) (λ m s c l. refl) (λ s. refl));
    lives_are = λ p. found_same (life_in p)
        (not_of_table (λ row. life_in p row ≡ None) (λ r. refl) (λ e. refl) (λ m s c l. refl) (λ s. refl))
        (closing (λ row. life_in p row ≡ None) (λ m s c l. refl) (λ s. refl));
    held_are = λ p n. ap (λ (h : Holding). h.held) (fold_same (holding_with p n) nothing_held
        (not_of_table (λ row. (h : Holding) → holding_with p n h row ≡ h) (λ r h. refl) (λ e h. refl) (λ m s c l h. refl) (λ s h. refl))
        (closing (λ row. (h : Holding) → holding_with p n h row ≡ h) (λ m s c l h. refl) (λ s h. refl)));
    addresses_are = λ a. found_same (address_in a)
        (not_of_table (λ row. address_in a row ≡ None) (λ r. refl) (λ e. refl) (λ m s c l. refl) (λ s. refl))
        (closing (λ row. address_in a row ≡ None) (λ m s c l. refl) (λ s. refl));
    births_are = λ f. found_same (born_in f)
        (not_of_table (λ row. born_in f row ≡ None) (λ r. refl) (λ e. refl) (λ m s c l. refl) (λ s. refl))
        (closing (λ row. born_in f row ≡ None) (λ m s c l. refl) (λ s. refl));
  }

-- ---- what they say of the end of the last batch

state_of_table : (row : StoreRow) → is_of_table row ≡ true → state_in row ≡ None
state_of_table (Entity k) is = refl
state_of_table (Kept r) is = refl
state_of_table (Extend e) is = refl
state_of_table (Name k t) is = refl
state_of_table (Life p l) is = refl
state_of_table (Held p f h) is = refl
state_of_table (Address a b) is = refl
state_of_table (Born f b) is = refl
state_of_table (Waiting m s c l) is = refl
state_of_table (State s) is = absurd cc

state_of_open : (row : StoreRow) → closes row ≡ false → state_in row ≡ None
state_of_open (Entity k) is = refl
state_of_open (Kept r) is = refl
state_of_open (Extend e) is = refl
state_of_open (Name k t) is = refl
state_of_open (Life p l) is = refl
state_of_open (Held p f h) is = refl
state_of_open (Address a b) is = refl
state_of_open (Born f b) is = refl
state_of_open (Waiting m s c l) is = refl
state_of_open (State s) is = absurd cc

group_of_table : (row : StoreRow) → is_of_table row ≡ true → group_in row ≡ []
group_of_table (Entity k) is = refl
group_of_table (Kept r) is = refl
group_of_table (Extend e) is = refl
group_of_table (Name k t) is = refl
group_of_table (Life p l) is = refl
group_of_table (Held p f h) is = refl
group_of_table (Address a b) is = refl
group_of_table (Born f b) is = refl
group_of_table (Waiting m s c l) is = absurd cc
group_of_table (State s) is = refl

group_of_open : (row : StoreRow) → closes row ≡ false → group_in row ≡ []
group_of_open (Entity k) is = refl
group_of_open (Kept r) is = refl
group_of_open (Extend e) is = refl
group_of_open (Name k t) is = refl
group_of_open (Life p l) is = refl
group_of_open (Held p f h) is = refl
group_of_open (Address a b) is = refl
group_of_open (Born f b) is = refl
group_of_open (Waiting m s c l) is = absurd cc
group_of_open (State s) is = refl

module _ (batches : List (List StoreRow)) (batch : List StoreRow) (is_last : last_of batches ≡ Some batch) where
  ends_are : closing_rows batches ≡ filter closes batch
  ends_are = ap (λ (o : Option (List StoreRow)). filter closes (unwrap_or o [])) is_last

  abbrev newest : Option StateRow → StoreRow → Option StateRow
  newest found row = newer found (state_in row)

  pub state_of_last : state_of (table_rows batches ++ closing_rows batches) ≡ state_of batch
  state_of_last =
      ap (λ (rows : List StoreRow). state_of (table_rows batches ++ rows)) ends_are
      ∙ fold-append newest None (table_rows batches) (filter closes batch)
      ∙ ap (λ (found : Option StateRow). fold newest found (filter closes batch)) (fold_none is_of_table newest (λ row is x. ap (newer x) (state_of_table row is)) None (all_of batches))
      ∙ fold_kept closes newest (λ row is x. ap (newer x) (state_of_open row is)) None batch

  pub groups_of_last : groups_of (table_rows batches ++ closing_rows batches) ≡ groups_of batch
  groups_of_last =
      ap (λ (rows : List StoreRow). groups_of (table_rows batches ++ rows)) ends_are
      ∙ flat_map-append group_in (table_rows batches) (filter closes batch)
      ∙ ap (λ groups. groups ++ groups_of (filter closes batch)) (flat_none is_of_table group_in group_of_table (all_of batches))
      ∙ flat_kept closes group_in group_of_open batch
