-- The rows of a batch by kind, and what becomes of the rows when they are taken in.
use Rattle.std.proofs.Common.{◌≡◌, ℕ, zero, suc, ◌+◌, ◌*◌, ◌<◌, ◌≤◌, List, [], ◌∷◌, ◌++◌, length, get_or, take, drop, map, fold, refl, sym, ap, subst, ◌∙◌, arith}
use Rattle.std.specs.List.{All, AllByRecursion, flat_map}
use Rattle.std.proofs.lemmas.List.{append-nil, append_assoc, length-append, length-map, map-append}
use Rattle.std.proofs.lemmas.List.Concat.{flat_map-append, flat_map-cons}
use Rattle.std.proofs.lemmas.List.Elements.{All-push, All-append}
use Rattle.flow_base.specs.declared.types.Flow.{Flow}
use Rattle.flow_base.specs.declared.types.Key.{Key}
use Rattle.reach_model.specs.Rows.{Row, firsts, row_of}
use Rattle.reach_rows.specs.Kept.{row_of_kept}
use Rattle.reach_rows.specs.declared.rows.Row.{Row as KeptRow}
use Rattle.row_codec.specs.declared.rows.ExtendRow.{ExtendRow}
use Rattle.row_codec.specs.declared.rows.KeptRow.{KeptRow as SpelledRow}
use Rattle.row_codec.specs.declared.rows.StoreRow.{StoreRow}
use Rattle.row_codec.specs.declared.rows.StoreRow.TheVariants.{Entity, Kept, Extend, Name, Life, Held as AHeld, Address, Born, Waiting, State}
use Rattle.row_codec.specs.Rows.{row as spelling}
use Rattle.batch_log.specs.declared.find.Batch.{Batch}
use Rattle.saved_rows.specs.Joining.{batch_rows, with_extends}
use Rattle.saved_rows.specs.Remembered.{with_mark}
use Rattle.saved_rows.specs.Saved.{AreSpelledFrom, as_kept}
use Rattle.saved_rows.proofs.SettleLemmas.{extends_long, spelled_split}
use Rattle.saved_rows.proofs.SpelledLemmas.{extend_long, kept_long, spelled_from}
use Rattle.store_check.specs.Order.{AreOrdered, MayFollow}
use Rattle.store_check.specs.Store.{changed_at, extended, flow_of, grown, keys}
use Rattle.store_check.proofs.Growing.{firsts_same}
use Rattle.reduced_store.specs.Filling.{AllGoOn, IsNext, row_of_spelled}
use Rattle.reduced_store.specs.Held.{Held}
use Rattle.reduced_store.specs.Placing.{AreInBatch, SamePlaces, StandFrom}
use Rattle.reduced_store.specs.Taking.{HasTaken, MayCome, extend_in, extends, kept_in, kepts, single}
use Rattle.reduced_store.specs.declared.taking.Around.{Around}
use Rattle.reduced_store.proofs.HeldLemmas.{changed_length, changed_rows, firsts_of_push}

-- ---- taken row by row

pub taken_none : (held : Held) (around : Around) → HasTaken held held around around []
taken_none held around = record {
  rows = sym (append-nil held.rows);
  lawful = refl;
  places = record { saved = refl; kept = refl };
  recent = sym (append-nil held.placed.recent);
  renewed = refl;
  entities = sym (append-nil around.entities);
  extended = sym (append-nil around.extends);
}

-- lists that grow twice
twice : {A B : Type 0} (f : A → List B) (x y z : List B) (xs ys : List A) → y ≡ x ++ flat_map f xs → z ≡ y ++ flat_map f ys → z ≡ x ++ flat_map f (xs ++ ys)
twice {A} {B} f x y z xs ys one two =
    two ∙ ap (λ (l : List B). l ++ flat_map f ys) one ∙ append_assoc x (flat_map f xs) (flat_map f ys) ∙ ap (λ (l : List B). x ++ l) (sym (flat_map-append f xs ys))

mapped_twice : {A B C : Type 0} (f : A → List B) (g : B → C) (x y z : List C) (xs ys : List A) → y ≡ x ++ map g (flat_map f xs) → z ≡ y ++ map g (flat_map f ys) → z ≡ x ++ map g (flat_map f (xs ++ ys))
mapped_twice {A} {B} {C} f g x y z xs ys one two =
    two ∙ ap (λ (l : List C). l ++ map g (flat_map f ys)) one ∙ append_assoc x (map g (flat_map f xs)) (map g (flat_map f ys))
    ∙ ap (λ (l : List C). x ++ l) (sym (ap (map g) (flat_map-append f xs ys) ∙ map-append g (flat_map f xs) (flat_map f ys)))

spelled_twice : (x y z : List ℕ) (xs ys : List StoreRow) → y ≡ x ++ flat_map spelling (map Entity (keys xs)) → z ≡ y ++ flat_map spelling (map Entity (keys ys)) → z ≡ x ++ flat_map spelling (map Entity (keys (xs ++ ys)))
spelled_twice x y z xs ys one two =
    two ∙ ap (λ (l : List ℕ). l ++ flat_map spelling (map Entity (keys ys))) one ∙ append_assoc x (flat_map spelling (map Entity (keys xs))) (flat_map spelling (map Entity (keys ys)))
    ∙ ap (λ (l : List ℕ). x ++ l) (sym (ap (λ ks. flat_map spelling (map Entity ks)) (flat_map-append _ xs ys) ∙ ap (flat_map spelling) (map-append Entity (keys xs) (keys ys)) ∙ flat_map-append spelling (map Entity (keys xs)) (map Entity (keys ys))))

pub taken_more : (a b c : Held) (x y z : Around) (rows more : List StoreRow) → HasTaken a b x y rows → HasTaken b c y z more → HasTaken a c x z (rows ++ more)
taken_more a b c x y z rows more one two = record {
  rows = mapped_twice kept_in single a.rows b.rows c.rows rows more one.rows two.rows;
  lawful = two.lawful ∙ one.lawful;
  places = record { saved = two.places.saved ∙ one.places.saved; kept = two.places.kept ∙ one.places.kept };
  recent = mapped_twice kept_in row_of_spelled a.placed.recent b.placed.recent c.placed.recent rows more one.recent two.recent;
  renewed = two.renewed ∙ one.renewed;
  entities = spelled_twice x.entities y.entities z.entities rows more one.entities two.entities;
  extended = twice extend_in x.extends y.extends z.extends rows more one.extended two.extended;
}

-- ---- what each row asks

-- the rows of a batch that goes on ask of the flows so far what the rows so far answer
asks_one : (K : List Flow) (R : List Row) (row : StoreRow) (rest : List StoreRow) → firsts R ≡ K → AllGoOn R (row ∷ rest) → MayCome K row
asks_one K R (Kept r) rest same go = subst (λ (F : List Flow). IsNext F r) same go.0
asks_one K R (Entity k) rest same go = tt
asks_one K R (Extend e) rest same go = tt
asks_one K R (Name k t) rest same go = tt
asks_one K R (Life p l) rest same go = tt
asks_one K R (AHeld p f h) rest same go = tt
asks_one K R (Address a b) rest same go = tt
asks_one K R (Born f b) rest same go = tt
asks_one K R (Waiting m s c l) rest same go = tt
asks_one K R (State s) rest same go = tt

grown_firsts : (K : List Flow) (R : List Row) (row : StoreRow) → firsts R ≡ K → firsts (grown R row) ≡ K ++ map flow_of (kept_in row)
grown_firsts K R (Kept r) same = firsts_of_push R (flow_of r) ∙ ap (λ (F : List Flow). F ++ flow_of r ∷ []) same
grown_firsts K R (Extend e) same = firsts_same e.row e.mark R ∙ same ∙ sym (append-nil K)
grown_firsts K R (Entity k) same = same ∙ sym (append-nil K)
grown_firsts K R (Name k t) same = same ∙ sym (append-nil K)
grown_firsts K R (Life p l) same = same ∙ sym (append-nil K)
grown_firsts K R (AHeld p f h) same = same ∙ sym (append-nil K)
grown_firsts K R (Address a b) same = same ∙ sym (append-nil K)
grown_firsts K R (Born f b) same = same ∙ sym (append-nil K)
grown_firsts K R (Waiting m s c l) same = same ∙ sym (append-nil K)
grown_firsts K R (State s) same = same ∙ sym (append-nil K)

asks_at : (K : List Flow) (R : List Row) (rows : List StoreRow) (i : ℕ) (d : StoreRow) → firsts R ≡ K → AllGoOn R rows → i < length rows → MayCome (K ++ map flow_of (kepts (take i rows))) (get_or rows i d)
asks_at K R [] i d same go h = absurd (omega (arith, h))
asks_at K R (row ∷ rest) zero d same go h = asks_one (K ++ []) R row rest (same ∙ sym (append-nil K)) go
asks_at K R (row ∷ rest) (suc i) d same go h =
    let more = asks_at (K ++ map flow_of (kept_in row)) (grown R row) rest i d (grown_firsts K R row same) go.1 (omega (arith, h)) in
    let parts : (K ++ map flow_of (kept_in row)) ++ map flow_of (kepts (take i rest)) ≡ K ++ map flow_of (kepts (row ∷ take i rest)) =
    append_assoc K (map flow_of (kept_in row)) (map flow_of (kepts (take i rest)))
    ∙ ap (λ (F : List Flow). K ++ F) (sym (ap (map flow_of) (flat_map-cons kept_in row (take i rest)) ∙ map-append flow_of (kept_in row) (kepts (take i rest)))) in
    subst (λ (F : List Flow). MayCome F (get_or rest i d)) parts more

-- the rows of Kept rows, and their first flows
singles : (ks : List SpelledRow) → firsts (map single ks) ≡ map flow_of ks
singles [] = refl
singles (k ∷ ks) = ap (λ (F : List Flow). flow_of k ∷ F) (singles ks)

pub may_come : (old now : Held) (x y : Around) (rows : List StoreRow) (i : ℕ) (d : StoreRow) → AllGoOn old.rows rows → HasTaken old now x y (take i rows) → i < length rows → MayCome (firsts now.rows) (get_or rows i d)
may_come old now x y rows i d go taken h =
    let flows : firsts now.rows ≡ firsts old.rows ++ map flow_of (kepts (take i rows)) =
    ap firsts taken.rows ∙ map-append (λ (r : Row). r.first) old.rows (map single (kepts (take i rows))) ∙ ap (λ (F : List Flow). firsts old.rows ++ F) (singles (kepts (take i rows))) in
    subst (λ (F : List Flow). MayCome F (get_or rows i d)) (sym flows) (asks_at (firsts old.rows) old.rows rows i d refl go h)

-- ---- the rows of a batch in their order

-- Entity rows come first, then Kept rows, then Extend rows, and then all others
abbrev rank : StoreRow → ℕ
rank (Entity k) = 1
rank (Kept r) = 2
rank (Extend e) = 3
rank (Name k t) = 4
rank (Life p l) = 4
rank (AHeld p f h) = 4
rank (Address a b) = 4
rank (Born f b) = 4
rank (Waiting m s c l) = 4
rank (State s) = 4

rank_most : (a : StoreRow) → rank a ≤ 4
rank_most (Entity k) = omega arith
rank_most (Kept r) = omega arith
rank_most (Extend e) = omega arith
rank_most (Name k t) = omega arith
rank_most (Life p l) = omega arith
rank_most (AHeld p f h) = omega arith
rank_most (Address a b) = omega arith
rank_most (Born f b) = omega arith
rank_most (Waiting m s c l) = omega arith
rank_most (State s) = omega arith

follows_rank : (a b : StoreRow) → MayFollow a b → rank a ≤ rank b
follows_rank (Entity k) (Entity k') may = omega (arith, may)
follows_rank (Kept r) (Entity k') may = omega (arith, may)
follows_rank (Extend e) (Entity k') may = omega (arith, may)
follows_rank (Name k t) (Entity k') may = omega (arith, may)
follows_rank (Life p l) (Entity k') may = omega (arith, may)
follows_rank (AHeld p f h) (Entity k') may = omega (arith, may)
follows_rank (Address a b) (Entity k') may = omega (arith, may)
follows_rank (Born f b) (Entity k') may = omega (arith, may)
follows_rank (Waiting m s c l) (Entity k') may = omega (arith, may)
follows_rank (State s) (Entity k') may = omega (arith, may)
follows_rank (Entity k) (Kept r') may = omega (arith, may)
follows_rank (Kept r) (Kept r') may = omega (arith, may)
follows_rank (Extend e) (Kept r') may = omega (arith, may)
follows_rank (Name k t) (Kept r') may = omega (arith, may)
follows_rank (Life p l) (Kept r') may = omega (arith, may)
follows_rank (AHeld p f h) (Kept r') may = omega (arith, may)
follows_rank (Address a b) (Kept r') may = omega (arith, may)
follows_rank (Born f b) (Kept r') may = omega (arith, may)
follows_rank (Waiting m s c l) (Kept r') may = omega (arith, may)
follows_rank (State s) (Kept r') may = omega (arith, may)
follows_rank (Entity k) (Extend e') may = omega (arith, may)
follows_rank (Kept r) (Extend e') may = omega (arith, may)
follows_rank (Extend e) (Extend e') may = omega arith
follows_rank (Name k t) (Extend e') may = omega (arith, may)
follows_rank (Life p l) (Extend e') may = omega (arith, may)
follows_rank (AHeld p f h) (Extend e') may = omega (arith, may)
follows_rank (Address a b) (Extend e') may = omega (arith, may)
follows_rank (Born f b) (Extend e') may = omega (arith, may)
follows_rank (Waiting m s c l) (Extend e') may = omega (arith, may)
follows_rank (State s) (Extend e') may = omega (arith, may)
follows_rank a (Name k' t') may = rank_most a
follows_rank a (Life p' l') may = rank_most a
follows_rank a (AHeld p' f' h') may = rank_most a
follows_rank x (Address a' b') may = rank_most x
follows_rank a (Born f' b') may = rank_most a
follows_rank a (Waiting m' s' c' l') may = rank_most a
follows_rank a (State s') may = rank_most a

-- all rows are of this rank or a later one
abbrev Up : ℕ → List StoreRow → Type 0
Up n rows = AllByRecursion (λ row. n ≤ rank row) rows

up_more : (m n : ℕ) (rows : List StoreRow) → m ≤ n → Up n rows → Up m rows
up_more m n [] le up = tt
up_more m n (row ∷ rows) le up = (omega (arith, le, up.0), up_more m n rows le up.1)

rest_ordered : (x : StoreRow) (rows : List StoreRow) → AreOrdered (x ∷ rows) → AreOrdered rows
rest_ordered x rows ordered = λ i d h.
    let e : suc i + 1 ≡ suc (i + 1) = omega arith in
    subst (λ (n : ℕ). MayFollow (get_or rows i d) (get_or (x ∷ rows) n d)) e (ordered (suc i) d (omega (arith, h)))

up_from : (x : StoreRow) (rows : List StoreRow) → AreOrdered (x ∷ rows) → Up (rank x) rows
up_from x [] ordered = tt
up_from x (y ∷ rows) ordered =
    let first : rank x ≤ rank y = follows_rank x y (ordered 0 x (omega arith)) in
    (first, up_more (rank x) (rank y) rows first (up_from y rows (rest_ordered x (y ∷ rows) ordered)))

no_entities : (rows : List StoreRow) → Up 2 rows → keys rows ≡ []
no_entities [] up = refl
no_entities (Entity k ∷ rows) up = absurd (let low = up.0 in omega (arith, low))
no_entities (Kept r ∷ rows) up = no_entities rows up.1
no_entities (Extend e ∷ rows) up = no_entities rows up.1
no_entities (Name k t ∷ rows) up = no_entities rows up.1
no_entities (Life p l ∷ rows) up = no_entities rows up.1
no_entities (AHeld p f h ∷ rows) up = no_entities rows up.1
no_entities (Address a b ∷ rows) up = no_entities rows up.1
no_entities (Born f b ∷ rows) up = no_entities rows up.1
no_entities (Waiting m s c l ∷ rows) up = no_entities rows up.1
no_entities (State s ∷ rows) up = no_entities rows up.1

no_kepts : (rows : List StoreRow) → Up 3 rows → kepts rows ≡ []
no_kepts [] up = refl
no_kepts (Entity k ∷ rows) up = absurd (let low = up.0 in omega (arith, low))
no_kepts (Kept r ∷ rows) up = absurd (let low = up.0 in omega (arith, low))
no_kepts (Extend e ∷ rows) up = no_kepts rows up.1
no_kepts (Name k t ∷ rows) up = no_kepts rows up.1
no_kepts (Life p l ∷ rows) up = no_kepts rows up.1
no_kepts (AHeld p f h ∷ rows) up = no_kepts rows up.1
no_kepts (Address a b ∷ rows) up = no_kepts rows up.1
no_kepts (Born f b ∷ rows) up = no_kepts rows up.1
no_kepts (Waiting m s c l ∷ rows) up = no_kepts rows up.1
no_kepts (State s ∷ rows) up = no_kepts rows up.1

no_extends : (rows : List StoreRow) → Up 4 rows → extends rows ≡ []
no_extends [] up = refl
no_extends (Entity k ∷ rows) up = absurd (let low = up.0 in omega (arith, low))
no_extends (Kept r ∷ rows) up = absurd (let low = up.0 in omega (arith, low))
no_extends (Extend e ∷ rows) up = absurd (let low = up.0 in omega (arith, low))
no_extends (Name k t ∷ rows) up = no_extends rows up.1
no_extends (Life p l ∷ rows) up = no_extends rows up.1
no_extends (AHeld p f h ∷ rows) up = no_extends rows up.1
no_extends (Address a b ∷ rows) up = no_extends rows up.1
no_extends (Born f b ∷ rows) up = no_extends rows up.1
no_extends (Waiting m s c l ∷ rows) up = no_extends rows up.1
no_extends (State s ∷ rows) up = no_extends rows up.1

-- the rows of a batch: Entity rows, Kept rows, Extend rows, and others
pub record AreSorted (rows : List StoreRow) : Type 0 where
  pub rest : List StoreRow
  pub are : rows ≡ map Entity (keys rows) ++ (map Kept (kepts rows) ++ (map Extend (extends rows) ++ rest))
  pub others : Up 4 rest

sorted_others : (rows : List StoreRow) → Up 4 rows → AreSorted rows
sorted_others rows up = record {
  rest = rows;
  are = sym (ap (λ ks. map Entity ks ++ (map Kept (kepts rows) ++ (map Extend (extends rows) ++ rows))) (no_entities rows (up_more 2 4 rows (omega arith) up))
      ∙ ap (λ ks. map Kept ks ++ (map Extend (extends rows) ++ rows)) (no_kepts rows (up_more 3 4 rows (omega arith) up))
      ∙ ap (λ es. map Extend es ++ rows) (no_extends rows up));
  others = up;
}

pub sorted : (rows : List StoreRow) → AreOrdered rows → AreSorted rows
sorted [] ordered = record { rest = []; are = refl; others = tt }
sorted (Entity k ∷ rows) ordered =
    let p = sorted rows (rest_ordered (Entity k) rows ordered) in
    record { rest = p.rest; are = ap (λ (xs : List StoreRow). Entity k ∷ xs) p.are; others = p.others }
sorted (Kept r ∷ rows) ordered =
    let p = sorted rows (rest_ordered (Kept r) rows ordered) in
    let none = no_entities rows (up_from (Kept r) rows ordered) in
    let later = map Kept (kepts rows) ++ (map Extend (extends rows) ++ p.rest) in
    record {
      rest = p.rest;
      are = ap (λ (xs : List StoreRow). Kept r ∷ xs) (p.are ∙ ap (λ ks. map Entity ks ++ later) none) ∙ sym (ap (λ ks. map Entity ks ++ (Kept r ∷ later)) none);
      others = p.others;
    }
sorted (Extend e ∷ rows) ordered =
    let p = sorted rows (rest_ordered (Extend e) rows ordered) in
    let up = up_from (Extend e) rows ordered in
    let none = no_entities rows (up_more 2 3 rows (omega arith) up) in
    let nothing = no_kepts rows up in
    let later = map Extend (extends rows) ++ p.rest in
    record {
      rest = p.rest;
      are = ap (λ (xs : List StoreRow). Extend e ∷ xs) (p.are ∙ ap (λ ks. map Entity ks ++ (map Kept (kepts rows) ++ later)) none ∙ ap (λ ks. map Kept ks ++ later) nothing)
          ∙ sym (ap (λ ks. map Entity ks ++ (map Kept (kepts rows) ++ (Extend e ∷ later))) none ∙ ap (λ ks. map Kept ks ++ (Extend e ∷ later)) nothing);
      others = p.others;
    }
sorted (Name k t ∷ rows) ordered = sorted_others (Name k t ∷ rows) (omega arith, up_from (Name k t) rows ordered)
sorted (Life p l ∷ rows) ordered = sorted_others (Life p l ∷ rows) (omega arith, up_from (Life p l) rows ordered)
sorted (AHeld p f h ∷ rows) ordered = sorted_others (AHeld p f h ∷ rows) (omega arith, up_from (AHeld p f h) rows ordered)
sorted (Address a b ∷ rows) ordered = sorted_others (Address a b ∷ rows) (omega arith, up_from (Address a b) rows ordered)
sorted (Born f b ∷ rows) ordered = sorted_others (Born f b ∷ rows) (omega arith, up_from (Born f b) rows ordered)
sorted (Waiting m s c l ∷ rows) ordered = sorted_others (Waiting m s c l ∷ rows) (omega arith, up_from (Waiting m s c l) rows ordered)
sorted (State s ∷ rows) ordered = sorted_others (State s ∷ rows) (omega arith, up_from (State s) rows ordered)

-- ---- the rows that a batch leaves

grown_entities : (R : List Row) (ks : List Key) (rest : List StoreRow) → fold grown R (map Entity ks ++ rest) ≡ fold grown R rest
grown_entities R [] rest = refl
grown_entities R (k ∷ ks) rest = grown_entities R ks rest

grown_kepts : (R : List Row) (ks : List SpelledRow) (rest : List StoreRow) → fold grown R (map Kept ks ++ rest) ≡ fold grown (R ++ map single ks) rest
grown_kepts R [] rest = ap (λ (S : List Row). fold grown S rest) (sym (append-nil R))
grown_kepts R (k ∷ ks) rest = grown_kepts (R ++ single k ∷ []) ks rest ∙ ap (λ (S : List Row). fold grown S rest) (append_assoc R (single k ∷ []) (map single ks))

grown_extends : (rows : List KeptRow) (es : List ExtendRow) (rest : List StoreRow) → fold grown (map row_of_kept rows) (map Extend es ++ rest) ≡ fold grown (map row_of_kept (with_extends rows es)) rest
grown_extends rows [] rest = refl
grown_extends rows (e ∷ es) rest =
    ap (λ (S : List Row). fold grown S (map Extend es ++ rest)) (sym (changed_rows e.row e.mark rows)) ∙ grown_extends (with_mark e.row e.mark rows) es rest

grown_others : (R : List Row) (rows : List StoreRow) → Up 4 rows → fold grown R rows ≡ R
grown_others R [] up = refl
grown_others R (Entity k ∷ rows) up = absurd (let low = up.0 in omega (arith, low))
grown_others R (Kept r ∷ rows) up = absurd (let low = up.0 in omega (arith, low))
grown_others R (Extend e ∷ rows) up = absurd (let low = up.0 in omega (arith, low))
grown_others R (Name k t ∷ rows) up = grown_others R rows up.1
grown_others R (Life p l ∷ rows) up = grown_others R rows up.1
grown_others R (AHeld p f h ∷ rows) up = grown_others R rows up.1
grown_others R (Address a b ∷ rows) up = grown_others R rows up.1
grown_others R (Born f b ∷ rows) up = grown_others R rows up.1
grown_others R (Waiting m s c l ∷ rows) up = grown_others R rows up.1
grown_others R (State s ∷ rows) up = grown_others R rows up.1

pub batch_grown : (R : List Row) (all : List KeptRow) (rows : List StoreRow) → AreOrdered rows → map row_of_kept all ≡ R ++ map single (kepts rows)
    → map row_of_kept (with_extends all (extends rows)) ≡ fold grown R rows
batch_grown R all rows ordered are =
    let p = sorted rows ordered in
    sym (ap (fold grown R) p.are
    ∙ grown_entities R (keys rows) (map Kept (kepts rows) ++ (map Extend (extends rows) ++ p.rest))
    ∙ grown_kepts R (kepts rows) (map Extend (extends rows) ++ p.rest)
    ∙ ap (λ (S : List Row). fold grown S (map Extend (extends rows) ++ p.rest)) (sym are)
    ∙ grown_extends all (extends rows) p.rest
    ∙ grown_others (map row_of_kept (with_extends all (extends rows))) p.rest p.others)

-- each Extend row is of a row that is there
grown_no_less : (R : List Row) (row : StoreRow) → length R ≤ length (grown R row)
grown_no_less R (Kept r) = omega (arith, length-append R (single r ∷ []))
grown_no_less R (Extend e) = omega (arith, changed_length e.row e.mark R)
grown_no_less R (Entity k) = omega arith
grown_no_less R (Name k t) = omega arith
grown_no_less R (Life p l) = omega arith
grown_no_less R (AHeld p f h) = omega arith
grown_no_less R (Address a b) = omega arith
grown_no_less R (Born f b) = omega arith
grown_no_less R (Waiting m s c l) = omega arith
grown_no_less R (State s) = omega arith

grown_all : (R : List Row) (rows : List StoreRow) → length R ≤ length (fold grown R rows)
grown_all R [] = omega arith
grown_all R (row ∷ rows) = omega (arith, grown_no_less R row, grown_all (grown R row) rows)

extends_there : (n : ℕ) (R : List Row) (rows : List StoreRow) → AllGoOn R rows → length (fold grown R rows) ≤ n → All (λ (e : ExtendRow). e.row < n) (extends rows)
extends_there n R [] go le = λ j d h. absurd (omega (arith, h))
extends_there n R (Extend e ∷ rows) go le =
    let more : length (grown R (Extend e)) ≤ length (fold grown (grown R (Extend e)) rows) = grown_all (grown R (Extend e)) rows in
    All-append (λ (e : ExtendRow). e.row < n) (e ∷ []) (extends rows)
    (All-push (λ (e : ExtendRow). e.row < n) [] e (λ j d h. absurd (omega (arith, h))) (let there = go.0 in omega (arith, there, more, le, changed_length e.row e.mark R)))
    (extends_there n (grown R (Extend e)) rows go.1 le)
extends_there n R (Entity k ∷ rows) go le = extends_there n (grown R (Entity k)) rows go.1 le
extends_there n R (Kept r ∷ rows) go le = extends_there n (grown R (Kept r)) rows go.1 le
extends_there n R (Name k t ∷ rows) go le = extends_there n (grown R (Name k t)) rows go.1 le
extends_there n R (Life p l ∷ rows) go le = extends_there n (grown R (Life p l)) rows go.1 le
extends_there n R (AHeld p f h ∷ rows) go le = extends_there n (grown R (AHeld p f h)) rows go.1 le
extends_there n R (Address a b ∷ rows) go le = extends_there n (grown R (Address a b)) rows go.1 le
extends_there n R (Born f b ∷ rows) go le = extends_there n (grown R (Born f b)) rows go.1 le
extends_there n R (Waiting m s c l ∷ rows) go le = extends_there n (grown R (Waiting m s c l)) rows go.1 le
extends_there n R (State s ∷ rows) go le = extends_there n (grown R (State s)) rows go.1 le

pub each_there : (R : List Row) (all : List KeptRow) (rows : List StoreRow) → AllGoOn R rows → AreOrdered rows → map row_of_kept all ≡ R ++ map single (kepts rows)
    → All (λ (e : ExtendRow). e.row < length (R ++ map single (kepts rows))) (extends rows)
each_there R all rows go ordered are =
    extends_there (length (R ++ map single (kepts rows))) R rows go
    (omega (arith, ap length (batch_grown R all rows ordered are), length-map (with_extends all (extends rows)) row_of_kept, extends_long all (extends rows), ap length are, length-map all row_of_kept))

-- ---- where the rows of a batch stand

spelled_kepts : (ks : List SpelledRow) → length (flat_map spelling (map Kept ks)) ≡ 46 * length ks
spelled_kepts [] = refl
spelled_kepts (k ∷ ks) = omega (arith, length-append (spelling (Kept k)) (flat_map spelling (map Kept ks)), kept_long k, spelled_kepts ks)

pub spelled_extends : (es : List ExtendRow) → length (flat_map spelling (map Extend es)) ≡ 30 * length es
spelled_extends [] = refl
spelled_extends (e ∷ es) = omega (arith, length-append (spelling (Extend e)) (flat_map spelling (map Extend es)), extend_long e, spelled_extends es)

-- the Kept and the Extend rows of a batch fit into it, after its Entity rows
pub batch_long : (rows : List StoreRow) → AreOrdered rows → length (flat_map spelling (map Entity (keys rows))) + 46 * length (kepts rows) + 30 * length (extends rows) ≤ length (flat_map spelling rows)
batch_long rows ordered =
    let p = sorted rows ordered in
    let E = map Entity (keys rows) in
    let K = map Kept (kepts rows) in
    let X = map Extend (extends rows) in
    let all : length (flat_map spelling rows) ≡ length (flat_map spelling (E ++ (K ++ (X ++ p.rest)))) = ap (λ (r : List StoreRow). length (flat_map spelling r)) p.are in
    let one : length (flat_map spelling (E ++ (K ++ (X ++ p.rest)))) ≡ length (flat_map spelling E) + length (flat_map spelling (K ++ (X ++ p.rest))) = ap length (flat_map-append spelling E (K ++ (X ++ p.rest))) ∙ length-append (flat_map spelling E) (flat_map spelling (K ++ (X ++ p.rest))) in
    let two : length (flat_map spelling (K ++ (X ++ p.rest))) ≡ length (flat_map spelling K) + length (flat_map spelling (X ++ p.rest)) = ap length (flat_map-append spelling K (X ++ p.rest)) ∙ length-append (flat_map spelling K) (flat_map spelling (X ++ p.rest)) in
    let three : length (flat_map spelling (X ++ p.rest)) ≡ length (flat_map spelling X) + length (flat_map spelling p.rest) = ap length (flat_map-append spelling X p.rest) ∙ length-append (flat_map spelling X) (flat_map spelling p.rest) in
    omega (arith, all, one, two, three, spelled_kepts (kepts rows), spelled_extends (extends rows))

kept_again : (ks : List SpelledRow) → map as_kept (map row_of_spelled ks) ≡ map Kept ks
kept_again [] = refl
kept_again (k ∷ ks) = ap (λ (xs : List StoreRow). Kept k ∷ xs) (kept_again ks)

-- they stand in the bytes that have the batch
pub batch_stands : (bytes : List ℕ) (batch : Batch) (rows : List StoreRow) (recent : List KeptRow) (es : List ExtendRow) (place : ℕ) → AreOrdered rows → AreInBatch bytes batch rows → 6 + length (flat_map spelling rows) ≡ batch.length
    → recent ≡ map row_of_spelled (kepts rows) → es ≡ extends rows → place ≡ batch.gate + 15 + length (flat_map spelling (map Entity (keys rows)))
    → StandFrom bytes (batch.gate + 9 + batch.length) place (batch_rows recent es)
batch_stands bytes batch rows recent es place ordered there long recent_is es_is at = λ later firm.
    let p = sorted rows ordered in
    let E = map Entity (keys rows) in
    let K = map Kept (kepts rows) in
    let X = map Extend (extends rows) in
    let start = batch.gate + 15 in
    let whole : AreSpelledFrom bytes later start rows = spelled_from bytes later start rows there.fit there.is (omega (arith, long, firm)) in
    let cut : AreSpelledFrom bytes later start (E ++ ((K ++ X) ++ p.rest)) = subst (AreSpelledFrom bytes later start) (p.are ∙ ap (λ (xs : List StoreRow). E ++ xs) (sym (append_assoc K X p.rest))) whole in
    let after = spelled_split bytes later start E ((K ++ X) ++ p.rest) cut in
    let here = spelled_split bytes later (start + length (flat_map spelling E)) (K ++ X) p.rest after.1 in
    let rows_are : K ++ X ≡ batch_rows recent es = sym (ap (λ (rs : List KeptRow). map as_kept rs ++ map Extend es) recent_is ∙ ap (λ (ks : List StoreRow). ks ++ map Extend es) (kept_again (kepts rows)) ∙ ap (λ (xs : List ExtendRow). K ++ map Extend xs) es_is) in
    subst (λ (n : ℕ). AreSpelledFrom bytes later n (batch_rows recent es)) (sym at) (subst (AreSpelledFrom bytes later (start + length (flat_map spelling E))) rows_are here.0)

-- the rows so far and those of the Kept rows of a batch
pub all_of_batch : (R : List Row) (kept : List KeptRow) (ks : List SpelledRow) → R ≡ map row_of_kept kept → map row_of_kept (kept ++ map row_of_spelled ks) ≡ R ++ map single ks
all_of_batch R kept ks is = map-append row_of_kept kept (map row_of_spelled ks) ∙ ap (λ (S : List Row). S ++ map row_of_kept (map row_of_spelled ks)) (sym is) ∙ ap (λ (S : List Row). R ++ S) (again ks)
  where
    again : (ks : List SpelledRow) → map row_of_kept (map row_of_spelled ks) ≡ map single ks
    again [] = refl
    again (k ∷ ks) = ap (λ (S : List Row). single k ∷ S) (again ks)
