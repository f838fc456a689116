-- What the conditions on a store give of its kept rows.
use Rattle.std.proofs.Common.{◌≡◌, ◌≢◌, ℕ, zero, suc, ◌+◌, ◌^◌, ◌<◌, ◌≤◌, max, List, [], ◌∷◌, ◌++◌, ◌==◌, length, get_or, set, Option, None, map, take, drop, drop-cons, Some, refl, sym, ap, subst, ◌∙◌, arith, inl, inr, append_assoc}
use Rattle.std.specs.Prelude.{slice_get, nat_eq, Bool, true, false, not, ◌||◌}
use Rattle.std.specs.List.{Contains, AllByRecursion, IsDistinct, list_any}
use Rattle.std.proofs.lemmas.List.{get_or_append_left, get_or_push, length-append, length-set, length-map, get_or-set_same, get_or-set_other, map-append, map-set, append-nil, take-append-drop}
use Rattle.std.proofs.lemmas.Map.Keys.{apart_from_distinct, IsDistinct-from_apart, IsDistinct-head, IsDistinct-tail}
use Rattle.std.proofs.lemmas.Bool.Decides.{nat_tests}
use Rattle.std.proofs.lemmas.List.Elements.{All-nil, All-push, All-contains, Contains-get_or, recursion_from_All, All-from_recursion}
use Rattle.std.proofs.lemmas.Bool.{cases_eq, cases_lt, eq-eqb, ne_eqb}
use Rattle.flow_base.specs.declared.types.Flow.{Flow}
use Rattle.flow_base.specs.declared.types.Key.{Key}
use Rattle.reach_model.specs.declared.modes.Mode.{Mode}
use Rattle.reach_model.specs.declared.modes.Verdict.TheVariants.{Drop, Add, Extend as Extends}
use Rattle.reach_model.specs.Flows.{source, target, time, place, IsLawful}
use Rattle.reach_model.specs.Numbers.{known, IsNumbered}
use Rattle.reach_model.specs.Rows.{Row, Keeps, none, more, firsts, lasts, row_of}
use Rattle.reach_model.proofs.Lawful.{lawful_front}
use Rattle.reach_model.proofs.Members.{from_map}
use Rattle.reach_model.proofs.Numbering.{numbered_push}
use Rattle.reach_model.proofs.RowFacts.{carries}
use Rattle.flow_base.specs.declared.types.Stamp.{Stamp}
use Rattle.reach_rows.specs.Kept.{AreRows, Enters, IsLastAt, IsLastOf, Leaves}
use Rattle.row_codec.specs.declared.rows.KeptRow.{KeptRow}
use Rattle.reach_rows.proofs.NextFlow.{comes_after}
use Rattle.row_codec.specs.declared.rows.ExtendRow.{ExtendRow}
use Rattle.row_codec.specs.declared.rows.StoreRow.{StoreRow}
use Rattle.row_codec.specs.declared.rows.StoreRow.TheVariants.{Entity, Kept, Extend, Name, Life, Held, Address, Born, Waiting, State}
use Rattle.store_check.specs.Conditions.{Bounds, IsLater, MayStand, EachAfter}
use Rattle.store_check.specs.Store.{keys, flow_of, extended, changed_at, last_index, one_later, rows_of}
use Rattle.store_check.proofs.Growing.{keys_push, rows_push, firsts_same}
use Rattle.reduced_store.specs.Filling.{GoesOnWith, AllGoOn, IsRun, AreInOrder, AreApart, AreSound, IsNext, place_of, row_of_spelled}

-- ---- lists in which B holds between each two

each_push : {A : Type 0} (K : List A) (x : A) (B : A → A → Type 0) → ((g : A) → Contains K g → B g x) → ((i j : ℕ) (d : A) → i < j → j < length K → B (get_or K i d) (get_or K j d))
    → (i j : ℕ) (d : A) → i < j → j < length (K ++ x ∷ []) → B (get_or (K ++ x ∷ []) i d) (get_or (K ++ x ∷ []) j d)
each_push K x B new old i j d low h = elim (cases_lt j (length K)) [
  | inl before ↦ let hi : i < length K = omega arith in
      rw (get_or_append_left K (x ∷ []) d i hi, get_or_append_left K (x ∷ []) d j before) (old i j d low before)
  | inr last ↦ let end : length K ≡ j = omega (arith, length-append K (x ∷ [])) in let hi : i < length K = omega arith in
      rw (get_or_append_left K (x ∷ []) d i hi, get_or_push K x d j end) (new (get_or K i d) (Contains-get_or K i d hi))
]

-- ---- one more Kept row

firsts_more : (R : List Row) (f : Flow) → firsts (R ++ row_of f ∷ []) ≡ firsts R ++ f ∷ []
firsts_more R f = map-append (λ (x : Row). x.first) R (row_of f ∷ [])

lasts_more : (R : List Row) (f : Flow) → lasts (R ++ row_of f ∷ []) ≡ lasts R ++ f ∷ []
lasts_more R f = map-append (λ (x : Row). x.last) R (row_of f ∷ [])

order_push : (R : List Row) (f : Flow) → AreInOrder R → ((g : Flow) → Contains (firsts R) g → IsLater g.at f.at) → source f ≢ target f → source f ≤ known (firsts R) → target f ≤ max (known (firsts R)) (suc (source f))
    → AreInOrder (R ++ row_of f ∷ [])
order_push R f a later differ from to = record {
  each = All-push IsRun R (row_of f) a.each (record { pair = (refl, refl); differ = differ; ordered = omega arith });
  ascend = subst (λ K. (i j : ℕ) (d : Flow) → i < j → j < length K → place (get_or K i d) < place (get_or K j d)) (sym (firsts_more R f))
      (each_push (firsts R) f (λ g h. place g < place h) (λ g c. (later g c).place) a.ascend);
  times = subst (λ K. (i j : ℕ) (d : Flow) → i ≤ j → j < length K → time (get_or K i d) ≤ time (get_or K j d)) (sym (firsts_more R f))
      (λ i j d low h. elim (cases_eq i j) [
        | inl e ↦ subst (λ k. time (get_or (firsts R ++ f ∷ []) i d) ≤ time (get_or (firsts R ++ f ∷ []) k d)) e (omega arith)
        | inr other ↦ each_push (firsts R) f (λ g h. time g ≤ time h) (λ g c. (later g c).time) (λ i j d low h. a.times i j d (omega arith) h) i j d (omega arith) h
      ]);
  numbered = subst IsNumbered (sym (firsts_more R f)) (numbered_push (firsts R) f a.numbered from to);
}

-- ---- one more Extend row

pub all_changed : (P : Row → Type 0) (i : ℕ) (to : Row → Row) (R : List Row) → ((q : Row) → slice_get R i ≡ Some q → P q → P (to q)) → AllByRecursion P R → AllByRecursion P (changed_at i to R)
all_changed P i to [] here all = tt
all_changed P zero to (r ∷ R) here all = (here r refl all.0, all.1)
all_changed P (suc i) to (r ∷ R) here all = (all.0, all_changed P i to R here all.1)

order_change : (R : List Row) (e : ExtendRow) → AreInOrder R → ((r : Row) → slice_get R e.row ≡ Some r → IsLater r.last.at e.mark.at) → AreInOrder (changed_at e.row (extended e.mark) R)
order_change R e a later =
    let same = firsts_same e.row e.mark R in
    record {
      each = All-from_recursion IsRun (changed_at e.row (extended e.mark) R) (all_changed IsRun e.row (extended e.mark) R
          (λ q is run. let l = later q is in record { pair = run.pair; differ = run.differ; ordered = omega (arith, run.ordered, l.place) })
          (recursion_from_All IsRun R a.each));
      ascend = subst (λ K. (i j : ℕ) (d : Flow) → i < j → j < length K → place (get_or K i d) < place (get_or K j d)) (sym same) a.ascend;
      times = subst (λ K. (i j : ℕ) (d : Flow) → i ≤ j → j < length K → time (get_or K i d) ≤ time (get_or K j d)) (sym same) a.times;
      numbered = subst IsNumbered (sym same) a.numbered;
    }

-- ---- rows of a store, in order and with objects that can be counted

pub none_sound : (entities : ℕ) → AreSound entities []
none_sound entities = record {
  order = record { each = All-nil IsRun; ascend = λ i j d low h. absurd (omega arith); times = λ i j d low h. absurd (omega arith); numbered = record { sources = λ k d h. absurd (omega arith); targets = λ k d h. absurd (omega arith) } };
  few = omega arith;
}

still_sound : (entities : ℕ) (before : List StoreRow) (row : StoreRow) → AreSound entities before → rows_of (before ++ row ∷ []) ≡ rows_of before → keys (before ++ row ∷ []) ≡ keys before → AreSound entities (before ++ row ∷ [])
still_sound entities before row s rows names = record {
  order = subst AreInOrder (sym rows) s.order;
  few = subst (λ (ks : List Key). length ks ≤ entities) (sym names) s.few;
}

no_key : (before : List StoreRow) → keys before ++ [] ≡ keys before
no_key before = append-nil (keys before)

sound_next : (bounds : Bounds) (mode : Mode) (before : List StoreRow) (row : StoreRow) → MayStand bounds mode before row → AreSound bounds.entities before → AreSound bounds.entities (before ++ row ∷ [])
sound_next bounds mode before (Entity k) may s = record {
  order = subst AreInOrder (sym (rows_push before (Entity k))) s.order;
  few = subst (λ (ks : List Key). length ks ≤ bounds.entities) (sym (keys_push before (Entity k))) (let room = may.room in simp length-append (omega arith));
}
sound_next bounds mode before (Kept r) may s = record {
  order = subst AreInOrder (sym (rows_push before (Kept r))) (order_push (rows_of before) (flow_of r) s.order may.later may.ends.differ may.ends.from_numbered may.ends.to_numbered);
  few = subst (λ (ks : List Key). length ks ≤ bounds.entities) (sym (keys_push before (Kept r) ∙ no_key before)) s.few;
}
sound_next bounds mode before (Extend e) may s = record {
  order = subst AreInOrder (sym (rows_push before (Extend e))) (order_change (rows_of before) e s.order may.later);
  few = subst (λ (ks : List Key). length ks ≤ bounds.entities) (sym (keys_push before (Extend e) ∙ no_key before)) s.few;
}
sound_next bounds mode before (Name k t) may s = still_sound bounds.entities before (Name k t) s (rows_push before (Name k t)) (keys_push before (Name k t) ∙ no_key before)
sound_next bounds mode before (Life p l) may s = still_sound bounds.entities before (Life p l) s (rows_push before (Life p l)) (keys_push before (Life p l) ∙ no_key before)
sound_next bounds mode before (Held p f h) may s = still_sound bounds.entities before (Held p f h) s (rows_push before (Held p f h)) (keys_push before (Held p f h) ∙ no_key before)
sound_next bounds mode before (Address a b) may s = still_sound bounds.entities before (Address a b) s (rows_push before (Address a b)) (keys_push before (Address a b) ∙ no_key before)
sound_next bounds mode before (Born f b) may s = still_sound bounds.entities before (Born f b) s (rows_push before (Born f b)) (keys_push before (Born f b) ∙ no_key before)
sound_next bounds mode before (Waiting m t c l) may s = still_sound bounds.entities before (Waiting m t c l) s (rows_push before (Waiting m t c l)) (keys_push before (Waiting m t c l) ∙ no_key before)
sound_next bounds mode before (State t) may s = still_sound bounds.entities before (State t) s (rows_push before (State t)) (keys_push before (State t) ∙ no_key before)

-- the last flow that passes a test
from_eqb : (a b : ℕ) → (a == b) ≡ true → a ≡ b
from_eqb a b e = grind (arith, nat_tests, e)

from_not : (a b : ℕ) → (a == b) ≡ false → a ≢ b
from_not a b e same = absurd (let t = sym e ∙ eq-eqb a b same in cc)

module _ (p : Flow → Bool) (P : Flow → Type 0) (yes : (g : Flow) → p g ≡ true → P g) (no : (g : Flow) → p g ≡ false → ¬ P g) where
  last_next : (f : Flow) (F : List Flow) (o : Option ℕ) (b : Bool) → p f ≡ b → IsLastOf F P o → IsLastOf (f ∷ F) P (one_later o b)
  last_next f F (Some i) b is last =
      let at : suc i ≡ i + 1 = omega arith in
      subst (IsLastAt (f ∷ F) P) at (record { within = omega (arith, last.within); meets = λ d. last.meets d; no_later = after })
    where
      after : (j : ℕ) (d : Flow) → suc i < j → j < length (f ∷ F) → ¬ P (get_or (f ∷ F) j d)
      after zero d low h = absurd (omega (arith, low))
      after (suc j) d low h = last.no_later j d (omega (arith, low)) (omega (arith, h))
  last_next f F None true is last = record { within = omega arith; meets = λ d. yes f is; no_later = after }
    where
      after : (j : ℕ) (d : Flow) → 0 < j → j < length (f ∷ F) → ¬ P (get_or (f ∷ F) j d)
      after zero d low h = absurd (omega (arith, low))
      after (suc j) d low h = last (get_or F j d) (Contains-get_or F j d (omega (arith, h)))
  last_next f F None false is last = λ g c. at c.0 g c.1 c.2
    where
      at : (j : ℕ) (g : Flow) → j < length (f ∷ F) → get_or (f ∷ F) j g ≡ g → ¬ P g
      at zero g h e = subst (λ (x : Flow). ¬ P x) e (no f is)
      at (suc j) g h e = last g (j, omega (arith, h), e)

  last_is : (F : List Flow) → IsLastOf F P (last_index p F)
  last_is [] = λ g c. absurd (let h = c.1 in omega (arith, h))
  last_is (f ∷ F) = last_next f F (last_index p F) (p f) refl (last_is F)

goes_with : (bounds : Bounds) (mode : Mode) (before : List StoreRow) (row : StoreRow) → MayStand bounds mode before row → AreSound bounds.entities before → bounds.entities < 2 ^ 32 → GoesOnWith (rows_of before) row
goes_with bounds mode before (Kept r) may s few = record {
  numbered = record {
    ends_differ = may.ends.differ;
    source_known_or_next = may.ends.from_numbered;
    target_known_or_next = may.ends.to_numbered;
    few = omega (arith, may.ends.from, may.ends.to, s.few, few);
  };
  links = record {
    before_to = subst (IsLastOf (firsts (rows_of before)) (Enters r.to.0)) (sym may.before_to) (last_is (λ f. target f == r.to.0) (Enters r.to.0) (λ g e. from_eqb (target g) r.to.0 e) (λ g e. from_not (target g) r.to.0 e) (firsts (rows_of before)));
    before_from = subst (IsLastOf (firsts (rows_of before)) (Leaves r.from.0)) (sym may.before_from) (last_is (λ f. source f == r.from.0) (Leaves r.from.0) (λ g e. from_eqb (source g) r.from.0 e) (λ g e. from_not (source g) r.from.0 e) (firsts (rows_of before)));
  };
}
goes_with bounds mode before (Extend e) may s few = may.there
goes_with bounds mode before (Entity k) may s few = tt
goes_with bounds mode before (Name k t) may s few = tt
goes_with bounds mode before (Life p l) may s few = tt
goes_with bounds mode before (Held p f h) may s few = tt
goes_with bounds mode before (Address a b) may s few = tt
goes_with bounds mode before (Born f b) may s few = tt
goes_with bounds mode before (Waiting m t c l) may s few = tt
goes_with bounds mode before (State t) may s few = tt

-- the rows of a batch may be filled in, and the rows after it are sound
pub batch_goes_on : (bounds : Bounds) (mode : Mode) (before rows : List StoreRow) → EachAfter (MayStand bounds mode) before rows → AreSound bounds.entities before → bounds.entities < 2 ^ 32
    → AllGoOn (rows_of before) rows × AreSound bounds.entities (before ++ rows)
batch_goes_on bounds mode before [] each s few = (tt, subst (AreSound bounds.entities) (sym (append-nil before)) s)
batch_goes_on bounds mode before (row ∷ rest) each s few =
    let next = batch_goes_on bounds mode (before ++ row ∷ []) rest each.1 (sound_next bounds mode before row each.0 s) few in (
      (goes_with bounds mode before row each.0 s few, subst (λ (R : List Row). AllGoOn R rest) (rows_push before row) next.0),
      subst (AreSound bounds.entities) (append_assoc before (row ∷ []) rest) next.1,
    )

-- ---- last places

pub in_order_and_apart : (R : List Row) → AreInOrder R → AreApart R → AreRows R
in_order_and_apart R a apart = record {
  pairs = λ r c. (All-contains IsRun R r a.each c).pair;
  ends_differ = λ r c. (All-contains IsRun R r a.each c).differ;
  ordered = λ r c. (All-contains IsRun R r a.each c).ordered;
  ascend = a.ascend;
  times = a.times;
  numbered = a.numbered;
  lasts_apart = apart;
}

apart_set : (K : List Flow) (i : ℕ) (f : Flow) → i < length K → ((g : Flow) → Contains K g → place g < place f) → ((j k : ℕ) (d : Flow) → j < k → k < length K → place (get_or K j d) ≢ place (get_or K k d))
    → (j k : ℕ) (d : Flow) → j < k → k < length (set K i f) → place (get_or (set K i f) j d) ≢ place (get_or (set K i f) k d)
apart_set K i f hi before old j k d low h =
    let hk : k < length K = simp length-set at h in
    elim (cases_eq j i) [
      | inl e ↦ let differ : k ≢ i = omega arith in
          let same : get_or (set K i f) j d ≡ f = subst (λ x. get_or (set K i f) x d ≡ f) (sym e) (get_or-set_same K i f d hi) in
          rw (same, get_or-set_other K i k f d differ) (λ q. let b = before (get_or K k d) (Contains-get_or K k d hk) in omega (arith, b, q))
      | inr n ↦ elim (cases_eq k i) [
        | inl e ↦ let hj : j < length K = omega arith in
            let same : get_or (set K i f) k d ≡ f = subst (λ x. get_or (set K i f) x d ≡ f) (sym e) (get_or-set_same K i f d hi) in
            rw (get_or-set_other K i j f d n, same) (λ q. let b = before (get_or K j d) (Contains-get_or K j d hj) in omega (arith, b, q))
        | inr m ↦ rw (get_or-set_other K i j f d n, get_or-set_other K i k f d m) (old j k d low hk)
      ]
    ]

last_before : {mode : Mode} (F : List Flow) (R : List Row) (f : Flow) → IsLawful (F ++ f ∷ []) → Keeps mode F R → (g : Flow) → Contains (lasts R) g → place g < place f
last_before F R f l k g c = let m = from_map (λ (x : Row). x.last) R g c in subst (λ x. place x < place f) m.2 ((comes_after F R f l k).lasts m.0 m.1)

-- the rows that a mode keeps of lawful flows have last places of their own
pub kept_apart : {mode : Mode} {F : List Flow} {R : List Row} → IsLawful F → Keeps mode F R → AreApart R
kept_apart l none = λ i j d low h. absurd (omega arith)
kept_apart l (more {F} {R} f Drop k v) = kept_apart (lawful_front F f l) k
kept_apart l (more {F} {R} f Add k v) =
    subst (λ K. (i j : ℕ) (d : Flow) → i < j → j < length K → place (get_or K i d) ≢ place (get_or K j d)) (sym (lasts_more R f))
    (each_push (lasts R) f (λ g h. place g ≢ place h) (λ g c e. let b = last_before F R f l k g c in absurd (omega arith)) (kept_apart (lawful_front F f l) k))
kept_apart {mode} l (more {F} {R} f (Extends i) k v) =
    subst (λ K. (i j : ℕ) (d : Flow) → i < j → j < length K → place (get_or K i d) ≢ place (get_or K j d)) (sym (map-set (λ (x : Row). x.last) R i (record (get_or R i (row_of f)) { last = f })))
    (apart_set (lasts R) i f (simp length-map (carries mode F R f i v).0) (λ g c. last_before F R f l k g c) (kept_apart (lawful_front F f l) k))

-- ---- last places as numbers

-- the stamps of last flows
abbrev stamps : List Row → List Stamp
stamps R = map (λ (r : Row). r.last.at) R

place_at : (R : List Row) (i : ℕ) (d : Flow) (n : ℕ) → i < length R → place (get_or (lasts R) i d) ≡ get_or (map place_of (stamps R)) i n
place_at [] i d n h = absurd (omega arith)
place_at (r ∷ R) zero d n h = refl
place_at (r ∷ R) (suc i) d n h = place_at R i d n (omega arith)

not_same : (a b : ℕ) → nat_eq a b ≡ false → a ≢ b
not_same a b f e = grind (arith, nat_tests, f, e)

no_test : (a b : ℕ) → a ≢ b → nat_eq a b ≡ false
no_test a b differ = ne_eqb a b differ

pub apart_rows : (R : List Row) → IsDistinct nat_eq (map place_of (stamps R)) → AreApart R
apart_rows R distinct i j d low h =
    let hj : j < length R = simp length-map at h in
    let hi : i < length R = omega arith in
    let test = apart_from_distinct nat_eq (map place_of (stamps R)) i j 0 distinct low (simp (length-map, length-map) hj) in
    rw (place_at R i d 0 hi, place_at R j d 0 hj) (not_same _ _ test)

pub distinct_rows : (R : List Row) → AreApart R → IsDistinct nat_eq (map place_of (stamps R))
distinct_rows [] apart = IsDistinct-from_apart nat_eq [] (λ i j d low h. absurd (omega arith))
distinct_rows (r ∷ rest) apart =
    let R = r ∷ rest in
    let any : Flow = r.last in
    IsDistinct-from_apart nat_eq (map place_of (stamps R)) (λ i j d low h.
    let hj : j < length R = simp (length-map, length-map) at h in
    let hi : i < length R = omega arith in
    no_test _ _ (λ e. apart i j any low (simp length-map hj) (place_at R i any d hi ∙ e ∙ sym (place_at R j any d hj))))

at_middle : (P : ℕ → Type 0) (xs : List ℕ) (y : ℕ) (ys : List ℕ) → AllByRecursion P (xs ++ y ∷ ys) → P y
at_middle P [] y ys all = all.0
at_middle P (x ∷ xs) y ys all = at_middle P xs y ys all.1

back_test : (x y : ℕ) → nat_eq x y ≡ false → nat_eq y x ≡ false
back_test x y f = no_test y x (λ e. not_same x y f (sym e))

distinct_before : (xs : List ℕ) (y : ℕ) (ys : List ℕ) → IsDistinct nat_eq (xs ++ y ∷ ys) → list_any (nat_eq y) xs ≡ false
distinct_before [] y ys d = refl
distinct_before (x ∷ xs) y ys d =
    let here : nat_eq y x ≡ false = back_test x y (at_middle (λ z. nat_eq x z ≡ false) xs y ys (IsDistinct-head nat_eq x (xs ++ y ∷ ys) d)) in
    ap (λ (b : Bool). b || list_any (nat_eq y) xs) here ∙ distinct_before xs y ys (IsDistinct-tail nat_eq x (xs ++ y ∷ ys) d)

-- a place that stands before it makes them not distinct
twice : (rows : List Stamp) (i : ℕ) (d : Stamp) → i < length rows → list_any (nat_eq (place_of (get_or rows i d))) (map place_of (take i rows)) ≡ true → ¬ IsDistinct nat_eq (map place_of rows)
twice rows i d h found distinct =
    let row = get_or rows i d in
    let whole : rows ≡ take i rows ++ row ∷ drop (suc i) rows = sym (take-append-drop i rows) ∙ ap (λ (t : List Stamp). take i rows ++ t) (drop-cons rows i d h) in
    let parts : map place_of rows ≡ map place_of (take i rows) ++ place_of row ∷ map place_of (drop (suc i) rows) = ap (map place_of) whole ∙ map-append place_of (take i rows) (row ∷ drop (suc i) rows) in
    let none = distinct_before (map place_of (take i rows)) (place_of row) (map place_of (drop (suc i) rows)) (subst (IsDistinct nat_eq) parts distinct) in
    absurd (let e = sym found ∙ none in cc)

not_false : (b : Bool) → false ≡ not b → b ≡ true
not_false true is = refl
not_false false is = absurd cc

pub second : (rows : List Stamp) (i : ℕ) (d : Stamp) (keys : List ℕ) (added : Bool) → i < length rows → keys ≡ map place_of (take i rows)
    → added ≡ not (list_any (nat_eq (place_of (get_or rows i d))) keys) → added ≡ false → ¬ IsDistinct nat_eq (map place_of rows)
second rows i d keys added h is new old =
    twice rows i d h (subst (λ ks. list_any (nat_eq (place_of (get_or rows i d))) ks ≡ true) is (not_false _ (sym old ∙ new)))

-- ---- rows whose last places ascend

step_up : (rows : List Stamp) → ((k : ℕ) (d : Stamp) → k + 1 < length rows → place_of (get_or rows k d) < place_of (get_or rows (k + 1) d))
    → (i j : ℕ) (d : Stamp) → i < j → j < length rows → place_of (get_or rows i d) < place_of (get_or rows j d)
step_up rows asc i zero d low h = absurd (omega (arith, low))
step_up rows asc i (suc j) d low h =
    let next : j + 1 ≡ suc j = omega arith in
    let step : place_of (get_or rows j d) < place_of (get_or rows (suc j) d) =
    subst (λ (m : ℕ). place_of (get_or rows j d) < place_of (get_or rows m d)) next (asc j d (omega (arith, h, next))) in
    elim (cases_lt i j) [
      | inl before ↦ let front : place_of (get_or rows i d) < place_of (get_or rows j d) = step_up rows asc i j d before (omega (arith, h)) in omega (arith, front, step)
      | inr last ↦ let same : j ≡ i = omega (arith, low, last) in subst (λ (m : ℕ). place_of (get_or rows m d) < place_of (get_or rows (suc j) d)) same step
    ]

map_at : (rows : List Stamp) (i : ℕ) (r : Stamp) (d : ℕ) → i < length rows → get_or (map place_of rows) i d ≡ place_of (get_or rows i r)
map_at [] i r d h = absurd (omega (arith, h))
map_at (x ∷ rows) zero r d h = refl
map_at (x ∷ rows) (suc i) r d h = map_at rows i r d (omega (arith, h))

pub rising_rows : (rows : List Stamp) → ((k : ℕ) (d : Stamp) → k + 1 < length rows → place_of (get_or rows k d) < place_of (get_or rows (k + 1) d)) → IsDistinct nat_eq (map place_of rows)
rising_rows [] asc = IsDistinct-from_apart nat_eq [] (λ i j d low h. absurd (omega arith))
rising_rows (r ∷ rest) asc =
    let rows = r ∷ rest in
    IsDistinct-from_apart nat_eq (map place_of rows) (λ i j d low h.
    let hj : j < length rows = simp length-map at h in
    let hi : i < length rows = omega arith in
    let up : place_of (get_or rows i r) < place_of (get_or rows j r) = step_up rows asc i j r low hj in
    rw (map_at rows i r d hi, map_at rows j r d hj) (no_test (place_of (get_or rows i r)) (place_of (get_or rows j r)) (λ e. absurd (omega (arith, up, e)))))
