-- Names that were there at the mark, and those that came since.
use Rattle.std.proofs.Common.{◌≡◌, ◌≢◌, ◌≤◌, ◌<◌, ◌+◌, ◌-◌, ◌∙◌, ◌||◌, ap, sym, subst, refl, true≢false, ℕ, zero, suc, Bool, true, false, cond, not, List, [], ◌∷◌, ◌++◌, Option, Some, None, option_map, map, take, drop, length, get_or, if◌then◌else◌, inl, inr, arith}
use Rattle.std.specs.List.{slice_get, list_any, flat_map, position, position_or_len, swap, slice_set, IsDistinct, AllByRecursion}
use Rattle.std.specs.Map.{lookup, keys_of, values_of, set_value}
use Rattle.std.specs.Cmp.{IsEquivalence}
use Rattle.std.proofs.lemmas.Bool.{cases_eq, cases_lt}
use Rattle.std.proofs.lemmas.List.{length-set, get_or-set_same, get_or-set_other, drop_all, append-nil, take_more}
use Rattle.std.proofs.lemmas.List.Concat.{flat_map-append}
use Rattle.std.proofs.lemmas.List.Quantifiers.{position-Some}
use Rattle.std.proofs.lemmas.Map.Entries.{length-keys_of}
use Rattle.std.proofs.lemmas.Map.Keys.{apart_from_distinct, IsDistinct-head, IsDistinct-tail}
use Rattle.std.proofs.lemmas.Option.{same_Some, none-some, slice_get_within, slice_get-get_or, get_or_from_slice_get, slice_get-map}
use Rattle.indexmap.specs.IndexMap.{set_value_at, insert_entry}
use Rattle.flow_base.specs.declared.types.Key.{Key}
use Rattle.flow_base.specs.contracts.types.KeyPartialEq.TheImpl.{ghosts}
use Rattle.acts.proofs.Entering.{AreOne, some_place, none_place}
use Rattle.entity_names.specs.KeyNames.{KeyNames}
use Rattle.entity_names.specs.Known.{AreSaved, texts, saved_in, new_pairs, text_if}

abbrev Entries : Type 0
Entries = List (Key × KeyNames)

abbrev IsSaved : Key × KeyNames → Type 0
IsSaved e = e.1.saved ≡ length e.1.texts

pub saved_few : (n : ℕ) (es : Entries) → AreSaved n es → n ≤ length es
saved_few zero es are = omega arith
saved_few (suc n) [] are = absurd are
saved_few (suc n) (e ∷ es) are = let few = saved_few n es are.1 in omega (arith, few)

saved_there : (n : ℕ) (es : Entries) (i : ℕ) (e : Key × KeyNames) → AreSaved n es → i < n → slice_get es i ≡ Some e → IsSaved e
saved_there zero es i e are low at = absurd (omega (arith, low))
saved_there (suc n) [] i e are low at = absurd are
saved_there (suc n) (x ∷ es) zero e are low at = subst IsSaved (same_Some x e at) are.0
saved_there (suc n) (x ∷ es) (suc i) e are low at = saved_there n es i e are.1 (omega (arith, low)) at

saved_from : (n : ℕ) (es : Entries) → n ≤ length es → ((i : ℕ) (e : Key × KeyNames) → i < n → slice_get es i ≡ Some e → IsSaved e) → AreSaved n es
saved_from zero es few each = tt
saved_from (suc n) [] few each = absurd (omega (arith, few))
saved_from (suc n) (x ∷ es) few each = (each 0 x (omega arith) refl, saved_from n es (omega (arith, few)) (λ i e low at. each (suc i) e (omega (arith, low)) at))

-- ---- two entries that are exchanged

exchanged : {X : Type 0} (xs : List X) (i last k : ℕ) (x : X) → i ≤ last → last < length xs → k < last → slice_get (swap xs i last) k ≡ Some x
    → (j : ℕ) × (j ≤ last) × (j ≢ i) × (slice_get xs j ≡ Some x)
exchanged {X} [] i last k x first within before at = absurd (omega (arith, within))
exchanged {X} (d ∷ ys) i last k x first within before at = elim (cases_eq k i) [
  | inl e ↦ (
    last,
    (let h : last ≤ last = omega arith in h),
    (let h : last ≢ i = omega (arith, e, before) in h),
    slice_get-get_or (d ∷ ys) last d within ∙ ap Some (sym (get_or-set_same (d ∷ ys) i moved x (omega (arith, first, within))) ∙ ap (λ n. get_or (slice_set (d ∷ ys) i moved) n x) (sym e) ∙ there),
  )
  | inr apart ↦ (
    k,
    (let h : k ≤ last = omega (arith, before) in h),
    apart,
    slice_get-get_or (d ∷ ys) k x (omega (arith, before, within)) ∙ ap Some (sym (get_or-set_other (d ∷ ys) i k moved x apart) ∙ there),
  )
]
  where
    moved : X
    moved = get_or (d ∷ ys) last d

    there : get_or (slice_set (d ∷ ys) i moved) k x ≡ x
    there = sym (get_or-set_other (slice_set (d ∷ ys) i moved) last k (get_or (d ∷ ys) i d) x (let h : k ≢ last = omega (arith, before) in h))
        ∙ get_or_from_slice_get (swap (d ∷ ys) i last) k x x at

length_swap : {X : Type 0} (xs : List X) (i j : ℕ) → length (swap xs i j) ≡ length xs
length_swap [] i j = refl
length_swap (d ∷ ys) i j = length-set _ j _ ∙ length-set (d ∷ ys) i _

-- an entry that goes over to the second part leaves the first with saved ones
pub saved_apart : (es : Entries) (i n : ℕ) → i < n → AreSaved n es → AreSaved (n - 1) (swap es i (n - 1))
saved_apart es i n low are =
    let few = saved_few n es are in
    let long = length_swap es i (n - 1) in
    saved_from (n - 1) (swap es i (n - 1)) (omega (arith, few, long)) (λ k e before at.
    let x = exchanged es i (n - 1) k e (omega (arith, low)) (omega (arith, low, few)) before at in
    let last = x.1 in
    saved_there n es x.0 e are (omega (arith, last, low)) x.3)

apart_from : (test : Key → Bool) (es : Entries) (n : ℕ) → ((k : ℕ) (e : Key × KeyNames) → k < n → slice_get es k ≡ Some e → test e.0 ≡ false)
    → list_any test (take n (keys_of es)) ≡ false
apart_from test es zero each = refl
apart_from test [] (suc n) each = refl
apart_from test (e ∷ es) (suc n) each =
    ap (λ b. b || list_any test (take n (keys_of es))) (each 0 e (omega arith) refl)
    ∙ apart_from test es n (λ k x low at. each (suc k) x (omega (arith, low)) at)

agree : (a b : Bool) → (a ≡ true → b ≡ true) → (b ≡ true → a ≡ true) → a ≡ b
agree true b f g = sym (f refl)
agree false true f g = g refl
agree false false f g = refl

turned : AreOne → (x y : Key) → x ≡ y → ghosts.eq y x ≡ true
turned one x y is = subst (λ (k : Key). ghosts.eq k x ≡ true) is (one.same x)

key_laws : AreOne → IsEquivalence ghosts.eq
key_laws one = record {
  refl = one.same;
  symm = λ x y. agree (ghosts.eq x y) (ghosts.eq y x) (λ e. turned one x y (one.exact x y e)) (λ e. turned one y x (one.exact y x e));
  congr = λ x y z e. ap (λ (k : Key). ghosts.eq k z) (one.exact x y e);
}

-- the key of an entry that goes over is not in the first part
pub key_apart : AreOne → (key : Key) (es : Entries) (i n : ℕ) → i < n → n ≤ length es → IsDistinct ghosts.eq (keys_of es) → position (ghosts.eq key) (keys_of es) ≡ Some i
    → list_any (ghosts.eq key) (take (n - 1) (keys_of (swap es i (n - 1)))) ≡ false
key_apart one key es i n low few distinct at_i =
    apart_from (ghosts.eq key) (swap es i (n - 1)) (n - 1) (λ k e before at.
    let x = exchanged es i (n - 1) k e (omega (arith, low)) (omega (arith, low, few)) before at in
    other x.0 e x.2 x.3)
  where
    other : (j : ℕ) (e : Key × KeyNames) → j ≢ i → slice_get es j ≡ Some e → ghosts.eq key e.0 ≡ false
    other j e apart at =
        let there : slice_get (keys_of es) j ≡ Some e.0 = slice_get-map (λ (x : Key × KeyNames). x.0) es j ∙ ap (option_map (λ (x : Key × KeyNames). x.0)) at in
        let is : get_or (keys_of es) j e.0 ≡ e.0 = get_or_from_slice_get (keys_of es) j e.0 e.0 there in
        let first = position-Some (ghosts.eq key) (keys_of es) i e.0 at_i in
        let inside = slice_get_within (keys_of es) j e.0 there in
        elim (cases_lt j i) [
          | inl lower ↦ ap (ghosts.eq key) (sym is) ∙ first.2 j lower
          | inr upper ↦ ap (ghosts.eq key) (sym is) ∙ (key_laws one).congr key (get_or (keys_of es) i e.0) (get_or (keys_of es) j e.0) first.1
              ∙ apart_from_distinct ghosts.eq (keys_of es) i j e.0 distinct (omega (arith, upper, apart)) inside
        ]

-- ---- keys that stand past the first part

not_before : {X : Type 0} (p : X → Bool) (xs : List X) (n : ℕ) → n ≤ position_or_len p xs → list_any p (take n xs) ≡ false
not_before p xs zero h = refl
not_before p [] (suc n) h = refl
not_before p (x ∷ xs) (suc n) h = by (p x) (not_before p xs n) h
  where
    by : (b : Bool) → (n ≤ position_or_len p xs → list_any p (take n xs) ≡ false) → suc n ≤ cond (not b) (1 + position_or_len p xs) 0 → (b || list_any p (take n xs)) ≡ false
    by true rest h = absurd (omega (arith, h))
    by false rest h = rest (omega (arith, h))

-- a key that has no entry
pub key_absent : (key : Key) (es : Entries) (n : ℕ) → n ≤ length es → position (ghosts.eq key) (keys_of es) ≡ None → list_any (ghosts.eq key) (take n (keys_of es)) ≡ false
key_absent key es n few none =
    let end = none_place (ghosts.eq key) (keys_of es) none in
    let long = length-keys_of es in
    not_before (ghosts.eq key) (keys_of es) n (omega (arith, few, end, long))

-- a key whose entry stands past the first part
pub key_past : (key : Key) (es : Entries) (n i : ℕ) → n ≤ i → position (ghosts.eq key) (keys_of es) ≡ Some i → list_any (ghosts.eq key) (take n (keys_of es)) ≡ false
key_past key es n i past at = let place = some_place (ghosts.eq key) (keys_of es) i at in not_before (ghosts.eq key) (keys_of es) n (omega (arith, past, place))

-- ---- entries that change

-- a value that keeps its names keeps the first part
pub saved_kept : (test : Key → Bool) (es : Entries) (n : ℕ) (v w : KeyNames) → AreSaved n es → Some v ≡ lookup test es → w.saved ≡ v.saved → w.texts ≡ v.texts → AreSaved n (set_value test es w)
saved_kept test es zero v w are at saved items = tt
saved_kept test [] (suc n) v w are at saved items = absurd are
saved_kept test (e ∷ es) (suc n) v w are at saved items = by (test e.0) (λ later. saved_kept test es n v w are.1 later saved items) at
  where
    by : (b : Bool) → (Some v ≡ lookup test es → AreSaved n (set_value test es w)) → Some v ≡ cond b (Some e.1) (lookup test es) → AreSaved (suc n) (cond b ((e.0, w) ∷ es) (e ∷ set_value test es w))
    by true rest at = (saved ∙ ap (λ (x : KeyNames). x.saved) (same_Some v e.1 at) ∙ are.0 ∙ ap (λ (x : KeyNames). length x.texts) (sym (same_Some v e.1 at)) ∙ ap length (sym items), are.1)
    by false rest at = (are.0, rest at)

-- a value past the first part may change
pub saved_past : (test : Key → Bool) (es : Entries) (n : ℕ) (w : KeyNames) → AreSaved n es → list_any test (take n (keys_of es)) ≡ false → AreSaved n (set_value test es w)
saved_past test es zero w are apart = tt
saved_past test [] (suc n) w are apart = absurd are
saved_past test (e ∷ es) (suc n) w are apart = by (test e.0) (saved_past test es n w are.1) apart
  where
    by : (b : Bool) → (list_any test (take n (keys_of es)) ≡ false → AreSaved n (set_value test es w)) → (b || list_any test (take n (keys_of es))) ≡ false
        → AreSaved (suc n) (cond b ((e.0, w) ∷ es) (e ∷ set_value test es w))
    by true rest apart = absurd (true≢false apart)
    by false rest apart = (are.0, rest apart)

-- a new key goes last
pub saved_inserted : (key : Key) (es : Entries) (n : ℕ) (w : KeyNames) → AreSaved n es → lookup (ghosts.eq key) es ≡ None → AreSaved n (insert_entry ghosts.eq es key w)
saved_inserted key es zero w are none = tt
saved_inserted key [] (suc n) w are none = absurd are
saved_inserted key (e ∷ es) (suc n) w are none = by (ghosts.eq key e.0) (saved_inserted key es n w are.1) none
  where
    by : (b : Bool) → (lookup (ghosts.eq key) es ≡ None → AreSaved n (insert_entry ghosts.eq es key w)) → cond b (Some e.1) (lookup (ghosts.eq key) es) ≡ None
        → AreSaved (suc n) (if b then (e.0, w) ∷ es else e ∷ insert_entry ghosts.eq es key w)
    by true rest none = absurd (none-some e.1 (sym none))
    by false rest none = (are.0, rest none)

pub saved_added : (key : Key) (es fs : Entries) (n : ℕ) (w : KeyNames) → fs ≡ es → AreSaved n es → lookup (ghosts.eq key) es ≡ None → AreSaved n (insert_entry ghosts.eq fs key w)
saved_added key es fs n w same are none = subst (λ xs. AreSaved n (insert_entry ghosts.eq xs key w)) (sym same) (saved_inserted key es n w are none)

-- the entry at the end of the first part is saved too
pub saved_more : (es : Entries) (n : ℕ) (w : KeyNames) → n < length es → w.saved ≡ length w.texts → AreSaved n es → AreSaved (suc n) (set_value_at es n w)
saved_more [] n w low is are = absurd (omega (arith, low))
saved_more (e ∷ es) zero w low is are = (is, tt)
saved_more (e ∷ es) (suc n) w low is are = (are.0, saved_more es n w (omega (arith, low)) is are.1)

-- what a look-up says of an entry that changes
pub looked_up : {B : Type 0} (f : Option KeyNames → B) (test : Key → Bool) (es : Entries) (n : ℕ) (v w : KeyNames) → Some v ≡ slice_get (values_of es) n → f (Some w) ≡ f (Some v)
    → f (lookup test (set_value_at es n w)) ≡ f (lookup test es)
looked_up f test [] n v w at same = refl
looked_up f test (e ∷ es) zero v w at same = by (test e.0)
  where
    by : (b : Bool) → f (cond b (Some w) (lookup test es)) ≡ f (cond b (Some e.1) (lookup test es))
    by true = same ∙ ap f at
    by false = refl
looked_up f test (e ∷ es) (suc n) v w at same = by (test e.0) (looked_up f test es n v w at same)
  where
    by : (b : Bool) → f (lookup test (set_value_at es n w)) ≡ f (lookup test es) → f (cond b (Some e.1) (lookup test (set_value_at es n w))) ≡ f (cond b (Some e.1) (lookup test es))
    by true rest = refl
    by false rest = rest

-- what a look-up says of an entry that another look-up finds, if that entry changes
pub looked_up_by : {B : Type 0} (f : Option KeyNames → B) (found test : Key → Bool) (es : Entries) (v w : KeyNames) → Some v ≡ lookup found es → f (Some w) ≡ f (Some v)
    → f (lookup test (set_value found es w)) ≡ f (lookup test es)
looked_up_by f found test [] v w at same = refl
looked_up_by f found test (e ∷ es) v w at same = by (found e.0) (λ later. looked_up_by f found test es v w later same) at
  where
    here : (b : Bool) → f (Some w) ≡ f (Some e.1) → f (cond b (Some w) (lookup test es)) ≡ f (cond b (Some e.1) (lookup test es))
    here true is = is
    here false is = refl

    further : (b : Bool) → f (lookup test (set_value found es w)) ≡ f (lookup test es) → f (cond b (Some e.1) (lookup test (set_value found es w))) ≡ f (cond b (Some e.1) (lookup test es))
    further true rest = refl
    further false rest = rest

    by : (b : Bool) → (Some v ≡ lookup found es → f (lookup test (set_value found es w)) ≡ f (lookup test es)) → Some v ≡ cond b (Some e.1) (lookup found es)
        → f (lookup test (cond b ((e.0, w) ∷ es) (e ∷ set_value found es w))) ≡ f (cond (test e.0) (Some e.1) (lookup test es))
    by true rest at = here (test e.0) (same ∙ ap f at)
    by false rest at = further (test e.0) (rest at)

-- ---- the new names

-- if all names of the first entries were there at the mark, none of these came since
pub none_new : (n : ℕ) (es : Entries) → AreSaved n es → flat_map new_pairs (take n es) ≡ []
none_new zero es are = refl
none_new (suc n) [] are = absurd are
none_new (suc n) (e ∷ es) are =
    ap (λ ts. map (λ text. (e.0, text)) ts ++ flat_map new_pairs (take n es)) (drop_all e.1.saved e.1.texts (omega (arith, are.0))) ∙ none_new n es are.1

of_one_key : (k key : Key) (ts : List (List ℕ)) → flat_map (text_if k) (map (λ text. (key, text)) ts) ≡ (if ghosts.eq key k then ts else [])
of_one_key k key [] = by (ghosts.eq key k)
  where
    by : (b : Bool) → ◌≡◌ {A = List (List ℕ)} [] (if b then [] else [])
    by true = refl
    by false = refl
of_one_key k key (t ∷ ts) = ap (λ r. text_if k (key, t) ++ r) (of_one_key k key ts) ∙ by (ghosts.eq key k)
  where
    by : (b : Bool) → (if b then t ∷ [] else []) ++ (if b then ts else []) ≡ (if b then t ∷ ts else [])
    by true = refl
    by false = refl

module _ (one : AreOne) where
  -- another key has none of them
  none_of_others : (k : Key) (es : Entries) → AllByRecursion (λ y. ghosts.eq k y ≡ false) (keys_of es) → flat_map (text_if k) (flat_map new_pairs es) ≡ []
  none_of_others k [] others = refl
  none_of_others k (e ∷ es) others =
      flat_map-append (text_if k) (new_pairs e) (flat_map new_pairs es)
      ∙ ap (λ ts. ts ++ flat_map (text_if k) (flat_map new_pairs es)) (of_one_key k e.0 (drop e.1.saved e.1.texts) ∙ ap (λ b. if b then drop e.1.saved e.1.texts else []) ((key_laws one).symm e.0 k ∙ others.0))
      ∙ none_of_others k es others.1

  -- each key has those that came since the mark
  pub new_of_each : (es : Entries) → IsDistinct ghosts.eq (keys_of es) → (k : Key)
      → flat_map (text_if k) (flat_map new_pairs es) ≡ drop (saved_in (lookup (ghosts.eq k) es)) (texts (lookup (ghosts.eq k) es))
  new_of_each [] distinct k = refl
  new_of_each (e ∷ es) distinct k =
      flat_map-append (text_if k) (new_pairs e) (flat_map new_pairs es)
      ∙ ap (λ ts. ts ++ flat_map (text_if k) (flat_map new_pairs es)) (of_one_key k e.0 (drop e.1.saved e.1.texts) ∙ ap (λ b. if b then drop e.1.saved e.1.texts else []) ((key_laws one).symm e.0 k))
      ∙ by (ghosts.eq k e.0) refl (new_of_each es (IsDistinct-tail ghosts.eq e.0 (keys_of es) distinct) k)
    where
      by : (b : Bool) → ghosts.eq k e.0 ≡ b → flat_map (text_if k) (flat_map new_pairs es) ≡ drop (saved_in (lookup (ghosts.eq k) es)) (texts (lookup (ghosts.eq k) es))
          → (if b then drop e.1.saved e.1.texts else []) ++ flat_map (text_if k) (flat_map new_pairs es)
          ≡ drop (saved_in (cond b (Some e.1) (lookup (ghosts.eq k) es))) (texts (cond b (Some e.1) (lookup (ghosts.eq k) es)))
      by true is rest =
          ap (λ ts. drop e.1.saved e.1.texts ++ ts) (none_of_others k es (subst (λ (x : Key). AllByRecursion (λ y. ghosts.eq x y ≡ false) (keys_of es)) (sym (one.exact k e.0 is)) (IsDistinct-head ghosts.eq e.0 (keys_of es) distinct)))
          ∙ append-nil (drop e.1.saved e.1.texts)
      by false is rest = rest

-- one more entry
pub new_of_next : (es : Entries) (n : ℕ) (e : Key × KeyNames) → slice_get es n ≡ Some e → flat_map new_pairs (take (n + 1) es) ≡ flat_map new_pairs (take n es) ++ new_pairs e
new_of_next es n e at =
    ap (flat_map new_pairs) (take_more es n e (slice_get_within es n e at) ∙ ap (λ x. take n es ++ x ∷ []) (get_or_from_slice_get es n e e at))
    ∙ flat_map-append new_pairs (take n es) (e ∷ []) ∙ ap (λ ps. flat_map new_pairs (take n es) ++ ps) (append-nil (new_pairs e))

-- if all entries are saved, each key has as many saved names as names
pub all_saved : (test : Key → Bool) (es : Entries) → AreSaved (length es) es → saved_in (lookup test es) ≡ length (texts (lookup test es))
all_saved test [] are = refl
all_saved test (e ∷ es) are = by (test e.0) (all_saved test es are.1)
  where
    by : (b : Bool) → saved_in (lookup test es) ≡ length (texts (lookup test es)) → saved_in (cond b (Some e.1) (lookup test es)) ≡ length (texts (cond b (Some e.1) (lookup test es)))
    by true rest = are.0
    by false rest = rest
