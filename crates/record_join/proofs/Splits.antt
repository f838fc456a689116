-- Groups that are kept as those of lesser keys and the last one.
use Rattle.std.proofs.Common.{◌≡◌, ◌≢◌, true, false, cond, List, [], ◌∷◌, ◌++◌, refl, sym, ◌∙◌, ap, subst, Some, None, inl, inr}
use Rattle.std.specs.Prelude.{Result, Ok, Err, OnOk, OnErr, Option, is_some, option_map, map}
use Rattle.std.specs.List.{list_any, AllByRecursion}
use Rattle.std.specs.List.Sorted.{IsStrictlySortedBy}
use Rattle.std.specs.Map.{lookup, keys_of}
use Rattle.std.specs.BTreeMap.{insert_entry}
use Rattle.std.specs.Ordering.{is_eq, ordering_reverse, match_ordering}
use Rattle.std.specs.declared.cmp.Ordering.{Ordering}
use Rattle.std.specs.declared.cmp.Ordering.TheVariants.{Less, Equal, Greater}
use Rattle.std.proofs.lemmas.Bool.{true≢false, or_cases, or_left, or_right}
use Rattle.record_join.specs.Keys.{key_cmp, is_key}
use Rattle.record_join.specs.StandsFor.{shut, grown}
use Rattle.record_join.specs.Split.{Entry, IsSplit, against, joined, more_of, shut_entry}
use Rattle.audit_lex.specs.declared.header.EventKey.{EventKey}
use Rattle.audit_record.specs.declared.types.Record.{Record}
use Rattle.record_join.specs.declared.group.Group.{Group}
use Rattle.record_join.proofs.Keys.{key_cmp_total, key_laws, one_key}
use Rattle.record_join.proofs.Groups.{by_test, on_true, on_false, first_of_key}
use Rattle.record_join.proofs.Stands.{has_entry}
use Rattle.record_join.proofs.Again.{or_else, lookup_append, else_none, lookup_last, lookup_changed, lookup_own}

-- ---- a last entry behind others

all_snoc : (P : EventKey → Type 0) (xs : List Entry) (l : Entry) → AllByRecursion P (keys_of xs) → P l.0 → AllByRecursion P (keys_of (xs ++ l ∷ []))
all_snoc P [] l a p = (p, tt)
all_snoc P (x ∷ xs) l a p = (a.0, all_snoc P xs l a.1 p)

at_last : (P : EventKey → Type 0) (xs : List Entry) (l : Entry) → AllByRecursion P (keys_of (xs ++ l ∷ [])) → P l.0
at_last P [] l a = a.0
at_last P (x ∷ xs) l a = at_last P xs l a.1

all_map : (P Q : EventKey → Type 0) (ks : List EventKey) → ((k : EventKey) → P k → Q k) → AllByRecursion P ks → AllByRecursion Q ks
all_map P Q [] f a = tt
all_map P Q (k ∷ ks) f a = (f k a.0, all_map P Q ks f a.1)

-- the keys of these are below a key
abbrev AreBelow : EventKey → List Entry → Type 0
AreBelow k xs = AllByRecursion (λ y. key_cmp y k ≡ Less) (keys_of xs)

below_last : (xs : List Entry) (l : Entry) → IsStrictlySortedBy key_cmp (keys_of (xs ++ l ∷ [])) → AreBelow l.0 xs
unfolding IsStrictlySortedBy
below_last [] l s = tt
below_last (x ∷ xs) l s = (at_last (λ y. key_cmp x.0 y ≡ Less) xs l s.0, below_last xs l s.1)

sorted_snoc : (xs : List Entry) (l : Entry) → IsStrictlySortedBy key_cmp (keys_of xs) → AreBelow l.0 xs → IsStrictlySortedBy key_cmp (keys_of (xs ++ l ∷ []))
unfolding IsStrictlySortedBy
sorted_snoc [] l s a = (tt, tt)
sorted_snoc (x ∷ xs) l s a = (all_snoc (λ y. key_cmp x.0 y ≡ Less) xs l s.0 a.0, sorted_snoc xs l s.1 a.1)

-- ---- a key above all

greater_turned : (a b : EventKey) → key_cmp a b ≡ Greater → key_cmp b a ≡ Less
greater_turned a b e = key_cmp_total.antisymm b a ∙ ap ordering_reverse e

less_turned : (a b : EventKey) → key_cmp a b ≡ Less → key_cmp b a ≡ Greater
less_turned a b e = key_cmp_total.antisymm b a ∙ ap ordering_reverse e

less_other : (a b : EventKey) → key_cmp a b ≡ Less → is_key a b ≡ false
less_other a b e = ap is_eq e

none_above : (k : EventKey) (xs : List Entry) → AreBelow k xs → lookup (is_key k) xs ≡ None
none_above k [] a = refl
none_above k (x ∷ xs) a = on_false (is_key k x.0) (Some x.1) (lookup (is_key k) xs) (key_laws.symm k x.0 ∙ less_other x.0 k a.0) ∙ none_above k xs a.1

inserted : (k : EventKey) (g : Group) (xs : List Entry) → AreBelow k xs → insert_entry key_cmp xs k g ≡ xs ++ (k, g) ∷ []
inserted k g [] a = refl
inserted k g (x ∷ xs) a =
    ap (λ (o : Ordering). match_ordering o ((k, g) ∷ x ∷ xs) ((x.0, g) ∷ xs) (x ∷ insert_entry key_cmp xs k g)) (less_turned x.0 k a.0)
    ∙ ap (λ (es : List Entry). x ∷ es) (inserted k g xs a.1)

greater_not_equal : Greater ≡ Equal → ⊥
greater_not_equal e = cc

greater_not_less : Greater ≡ Less → ⊥
greater_not_less e = cc

all_below : (xs : List Entry) (last : Option Entry) (k : EventKey) → IsSplit xs last → against last k ≡ Greater → AreBelow k (joined xs last)
all_below xs None k split g = subst (λ (es : List Entry). AreBelow k (es ++ [])) (sym split) tt
all_below xs (Some l) k split g =
    let under : key_cmp l.0 k ≡ Less = greater_turned k l.0 g in
    all_snoc (λ y. key_cmp y k ≡ Less) xs l (all_map (λ y. key_cmp y l.0 ≡ Less) (λ y. key_cmp y k ≡ Less) (keys_of xs) (λ y e. key_cmp_total.trans y l.0 k e under) (below_last xs l split)) under

pub sorted_joined : (xs : List Entry) (last : Option Entry) → IsSplit xs last → IsStrictlySortedBy key_cmp (keys_of (joined xs last))
unfolding IsStrictlySortedBy
sorted_joined xs None split = subst (λ (es : List Entry). IsStrictlySortedBy key_cmp (keys_of (es ++ []))) (sym split) tt
sorted_joined xs (Some l) split = split

-- the last group is put among the others
pub set_aside_is : (xs ys : List Entry) (k : EventKey) (g : Group) (last : Option Entry) → last ≡ Some (k, g) → IsSplit xs last
    → ys ≡ insert_entry key_cmp xs k g → ys ≡ joined xs last
set_aside_is xs ys k g last is split put =
    put ∙ inserted k g xs (below_last xs (k, g) (subst (λ (o : Option Entry). IsSplit xs o) is split)) ∙ ap (λ (o : Option Entry). joined xs o) (sym is)

-- the groups after a record is held, and after the end of a key
abbrev pub Holds : Record → List Entry → List Entry → Type 0
Holds r before after = (q : EventKey) → lookup (is_key q) after ≡ cond (is_key r.key q) (Some (grown (lookup (is_key q) before) r)) (lookup (is_key q) before)

abbrev pub Closes : EventKey → List Entry → List Entry → Type 0
Closes k before after = (q : EventKey) → lookup (is_key q) after ≡ cond (is_key k q) (shut (lookup (is_key q) before)) (lookup (is_key q) before)

-- ---- the first record of a key above all

abbrev first_entry : Record → Entry
first_entry r = (r.key, record { closed = false; records = r ∷ [] })

pub begun_split : (xs ys : List Entry) (last now : Option Entry) (r : Record) → IsSplit xs last → against last r.key ≡ Greater
    → ys ≡ joined xs last → now ≡ Some (first_entry r) → IsSplit ys now
begun_split xs ys last now r split g ys_is now_is =
    subst (λ (o : Option Entry). IsSplit ys o) (sym now_is)
    (subst (λ (es : List Entry). IsStrictlySortedBy key_cmp (keys_of (es ++ first_entry r ∷ []))) (sym ys_is)
    (sorted_snoc (joined xs last) (first_entry r) (sorted_joined xs last split) (all_below xs last r.key split g)))

pub begun_each : (xs ys : List Entry) (last now : Option Entry) (r : Record) → IsSplit xs last → against last r.key ≡ Greater
    → ys ≡ joined xs last → now ≡ Some (first_entry r) → Holds r (joined xs last) (joined ys now)
begun_each xs ys last now r split g ys_is now_is q =
    let none = none_above r.key (joined xs last) (all_below xs last r.key split g) in
    ap (λ (o : Option Entry). lookup (is_key q) (joined ys o)) now_is
    ∙ ap (λ (es : List Entry). lookup (is_key q) (es ++ first_entry r ∷ [])) ys_is
    ∙ lookup_last r.key q (record { closed = false; records = r ∷ [] }) (joined xs last) none
    ∙ first_of_key r.key q (joined xs last) r none

-- ---- the last group

none_under : (xs : List Entry) (l : Entry) → IsSplit xs (Some l) → lookup (is_key l.0) xs ≡ None
none_under xs l split = none_above l.0 xs (below_last xs l split)

abbrev changed : (Group → Group) → Entry → Entry
changed f e = (e.0, f e.1)

-- a change of the last group, whose key this is
last_each : (f : Group → Group) (F : Option Group → Option Group) → ((g : Group) → F (Some g) ≡ Some (f g))
    → (xs : List Entry) (last : Option Entry) (k : EventKey) → IsSplit xs last → against last k ≡ Equal → (q : EventKey)
    → lookup (is_key q) (joined xs (option_map (changed f) last)) ≡ cond (is_key k q) (F (lookup (is_key q) (joined xs last))) (lookup (is_key q) (joined xs last))
last_each f F fits xs None k split e q = absurd (greater_not_equal e)
last_each f F fits xs (Some l) k split e q =
    let same : k ≡ l.0 = one_key k l.0 (ap is_eq e) in
    let none = none_under xs l split in
    let own : lookup (is_key l.0) (xs ++ l ∷ []) ≡ Some l.1 = lookup_own l.0 l.1 xs none in
    lookup_changed l.0 q l.1 (f l.1) xs none
    ∙ by_test (is_key l.0 q)
    (λ here. on_true _ _ _ here
    ∙ sym (fits l.1)
    ∙ ap F (sym (ap (λ (z : EventKey). lookup (is_key z) (xs ++ l ∷ [])) (sym (one_key l.0 q here)) ∙ own))
    ∙ sym (on_true _ _ _ (ap (λ (z : EventKey). is_key z q) same ∙ here)))
    (λ there. on_false _ _ _ there ∙ sym (on_false _ _ _ (ap (λ (z : EventKey). is_key z q) same ∙ there)))

abbrev more : Record → Group → Group
more r g = record g { records = g.records ++ r ∷ [] }

abbrev shut_group : Group → Group
shut_group g = record g { closed = true }

pub more_each : (xs : List Entry) (last now : Option Entry) (r : Record) → IsSplit xs last → against last r.key ≡ Equal → now ≡ option_map (more_of r) last
    → Holds r (joined xs last) (joined xs now)
more_each xs last now r split e is q = ap (λ (o : Option Entry). lookup (is_key q) (joined xs o)) is ∙ last_each (more r) (λ o. Some (grown o r)) (λ g. refl) xs last r.key split e q

pub shut_each : (xs : List Entry) (last now : Option Entry) (k : EventKey) → IsSplit xs last → against last k ≡ Equal → now ≡ option_map shut_entry last
    → Closes k (joined xs last) (joined xs now)
shut_each xs last now k split e is q = ap (λ (o : Option Entry). lookup (is_key q) (joined xs o)) is ∙ last_each shut_group shut (λ g. refl) xs last k split e q

-- ---- a group below the last

not_the_last : (k q : EventKey) (l : Entry) → key_cmp k l.0 ≡ Less → is_key k q ≡ true → lookup (is_key q) (l ∷ []) ≡ None
not_the_last k q l under same = on_false (is_key q l.0) (Some l.1) None (ap (λ (z : EventKey). is_key z l.0) (sym (one_key k q same)) ∙ less_other k l.0 under)

pub lesser_each : (F : Option Group → Option Group) (xs ys : List Entry) (last : Option Entry) (k : EventKey) → against last k ≡ Less
    → ((q : EventKey) → lookup (is_key q) ys ≡ cond (is_key k q) (F (lookup (is_key q) xs)) (lookup (is_key q) xs)) → (q : EventKey)
    → lookup (is_key q) (joined ys last) ≡ cond (is_key k q) (F (lookup (is_key q) (joined xs last))) (lookup (is_key q) (joined xs last))
lesser_each F xs ys None k e put q = absurd (greater_not_less e)
lesser_each F xs ys (Some l) k e put q =
    lookup_append q ys (l ∷ [])
    ∙ by_test (is_key k q)
    (λ here.
    let gone = not_the_last k q l e here in
    let before : lookup (is_key q) (xs ++ l ∷ []) ≡ lookup (is_key q) xs = lookup_append q xs (l ∷ []) ∙ ap (or_else (lookup (is_key q) xs)) gone ∙ else_none (lookup (is_key q) xs) in
    ap (or_else (lookup (is_key q) ys)) gone ∙ else_none (lookup (is_key q) ys) ∙ put q ∙ on_true _ _ _ here
    ∙ ap F (sym before) ∙ sym (on_true _ _ _ here))
    (λ there.
    ap (λ (o : Option Group). or_else o (lookup (is_key q) (l ∷ []))) (put q ∙ on_false _ _ _ there)
    ∙ sym (lookup_append q xs (l ∷ [])) ∙ sym (on_false _ _ _ there))

from_members : (P : EventKey → Type 0) (ks : List EventKey) → ((q : EventKey) → list_any (is_key q) ks ≡ true → P q) → AllByRecursion P ks
from_members P [] f = tt
from_members P (k ∷ ks) f = (f k (or_left (is_key k k) (list_any (is_key k) ks) (key_laws.refl k)), from_members P ks (λ q e. f q (or_right (is_key q k) (list_any (is_key q) ks) e)))

at_member : (P : EventKey → Type 0) (ks : List EventKey) (q : EventKey) → AllByRecursion P ks → list_any (is_key q) ks ≡ true → P q
at_member P [] q a e = absurd (true≢false (sym e))
at_member P (k ∷ ks) q a e = elim (or_cases (is_key q k) (list_any (is_key q) ks) e) [
  | inl same ↦ subst P (sym (one_key q k same)) a.0
  | inr later ↦ at_member P ks q a.1 later
]

pub lesser_split : (F : Option Group → Option Group) (xs ys : List Entry) (last : Option Entry) (k : EventKey) → against last k ≡ Less → IsSplit xs last
    → IsStrictlySortedBy key_cmp (keys_of ys)
    → ((q : EventKey) → lookup (is_key q) ys ≡ cond (is_key k q) (F (lookup (is_key q) xs)) (lookup (is_key q) xs)) → IsSplit ys last
lesser_split F xs ys None k e split sorted put = absurd (greater_not_less e)
lesser_split F xs ys (Some l) k e split sorted put =
    sorted_snoc ys l sorted (from_members (λ y. key_cmp y l.0 ≡ Less) (keys_of ys) (λ q there. by_test (is_key k q)
    (λ same. subst (λ (z : EventKey). key_cmp z l.0 ≡ Less) (one_key k q same) e)
    (λ other. at_member (λ y. key_cmp y l.0 ≡ Less) (keys_of xs) q (below_last xs l split)
    (has_entry q xs ∙ ap is_some (sym (put q ∙ on_false _ _ _ other)) ∙ sym (has_entry q ys) ∙ there))))

-- a key above all has no group
pub greater_none : (xs : List Entry) (last : Option Entry) (k : EventKey) → IsSplit xs last → against last k ≡ Greater → lookup (is_key k) (joined xs last) ≡ None
greater_none xs last k split g = none_above k (joined xs last) (all_below xs last k split g)

-- a key without a group is not closed by its end
pub greater_each : (xs : List Entry) (last : Option Entry) (k : EventKey) → IsSplit xs last → against last k ≡ Greater → Closes k (joined xs last) (joined xs last)
greater_each xs last k split g q = by_test (is_key k q)
    (λ here.
    let none : lookup (is_key q) (joined xs last) ≡ None = ap (λ (z : EventKey). lookup (is_key z) (joined xs last)) (sym (one_key k q here)) ∙ greater_none xs last k split g in
    none ∙ ap shut (sym none) ∙ sym (on_true _ _ _ here))
    (λ there. sym (on_false _ _ _ there))

-- ---- all are closed

keys_shut_last : (xs : List Entry) (l : Entry) → keys_of (map shut_entry xs ++ shut_entry l ∷ []) ≡ keys_of (xs ++ l ∷ [])
keys_shut_last [] l = refl
keys_shut_last (x ∷ xs) l = ap (λ (ks : List EventKey). x.0 ∷ ks) (keys_shut_last xs l)

shut_all_of : (xs : List Entry) (last : Option Entry) → IsSplit xs last → IsSplit (map shut_entry xs) (option_map shut_entry last)
shut_all_of xs None split = ap (map shut_entry) split
shut_all_of xs (Some l) split = subst (λ (ks : List EventKey). IsStrictlySortedBy key_cmp ks) (sym (keys_shut_last xs l)) split

pub all_shut_split : (xs ys : List Entry) (last now : Option Entry) → ys ≡ map shut_entry xs → now ≡ option_map shut_entry last → IsSplit xs last → IsSplit ys now
all_shut_split xs ys last now e f split =
    subst (λ (es : List Entry). IsSplit es now) (sym e) (subst (λ (o : Option Entry). IsSplit (map shut_entry xs) o) (sym f) (shut_all_of xs last split))

-- ---- the first leaves

pub popped_split : (xs ys : List Entry) (e : Entry) (last : Option Entry) → xs ≡ e ∷ ys → IsSplit xs last → IsSplit ys last
unfolding IsStrictlySortedBy
popped_split xs ys e None is split = absurd (some_empty e ys (sym is ∙ split))
  where
    some_empty : (e : Entry) (ys : List Entry) → e ∷ ys ≡ [] → ⊥
    some_empty e ys n = cc
popped_split xs ys e (Some l) is split = (subst (λ (es : List Entry). IsStrictlySortedBy key_cmp (keys_of (es ++ l ∷ []))) is split).1

-- ---- a look-up

pub found_last : (xs : List Entry) (l : Entry) (k : EventKey) → IsSplit xs (Some l) → key_cmp k l.0 ≡ Equal → lookup (is_key k) (xs ++ l ∷ []) ≡ Some l.1
found_last xs l k split e =
    ap (λ (z : EventKey). lookup (is_key z) (xs ++ l ∷ [])) (one_key k l.0 (ap is_eq e)) ∙ lookup_own l.0 l.1 xs (none_under xs l split)

pub found_lesser : (xs : List Entry) (l : Entry) (k : EventKey) → key_cmp k l.0 ≡ Less → lookup (is_key k) (xs ++ l ∷ []) ≡ lookup (is_key k) xs
found_lesser xs l k e =
    lookup_append k xs (l ∷ []) ∙ ap (or_else (lookup (is_key k) xs)) (not_the_last k k l e (key_laws.refl k)) ∙ else_none (lookup (is_key k) xs)

-- ---- outcomes

pub map_ok : {T E P Q : Type 0} (r : Result T E) → (P → Q) → OnOk r P → OnOk r Q
map_ok (Ok x) f p = f p
map_ok (Err e) f p = p

pub map_err : {T E P Q : Type 0} (r : Result T E) → (P → Q) → OnErr r P → OnErr r Q
map_err (Ok x) f p = p
map_err (Err e) f p = f p

pub found_at : (es xs : List Entry) (last : Option Entry) (l : Entry) (k : EventKey) → joined xs last ≡ es → last ≡ Some l
    → lookup (is_key k) es ≡ lookup (is_key k) (xs ++ l ∷ [])
found_at es xs last l k view is = ap (λ (es : List Entry). lookup (is_key k) es) (sym view) ∙ ap (λ (o : Option Entry). lookup (is_key k) (joined xs o)) is

-- ---- the groups after a call that may fail

either : {T E : Type 0} {P : Type 0} (r : Result T E) → OnOk r P → OnErr r P → P
either (Ok x) p q = p
either (Err e) p q = q

both_ok : {T E : Type 0} (P Q : Type 0) (r : Result T E) → OnOk r P → OnOk r Q → OnOk r (P × Q)
both_ok P Q (Ok x) p q = (p, q)
both_ok P Q (Err e) p q = tt

pub begun_whole : {T E : Type 0} (result : Result T E) (xs ys : List Entry) (last now : Option Entry) (r : Record) → IsSplit xs last → against last r.key ≡ Greater
    → OnOk result (ys ≡ joined xs last) → OnOk result (now ≡ Some (first_entry r)) → OnErr result ((ys ≡ xs) × (now ≡ last)) → IsSplit ys now
begun_whole result xs ys last now r split g ok first err = either result
    (map_ok result (λ p. begun_split xs ys last now r split g p.0 p.1) (both_ok (ys ≡ joined xs last) (now ≡ Some (first_entry r)) result ok first))
    (map_err result (λ p. subst (λ (es : List Entry). IsSplit es now) (sym p.0) (subst (λ (o : Option Entry). IsSplit xs o) (sym p.1) split)) err)

pub begun_holds : {T E : Type 0} (result : Result T E) (xs ys : List Entry) (last now : Option Entry) (r : Record) → IsSplit xs last → against last r.key ≡ Greater
    → OnOk result (ys ≡ joined xs last) → OnOk result (now ≡ Some (first_entry r)) → OnOk result (Holds r (joined xs last) (joined ys now))
begun_holds result xs ys last now r split g ok first = map_ok result (λ p. begun_each xs ys last now r split g p.0 p.1) (both_ok (ys ≡ joined xs last) (now ≡ Some (first_entry r)) result ok first)

pub lesser_whole : {T E : Type 0} (result : Result T E) (xs ys : List Entry) (last : Option Entry) (r : Record) → IsSplit xs last → against last r.key ≡ Less
    → IsStrictlySortedBy key_cmp (keys_of ys) → OnOk result (Holds r xs ys) → OnErr result (ys ≡ xs) → IsSplit ys last
lesser_whole result xs ys last r split e sorted ok err = either result
    (map_ok result (λ put. lesser_split (λ o. Some (grown o r)) xs ys last r.key e split sorted put) ok)
    (map_err result (λ p. subst (λ (es : List Entry). IsSplit es last) (sym p) split) err)
