-- A joiner that is made again stands for the same.
use Rattle.std.proofs.Common.{◌≡◌, ◌≢◌, ◌+◌, Bool, true, false, cond, List, [], ◌∷◌, ◌++◌, length, refl, sym, ◌∙◌, ap, subst, append_assoc, append-nil, Some, None, arith, ℕ}
use Rattle.std.specs.Prelude.{Option, ◌||◌, not}
use Rattle.std.specs.List.{list_any, AllByRecursion}
use Rattle.std.specs.List.Sorted.{IsStrictlySortedBy}
use Rattle.std.specs.Map.{lookup, keys_of}
use Rattle.std.specs.Ordering.{is_eq}
use Rattle.std.specs.declared.cmp.Ordering.TheVariants.{Less}
use Rattle.std.proofs.lemmas.Bool.{true≢false}
use Rattle.std.proofs.lemmas.List.Sums.{sum_by-cons}
use Rattle.record_join.specs.Keys.{key_cmp, is_key, ends_event}
use Rattle.record_join.specs.Events.{Joining, group_of, waits, is_among, text_of, is_excess, put, enter, saw, seen_time, least_key, without}
use Rattle.record_join.specs.StandsFor.{Joiner, StandsFor, records_in, shut, grown}
use Rattle.record_join.specs.PutBack.{HeldInTurn, IsSound, fresh, closing, put_back, entered}
use Rattle.audit_lex.specs.declared.header.EventKey.{EventKey}
use Rattle.audit_record.specs.declared.types.Record.{Record}
use Rattle.audit_record.specs.declared.types.Body.TheVariants.{Eoe}
use Rattle.flow_base.specs.declared.limits.Limits.{Limits}
use Rattle.record_join.specs.declared.clock.JoinClock.{JoinClock}
use Rattle.record_join.specs.declared.group.Group.{Group}
use Rattle.record_join.proofs.Keys.{key_laws, one_key}
use Rattle.record_join.proofs.Lists.{at_apart}
use Rattle.record_join.proofs.Least.{least_none}
use Rattle.record_join.proofs.HoldsAll.{waits_own}
use Rattle.std.proofs.lemmas.List.Filters.{sum_by-filter_both}
use Rattle.record_join.proofs.Groups.{by_test, on_true, on_false}
use Rattle.record_join.proofs.Stands.{held_stands, released_stands, first_is, at_view, joiner, seen_stands, waits_if_some, no_least, has_entry, not_some}

-- ---- one more group behind others

abbrev pub or_else : {A : Type 0} → Option A → Option A → Option A
or_else None p = p
or_else (Some x) p = Some x

cond_else : {A : Type 0} (b : Bool) (x : A) (o p : Option A) → cond b (Some x) (or_else o p) ≡ or_else (cond b (Some x) o) p
cond_else true x o p = refl
cond_else false x o p = refl

pub lookup_append : (q : EventKey) (xs ys : List (EventKey × Group)) → lookup (is_key q) (xs ++ ys) ≡ or_else (lookup (is_key q) xs) (lookup (is_key q) ys)
lookup_append q [] ys = refl
lookup_append q (x ∷ xs) ys =
    ap (λ (o : Option Group). cond (is_key q x.0) (Some x.1) o) (lookup_append q xs ys)
    ∙ cond_else (is_key q x.0) x.1 (lookup (is_key q) xs) (lookup (is_key q) ys)

pub else_none : {A : Type 0} (o : Option A) → or_else o None ≡ o
else_none None = refl
else_none (Some x) = refl

-- a look-up where a group of a new key stands last
pub lookup_last : (k q : EventKey) (g : Group) (xs : List (EventKey × Group)) → lookup (is_key k) xs ≡ None
    → lookup (is_key q) (xs ++ (k, g) ∷ []) ≡ cond (is_key k q) (Some g) (lookup (is_key q) xs)
lookup_last k q g xs none = by_test (is_key k q)
    (λ same.
    lookup_append q xs ((k, g) ∷ [])
    ∙ ap (λ (o : Option Group). or_else o (cond (is_key q k) (Some g) None)) (ap (λ (z : EventKey). lookup (is_key z) xs) (sym (one_key k q same)) ∙ none)
    ∙ on_true (is_key q k) (Some g) None (key_laws.symm q k ∙ same)
    ∙ sym (on_true (is_key k q) (Some g) (lookup (is_key q) xs) same))
    (λ other.
    lookup_append q xs ((k, g) ∷ [])
    ∙ ap (λ (o : Option Group). or_else (lookup (is_key q) xs) o) (on_false (is_key q k) (Some g) None (key_laws.symm q k ∙ other))
    ∙ else_none (lookup (is_key q) xs)
    ∙ sym (on_false (is_key k q) (Some g) (lookup (is_key q) xs) other))

cond_twice : {A : Type 0} (b : Bool) (x y z : A) → cond b x z ≡ cond b x (cond b y z)
cond_twice true x y z = refl
cond_twice false x y z = refl

-- the same after a change of the last group
pub lookup_changed : (k q : EventKey) (g h : Group) (xs : List (EventKey × Group)) → lookup (is_key k) xs ≡ None
    → lookup (is_key q) (xs ++ (k, h) ∷ []) ≡ cond (is_key k q) (Some h) (lookup (is_key q) (xs ++ (k, g) ∷ []))
lookup_changed k q g h xs none =
    lookup_last k q h xs none
    ∙ cond_twice (is_key k q) (Some h) (Some g) (lookup (is_key q) xs)
    ∙ ap (λ (o : Option Group). cond (is_key k q) (Some h) o) (sym (lookup_last k q g xs none))

pub lookup_own : (k : EventKey) (g : Group) (xs : List (EventKey × Group)) → lookup (is_key k) xs ≡ None → lookup (is_key k) (xs ++ (k, g) ∷ []) ≡ Some g
lookup_own k g xs none = lookup_last k k g xs none ∙ on_true (is_key k k) (Some g) (lookup (is_key k) xs) (key_laws.refl k)

-- ---- an end

abbrev group_with : Bool → List Record → Group
group_with c rs = record { closed = c; records = rs }

shut_made : (w c v : Bool) (rs : List Record) → (w ≡ true → v ≡ true) → shut (cond w (Some (group_with c rs)) None) ≡ cond w (Some (group_with v rs)) None
shut_made true c v rs e = ap (λ b. Some (group_with b rs)) (sym (e refl))
shut_made false c v rs e = refl

module _ {limits : Limits} {join : Joiner} {t : Joining} (stands : StandsFor limits join t) where
  -- a key that waits is closed
  closed_stands : (k : EventKey) (after : List (EventKey × Group)) → waits k t.waiting ≡ true → IsStrictlySortedBy key_cmp (keys_of after)
      → ((q : EventKey) → lookup (is_key q) after ≡ cond (is_key k q) (shut (lookup (is_key q) join.groups)) (lookup (is_key q) join.groups))
      → StandsFor limits (record join { groups = after }) (record t { closed = k ∷ t.closed })
  closed_stands k after there sorted put = record {
    ascend = sorted;
    each = λ q. put q ∙ by_test (is_key k q)
        (λ same. on_true _ _ _ same ∙ ap shut (stands.each q)
        ∙ shut_made (waits q t.waiting) (is_among q t.closed) (is_key q k || is_among q t.closed) (group_of q t.waiting) (λ w. ap (λ b. b || is_among q t.closed) (key_laws.symm q k ∙ same)))
        (λ other. on_false _ _ _ other ∙ stands.each q
        ∙ ap (λ b. cond (waits q t.waiting) (Some (group_with b (group_of q t.waiting))) None) (ap (λ b. b || is_among q t.closed) (sym (key_laws.symm q k ∙ other))));
    closed_wait = λ q w. by_test (is_key q k)
        (λ same. absurd (true≢false (sym there ∙ ap (λ (z : EventKey). waits z t.waiting) (sym (one_key q k same)) ∙ w)))
        (λ other. ap (λ b. b || is_among q t.closed) other ∙ stands.closed_wait q w);
    text = stands.text;
    clock = stands.clock;
    limits_are = stands.limits_are;
  }

-- ---- the records of one group

abbrev last_group : List (EventKey × Group) → EventKey → Bool → List Record → List (EventKey × Group)
last_group done k closed records = done ++ (k, group_with closed records) ∷ []

keys_last : (done : List (EventKey × Group)) (k : EventKey) (a b : Bool) (rs qs : List Record) → keys_of (last_group done k a rs) ≡ keys_of (last_group done k b qs)
keys_last [] k a b rs qs = refl
keys_last (d ∷ done) k a b rs qs = ap (λ ks. d.0 ∷ ks) (keys_last done k a b rs qs)

seen_same : (c : JoinClock) (ms : ℕ) → seen_time c.seen ms ≡ c.seen → saw c ms ≡ c
seen_same c ms e = λ i. record { seen = e i; released = c.released; effective = c.effective }

module _ (limits : Limits) where
  -- one more record of the last group
  held_last : (done : List (EventKey × Group)) (k : EventKey) (before : List Record) (r : Record) (T : ℕ) (c : JoinClock) (t : Joining)
      → lookup (is_key k) done ≡ None → IsStrictlySortedBy key_cmp (keys_of (last_group done k false before)) → r.key ≡ k
      → ends_event r ≡ false → is_excess limits before r ≡ false → seen_time c.seen r.key.ms ≡ c.seen
      → StandsFor limits (joiner (last_group done k false before) T c limits) t
      → StandsFor limits (joiner (last_group done k false (before ++ r ∷ [])) (T + length r.line) c limits) (enter limits t r)
  held_last done k before r T c t none sorted same other fits seen stands =
      let now : Group = group_with false before in
      let more : Group = group_with false (before ++ r ∷ []) in
      let own : lookup (is_key k) (last_group done k false before) ≡ Some now = lookup_own k now done none in
      at_view (ap (λ (z : JoinClock). joiner (last_group done k false (before ++ r ∷ [])) (T + length r.line) z limits) (sym (seen_same c r.key.ms seen)))
      (held_stands stands r (last_group done k false (before ++ r ∷ [])) other
      (ap (λ (z : EventKey). is_excess limits (records_in (lookup (is_key z) (last_group done k false before))) r) same
      ∙ ap (λ (o : Option Group). is_excess limits (records_in o) r) own ∙ fits)
      (subst (λ ks. IsStrictlySortedBy key_cmp ks) (keys_last done k false false before (before ++ r ∷ [])) sorted)
      (λ q. lookup_changed k q now more done none
      ∙ by_test (is_key k q)
      (λ here. on_true _ _ _ here
      ∙ ap (λ (o : Option Group). Some (grown o r)) (sym (ap (λ (z : EventKey). lookup (is_key z) (last_group done k false before)) (sym (one_key k q here)) ∙ own))
      ∙ sym (on_true _ _ _ (ap (λ (z : EventKey). is_key z q) same ∙ here)))
      (λ there. on_false _ _ _ there ∙ sym (on_false _ _ _ (ap (λ (z : EventKey). is_key z q) same ∙ there)))))

  -- the first record of a group
  held_first : (done : List (EventKey × Group)) (k : EventKey) (r : Record) (T : ℕ) (c : JoinClock) (t : Joining)
      → lookup (is_key k) done ≡ None → IsStrictlySortedBy key_cmp (keys_of (last_group done k false (r ∷ []))) → r.key ≡ k
      → ends_event r ≡ false → is_excess limits [] r ≡ false → seen_time c.seen r.key.ms ≡ c.seen
      → StandsFor limits (joiner done T c limits) t
      → StandsFor limits (joiner (last_group done k false (r ∷ [])) (T + length r.line) c limits) (enter limits t r)
  held_first done k r T c t none sorted same other fits seen stands =
      at_view (ap (λ (z : JoinClock). joiner (last_group done k false (r ∷ [])) (T + length r.line) z limits) (sym (seen_same c r.key.ms seen)))
      (held_stands stands r (last_group done k false (r ∷ [])) other
      (ap (λ (z : EventKey). is_excess limits (records_in (lookup (is_key z) done)) r) same
      ∙ ap (λ (o : Option Group). is_excess limits (records_in o) r) none ∙ fits)
      sorted
      (λ q. lookup_last k q (group_with false (r ∷ [])) done none
      ∙ by_test (is_key k q)
      (λ here. on_true _ _ _ here
      ∙ ap (λ (o : Option Group). Some (grown o r)) (sym (ap (λ (z : EventKey). lookup (is_key z) done) (sym (one_key k q here)) ∙ none))
      ∙ sym (on_true _ _ _ (ap (λ (z : EventKey). is_key z q) same ∙ here)))
      (λ there. on_false _ _ _ there ∙ sym (on_false _ _ _ (ap (λ (z : EventKey). is_key z q) same ∙ there)))))

  held_run : (done : List (EventKey × Group)) (k : EventKey) (before records : List Record) (T : ℕ) (c : JoinClock) (t : Joining)
      → lookup (is_key k) done ≡ None → IsStrictlySortedBy key_cmp (keys_of (last_group done k false before))
      → AllByRecursion (λ r. is_key k r.key ≡ true) records → HeldInTurn limits c.seen before records
      → StandsFor limits (joiner (last_group done k false before) T c limits) t
      → StandsFor limits (joiner (last_group done k false (before ++ records)) (T + text_of records) c limits) (entered limits t records)
  held_run done k before [] T c t none sorted keyed held stands =
      at_view (same_end (last_group done k false) T c limits (before ++ []) before (T + text_of []) (append-nil before) (omega arith)) stands
    where
      same_end : (f : List Record → List (EventKey × Group)) (T : ℕ) (c : JoinClock) (limits : Limits) (xs ys : List Record) (n : ℕ) → xs ≡ ys → n ≡ T → joiner (f xs) n c limits ≡ joiner (f ys) T c limits
      same_end f T c limits xs ys n e g = cc
  held_run done k before (r ∷ records) T c t none sorted keyed held stands =
      let one = held_last done k before r T c t none sorted (sym (one_key k r.key keyed.0)) held.0 held.1 held.2 stands in
      let sorted_more = subst (λ ks. IsStrictlySortedBy key_cmp ks) (keys_last done k false false before (before ++ r ∷ [])) sorted in
      let all = held_run done k (before ++ r ∷ []) records (T + length r.line) c (enter limits t r) none sorted_more keyed.1 held.3 one in
      let sum = sum_by-cons (λ (x : Record). length x.line) r records in
      at_view (same_more (last_group done k false) c limits (before ++ r ∷ records) ((before ++ r ∷ []) ++ records) (T + text_of (r ∷ records)) (T + length r.line + text_of records)
      (sym (append_assoc before (r ∷ []) records)) (omega arith)) all
    where
      same_more : (f : List Record → List (EventKey × Group)) (c : JoinClock) (limits : Limits) (xs ys : List Record) (n m : ℕ) → xs ≡ ys → n ≡ m → joiner (f xs) n c limits ≡ joiner (f ys) m c limits
      same_more f c limits xs ys n m e g = cc

  -- ---- a whole group

  close_last : (done : List (EventKey × Group)) (k : EventKey) (records : List Record) (first : Record) (T : ℕ) (c : JoinClock) (t : Joining)
      → lookup (is_key k) done ≡ None → IsStrictlySortedBy key_cmp (keys_of (last_group done k false records)) → seen_time c.seen k.ms ≡ c.seen
      → StandsFor limits (joiner (last_group done k false records) T c limits) t
      → StandsFor limits (joiner (last_group done k true records) T c limits) (enter limits t (record { key = k; line = first.line; body = Eoe }))
  close_last done k records first T c t none sorted seen stands =
      let now : Joining = record t { clock = saw t.clock k.ms } in
      let own : lookup (is_key k) (last_group done k false records) ≡ Some (group_with false records) = lookup_own k (group_with false records) done none in
      let there : waits k t.waiting ≡ true = (waits_if_some (waits k t.waiting) (group_with (is_among k t.closed) (group_of k t.waiting)) (group_with false records) (sym (stands.each k) ∙ own)).0 in
      at_view (ap (λ (z : JoinClock). joiner (last_group done k true records) T z limits) (sym (seen_same c k.ms seen)))
      (subst (λ (u : Joining). StandsFor limits (joiner (last_group done k true records) T (saw c k.ms) limits) u)
      (sym (on_true (waits k t.waiting) (record now { closed = k ∷ t.closed }) now there))
      (closed_stands (seen_stands stands k.ms t.excess) k (last_group done k true records) there
      (subst (λ ks. IsStrictlySortedBy key_cmp ks) (keys_last done k false true records records) sorted)
      (λ q. lookup_changed k q (group_with false records) (group_with true records) done none
      ∙ by_test (is_key k q)
      (λ here. on_true _ _ _ here
      ∙ ap shut (sym (ap (λ (z : EventKey). lookup (is_key z) (last_group done k false records)) (sym (one_key k q here)) ∙ own))
      ∙ sym (on_true _ _ _ here))
      (λ apart. on_false _ _ _ apart ∙ sym (on_false _ _ _ apart)))))

  entered_append : (t : Joining) (xs ys : List Record) → entered limits t (xs ++ ys) ≡ entered limits (entered limits t xs) ys
  entered_append t [] ys = refl
  entered_append t (x ∷ xs) ys = entered_append (enter limits t x) xs ys

  group_run : (done : List (EventKey × Group)) (k : EventKey) (closed : Bool) (records : List Record) (T : ℕ) (c : JoinClock) (t : Joining)
      → lookup (is_key k) done ≡ None → IsStrictlySortedBy key_cmp (keys_of (last_group done k closed records))
      → records ≢ [] → AllByRecursion (λ r. is_key k r.key ≡ true) records → HeldInTurn limits c.seen [] records
      → StandsFor limits (joiner done T c limits) t
      → StandsFor limits (joiner (last_group done k closed records) (T + text_of records) c limits) (entered limits t (records ++ cond closed (closing k records) []))
  group_run done k closed [] T c t none sorted some keyed held stands = absurd (some refl)
  group_run done k closed (r ∷ records) T c t none sorted some keyed held stands =
      let same : r.key ≡ k = sym (one_key k r.key keyed.0) in
      let one = held_first done k r T c t none (subst (λ ks. IsStrictlySortedBy key_cmp ks) (keys_last done k closed false (r ∷ records) (r ∷ [])) sorted) same held.0 held.1 held.2 stands in
      let all = held_run done k (r ∷ []) records (T + length r.line) c (enter limits t r) none
      (subst (λ ks. IsStrictlySortedBy key_cmp ks) (keys_last done k closed false (r ∷ records) (r ∷ [])) sorted) keyed.1 held.3 one in
      let sum = sum_by-cons (λ (x : Record). length x.line) r records in
      let total : T + text_of (r ∷ records) ≡ T + length r.line + text_of records = omega arith in
      let held_all : StandsFor limits (joiner (last_group done k false (r ∷ records)) (T + text_of (r ∷ records)) c limits) (entered limits t (r ∷ records)) =
      at_view (ap (λ (n : ℕ). joiner (last_group done k false (r ∷ records)) n c limits) total) all in
      ending closed held_all (subst (λ (z : EventKey). seen_time c.seen z.ms ≡ c.seen) same held.2) (subst (λ ks. IsStrictlySortedBy key_cmp ks) (keys_last done k closed false (r ∷ records) (r ∷ records)) sorted)
    where
      ending : (b : Bool) → StandsFor limits (joiner (last_group done k false (r ∷ records)) (T + text_of (r ∷ records)) c limits) (entered limits t (r ∷ records))
          → seen_time c.seen k.ms ≡ c.seen → IsStrictlySortedBy key_cmp (keys_of (last_group done k false (r ∷ records)))
          → StandsFor limits (joiner (last_group done k b (r ∷ records)) (T + text_of (r ∷ records)) c limits) (entered limits t ((r ∷ records) ++ cond b (closing k (r ∷ records)) []))
      ending true held_all seen sorted_now =
          subst (λ (u : Joining). StandsFor limits (joiner (last_group done k true (r ∷ records)) (T + text_of (r ∷ records)) c limits) u)
          (sym (entered_append t (r ∷ records) (closing k (r ∷ records))))
          (close_last done k (r ∷ records) r (T + text_of (r ∷ records)) c (entered limits t (r ∷ records)) none sorted_now seen held_all)
      ending false held_all seen sorted_now =
          subst (λ (rs : List Record). StandsFor limits (joiner (last_group done k false (r ∷ records)) (T + text_of (r ∷ records)) c limits) (entered limits t rs)) (sym (append-nil (r ∷ records))) held_all

-- ---- all groups

all_front : {A : Type 0} (P : A → Type 0) (xs ys : List A) → AllByRecursion P (xs ++ ys) → AllByRecursion P xs
all_front P [] ys a = tt
all_front P (x ∷ xs) ys a = (a.0, all_front P xs ys a.1)

all_middle : {A : Type 0} (P : A → Type 0) (xs : List A) (y : A) (ys : List A) → AllByRecursion P (xs ++ y ∷ ys) → P y
all_middle P [] y ys a = a.0
all_middle P (x ∷ xs) y ys a = all_middle P xs y ys a.1

sorted_front : (xs ys : List EventKey) → IsStrictlySortedBy key_cmp (xs ++ ys) → IsStrictlySortedBy key_cmp xs
unfolding IsStrictlySortedBy
sorted_front [] ys s = tt
sorted_front (x ∷ xs) ys s = (all_front (λ y. key_cmp x y ≡ Less) xs ys s.0, sorted_front xs ys s.1)

not_in_front : (xs : List EventKey) (k : EventKey) (ys : List EventKey) → IsStrictlySortedBy key_cmp (xs ++ k ∷ ys) → list_any (is_key k) xs ≡ false
unfolding IsStrictlySortedBy
not_in_front [] k ys s = refl
not_in_front (x ∷ xs) k ys s = neither (is_key k x) (list_any (is_key k) xs) (key_laws.symm k x ∙ ap is_eq (all_middle (λ y. key_cmp x y ≡ Less) xs k ys s.0)) (not_in_front xs k ys s.1)
  where
    neither : (a b : Bool) → a ≡ false → b ≡ false → (a || b) ≡ false
    neither a b e f = cc

pub keys_append : (xs ys : List (EventKey × Group)) → keys_of (xs ++ ys) ≡ keys_of xs ++ keys_of ys
keys_append [] ys = refl
keys_append (x ∷ xs) ys = ap (λ ks. x.0 ∷ ks) (keys_append xs ys)

own_keys : (k : EventKey) (records : List Record) → AllByRecursion (λ r. is_key k r.key ≡ true) (group_of k records)
own_keys k [] = tt
own_keys k (r ∷ records) = with_first (is_key k r.key) refl (own_keys k records)
  where
    with_first : (b : Bool) → is_key k r.key ≡ b → AllByRecursion (λ x. is_key k x.key ≡ true) (group_of k records) → AllByRecursion (λ x. is_key k x.key ≡ true) (cond b (r ∷ group_of k records) (group_of k records))
    with_first true e a = (e, a)
    with_first false e a = a

sorted_none : IsStrictlySortedBy key_cmp []
unfolding IsStrictlySortedBy
sorted_none = tt

module _ (limits : Limits) where
  run_all : (es done : List (EventKey × Group)) (T U : ℕ) (c d : JoinClock) (t s : Joining)
      → StandsFor limits (joiner es U d limits) s → ((k : EventKey) → HeldInTurn limits c.seen [] (group_of k s.waiting))
      → IsStrictlySortedBy key_cmp (keys_of (done ++ es)) → StandsFor limits (joiner done T c limits) t
      → StandsFor limits (joiner (done ++ es) (T + text_of s.waiting) c limits) (entered limits t (put_back es))
  run_all [] done T U c d t s stands sound sorted made =
      let empty : s.waiting ≡ [] = least_none s.waiting (no_least stands refl (least_key s.waiting) refl) in
      at_view (same_total (done ++ []) done c limits (T + text_of s.waiting) T (append-nil done) (ap (λ (rs : List Record). T + text_of rs) empty ∙ omega arith)) made
    where
      same_total : (xs ys : List (EventKey × Group)) (c : JoinClock) (limits : Limits) (n m : ℕ) → xs ≡ ys → n ≡ m → joiner xs n c limits ≡ joiner ys m c limits
      same_total xs ys c limits n m e f = cc
  run_all (e ∷ es) done T U c d t s stands sound sorted made =
      let first = first_is stands e es refl in
      let records : group_of e.0 s.waiting ≡ e.1.records = ap (λ (g : Group). g.records) first.1 in
      let some : e.1.records ≢ [] = λ z. true≢false (sym first.0 ∙ sym (waits_own e.0 s.waiting) ∙ ap (waits e.0) (records ∙ z)) in
      let keyed = subst (λ (rs : List Record). AllByRecursion (λ r. is_key e.0 r.key ≡ true) rs) records (own_keys e.0 s.waiting) in
      let held = subst (λ (rs : List Record). HeldInTurn limits c.seen [] rs) records (sound e.0) in
      let none : lookup (is_key e.0) done ≡ None = not_some (lookup (is_key e.0) done)
      (sym (has_entry e.0 done) ∙ not_in_front (keys_of done) e.0 (keys_of es) (subst (λ ks. IsStrictlySortedBy key_cmp ks) (keys_append done (e ∷ es)) sorted)) in
      let moved = append_assoc done (e ∷ []) es in
      let sorted_moved : IsStrictlySortedBy key_cmp (keys_of ((done ++ e ∷ []) ++ es)) = subst (λ (xs : List (EventKey × Group)). IsStrictlySortedBy key_cmp (keys_of xs)) (sym moved) sorted in
      let sorted_group = sorted_front (keys_of (done ++ e ∷ [])) (keys_of es) (subst (λ ks. IsStrictlySortedBy key_cmp ks) (keys_append (done ++ e ∷ []) es) sorted_moved) in
      let group = group_run limits done e.0 e.1.closed e.1.records T c t none sorted_group some keyed held made in
      let back : List Record = e.1.records ++ cond e.1.closed (closing e.0 e.1.records) [] in
      let all = run_all es (done ++ e ∷ []) (T + text_of e.1.records) _ c _ (entered limits t back) (without s e.0) (released_stands stands e es refl)
      (λ k. by_test (is_key e.0 k)
      (λ same. subst (λ (rs : List Record). HeldInTurn limits c.seen [] rs) (sym (at_apart (λ (r : Record). r.key) is_key key_laws e.0 k s.waiting ∙ on_true _ _ _ same)) tt)
      (λ other. subst (λ (rs : List Record). HeldInTurn limits c.seen [] rs) (sym (at_apart (λ (r : Record). r.key) is_key key_laws e.0 k s.waiting ∙ on_false _ _ _ other)) (sound k)))
      sorted_moved group in
      let both = sum_by-filter_both (λ (r : Record). is_key e.0 r.key) (λ r. not (is_key e.0 r.key)) (λ _. refl) (λ r. length r.line) s.waiting in
      let own : text_of (group_of e.0 s.waiting) ≡ text_of e.1.records = ap text_of records in
      let total : T + text_of s.waiting ≡ T + text_of e.1.records + text_of (without s e.0).waiting = totals T (text_of s.waiting) (text_of (group_of e.0 s.waiting)) (text_of e.1.records) (text_of (without s e.0).waiting) both own in
      subst (λ (u : Joining). StandsFor limits (joiner (done ++ e ∷ es) (T + text_of s.waiting) c limits) u) (sym (entered_append limits t back (put_back es)))
      (at_view (same_total (done ++ e ∷ es) ((done ++ e ∷ []) ++ es) c limits _ _ (sym moved) total) all)
    where
      same_total : (xs ys : List (EventKey × Group)) (c : JoinClock) (limits : Limits) (n m : ℕ) → xs ≡ ys → n ≡ m → joiner xs n c limits ≡ joiner ys m c limits
      same_total xs ys c limits n m e f = cc

      totals : (t a g h w : ℕ) → g + w ≡ a → g ≡ h → t + a ≡ t + h + w
      totals t a g h w e f = omega arith

  -- the law
  pub made_again : (s : Joining) (join again : Joiner) → IsSound limits s → StandsFor limits join s
      → StandsFor limits again (entered limits (fresh s.clock) (put_back join.groups)) → StandsFor limits again s
  made_again s join again sound stands made =
      let fresh_stands : StandsFor limits (joiner [] 0 s.clock limits) (fresh s.clock) = record {
        ascend = sorted_none;
        each = λ k. refl;
        closed_wait = λ k w. refl;
        text = refl;
        clock = refl;
        limits_are = refl;
      } in
      let full = run_all join.groups [] 0 join.text s.clock join.clock (fresh s.clock) s
      (at_view (ap (λ (l : Limits). joiner join.groups join.text join.clock l) (sym stands.limits_are)) stands) sound stands.ascend fresh_stands in
      record {
        ascend = made.ascend;
        each = λ q. made.each q ∙ sym (full.each q) ∙ stands.each q;
        closed_wait = stands.closed_wait;
        text = made.text ∙ sym full.text ∙ zero_first (text_of s.waiting);
        clock = made.clock ∙ sym full.clock;
        limits_are = made.limits_are;
      }
    where
      zero_first : (n : ℕ) → 0 + n ≡ n
      zero_first n = omega arith
