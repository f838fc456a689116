-- Records, lines and groups that are taken in again, one after the other.
use Rattle.std.proofs.Common.{◌≡◌, ◌≢◌, ◌≤◌, ◌<◌, ◌+◌, ◌∙◌, sym, refl, ap, subst, ℕ, suc, Bool, true, false, cond, List, [], ◌∷◌, ◌++◌, length, map, take, drop, get_or, zero, inl, inr, append_assoc, append-nil, arith}
use Rattle.std.specs.Prelude.{Option, None, Some, ◌||◌, ◌==◌, ⊤, nat_lt, if◌then◌else◌, is_some}
use Rattle.std.specs.List.{flat_map, AllByRecursion}
use Rattle.std.specs.Option.{option_map, option_to_list}
use Rattle.std.specs.Set.{unique_keys, is_member, distinct_count}
use Rattle.std.proofs.lemmas.Bool.{true≢false, eqb-true, ltb-true, lt-ltb}
use Rattle.std.proofs.lemmas.List.Elements.{filter-append}
use Rattle.std.proofs.lemmas.List.Sums.{sum_by-append, fold-append}
use Rattle.std.proofs.lemmas.Grind.{flat_map-append}
use Rattle.flow_base.specs.declared.limits.Limits.{Limits}
use Rattle.audit_lex.specs.declared.header.EventKey.{EventKey}
use Rattle.audit_record.specs.declared.types.Record.{Record}
use Rattle.record_join.specs.Keys.{key_cmp, is_key, is_below, ends_event}
use Rattle.record_join.specs.Events.{Joining, group_of, waits, is_among, is_past, is_excess, seen_time, saw, put, enter, taken_as, least_key, lesser_key, only_ripe, ripe_key, is_ripe_at, count_keys, text_of}
use Rattle.record_join.specs.PutBack.{HeldInTurn, IsSound, fresh}
use Rattle.record_join.specs.StandsFor.{Joiner, StandsFor}
use Rattle.record_join.specs.declared.clock.JoinClock.{JoinClock}
use Rattle.record_join.specs.declared.event.Taken.TheVariants.{Held, Closed, Excess}
use Rattle.std.specs.Cmp.{IsTotalOrder, IsEquivalence, nat_cmp_total, on_total, then_total, eq_by_cmp_equiv}
use Rattle.std.proofs.lemmas.Bool.Decides.{nat_tests}
use Rattle.stored.specs.Reading.{records_of, clock_of}
use Rattle.stored.specs.Batch.{Ascends, IsKeyBefore}
use Rattle.stored.specs.Words.{Group, group_in, groups_of}
use Rattle.row_codec.specs.declared.rows.StoreRow.{StoreRow}
use Rattle.row_codec.specs.declared.state.StateRow.{StateRow}
use Rattle.audit_lex.specs.LineClass.{Used, class_of}
use Rattle.audit_lex.specs.declared.fields.Kind.{Kind}
use Rattle.ingest.specs.LineRecords.{record_of}
use Rattle.ingest.proofs.Reading.{used_class}
use Rattle.audit_record.specs.declared.types.Body.TheVariants.{Eoe}
use Rattle.ingest.specs.Waiting.{PutRecords, PutLines, PutGroups, Closes, AscendByKey, AreSoundWaiting, waiting_by, with_records, with_group, with_groups, IsLineOf, HasOwnLines, IsSoundFor, Leads, FirstIsLeast, IsHopeless}

-- ---- keys

key_cmp_total : IsTotalOrder key_cmp
key_cmp_total = then_total (on_total (λ (k : EventKey). k.ms) nat_cmp_total) (on_total (λ (k : EventKey). k.serial) nat_cmp_total)

pub key_laws : IsEquivalence is_key
key_laws = eq_by_cmp_equiv key_cmp_total

ms_same : (a b : EventKey) → is_key a b ≡ true → a.ms ≡ b.ms
ms_same a b e = grind (arith, nat_tests, e)

serial_same : (a b : EventKey) → is_key a b ≡ true → a.serial ≡ b.serial
serial_same a b e = grind (arith, nat_tests, e)

pub one_key : (a b : EventKey) → is_key a b ≡ true → a ≡ b
one_key a b e = λ i. record { ms = ms_same a b e i; serial = serial_same a b e i }

pub by_test : {P : Type 0} (b : Bool) → (b ≡ true → P) → (b ≡ false → P) → P
by_test true f g = f refl
by_test false f g = g refl

pub on_true : {A : Type 0} (b : Bool) (x y : A) → b ≡ true → cond b x y ≡ x
on_true b x y e = ap (λ v. cond v x y) e

pub on_false : {A : Type 0} (b : Bool) (x y : A) → b ≡ false → cond b x y ≡ y
on_false b x y e = ap (λ v. cond v x y) e

-- ---- the least key

abbrev pub IsNotBelow : EventKey → Option EventKey → Type 0
IsNotBelow k None = ⊤
IsNotBelow k (Some m) = is_below m k ≡ false

lesser_not_below : (k x : EventKey) (o : Option EventKey) → is_below x k ≡ false → IsNotBelow k o → is_below (lesser_key x o) k ≡ false
lesser_not_below k x None e n = e
lesser_not_below k x (Some m) e n = by (is_below m x)
  where
    by : (b : Bool) → is_below (cond b m x) k ≡ false
    by true = n
    by false = e

pub least_not_below : (k : EventKey) (rs : List Record) → AllByRecursion (λ x. is_below x.key k ≡ false) rs → IsNotBelow k (least_key rs)
least_not_below k [] all = tt
least_not_below k (r ∷ rs) all = lesser_not_below k r.key (least_key rs) all.0 (least_not_below k rs all.1)

pub stays_least : (k : EventKey) (o : Option EventKey) → IsNotBelow k o → lesser_key k o ≡ k
stays_least k None n = refl
stays_least k (Some m) n = on_false (is_below m k) m k n

-- the first record has the least key
least_first : (r : Record) (rs : List Record) → FirstIsLeast (r ∷ rs) → least_key (r ∷ rs) ≡ Some r.key
least_first r rs least = ap Some (stays_least r.key (least_key rs) (least_not_below r.key rs least))

all_front : {A : Type 0} (P : A → Type 0) (xs ys : List A) → AllByRecursion P (xs ++ ys) → AllByRecursion P xs
all_front P [] ys a = tt
all_front P (x ∷ xs) ys a = (a.0, all_front P xs ys a.1)

-- ---- how many keys

member_more : (xs : List EventKey) (y x : EventKey) → is_member is_key (xs ++ y ∷ []) x ≡ (is_member is_key xs x || is_key x y)
member_more [] y x = or_none (is_key x y)
  where
    or_none : (b : Bool) → (b || false) ≡ b
    or_none true = refl
    or_none false = refl
member_more (z ∷ xs) y x = ap (λ b. is_key x z || b) (member_more xs y x) ∙ assoc (is_key x z) (is_member is_key xs x) (is_key x y)
  where
    assoc : (a b c : Bool) → (a || (b || c)) ≡ ((a || b) || c)
    assoc true b c = refl
    assoc false b c = refl

abbrev count : List EventKey → ℕ
count xs = distinct_count is_key xs

or_no : (a b : Bool) → (a || b) ≡ false → (a ≡ false) × (b ≡ false)
or_no true b e = absurd (true≢false e)
or_no false b e = (refl, e)

-- a key that isn't there counts
new_counts : (xs : List EventKey) (y : EventKey) → is_member is_key xs y ≡ false → count (xs ++ y ∷ []) ≡ suc (count xs)
new_counts [] y e = refl
new_counts (x ∷ xs) y e =
    let parts = or_no (is_key y x) (is_member is_key xs y) e in
    let apart : is_key x y ≡ false = key_laws.symm x y ∙ parts.0 in
    let ih = new_counts xs y parts.1 in
    by (is_member is_key xs x) (is_member is_key (xs ++ y ∷ []) x) (member_more xs y x ∙ ap (λ b. is_member is_key xs x || b) apart) ih
  where
    by : (a b : Bool) → b ≡ (a || false) → count (xs ++ y ∷ []) ≡ suc (count xs) → length (cond b (unique_keys is_key (xs ++ y ∷ [])) (x ∷ unique_keys is_key (xs ++ y ∷ []))) ≡ suc (length (cond a (unique_keys is_key xs) (x ∷ unique_keys is_key xs)))
    by true true e ih = ih
    by true false e ih = absurd (true≢false (sym e))
    by false true e ih = absurd (true≢false e)
    by false false e ih = ap suc ih

-- one more key leaves no fewer
one_more_counts : (xs : List EventKey) (y : EventKey) → count xs ≤ count (xs ++ y ∷ [])
one_more_counts [] y = omega arith
one_more_counts (x ∷ xs) y =
    by (is_member is_key xs x) (is_key x y) (is_member is_key (xs ++ y ∷ []) x) refl refl (member_more xs y x) (one_more_counts xs y)
  where
    by : (a d b : Bool) → is_member is_key xs x ≡ a → is_key x y ≡ d → b ≡ (is_member is_key xs x || is_key x y) → count xs ≤ count (xs ++ y ∷ [])
        → length (cond a (unique_keys is_key xs) (x ∷ unique_keys is_key xs)) ≤ length (cond b (unique_keys is_key (xs ++ y ∷ [])) (x ∷ unique_keys is_key (xs ++ y ∷ [])))
    by true d true m s e ih = ih
    by true d false m s e ih = absurd (true≢false (sym (e ∙ ap (λ q. q || is_key x y) m)))
    by false false false m s e ih = omega (arith, ih)
    by false false true m s e ih = absurd (true≢false (e ∙ ap (λ q. q || is_key x y) m ∙ s))
    by false true false m s e ih = omega (arith, ih)
    by false true true m s e ih =
        let new = new_counts xs y (ap (is_member is_key xs) (sym (one_key x y s)) ∙ m) in
        omega (arith, new)

more_count : (xs ys : List EventKey) → count xs ≤ count (xs ++ ys)
more_count xs [] = subst (λ l. count xs ≤ count l) (sym (append-nil xs)) (omega arith)
more_count xs (y ∷ ys) =
    let one = one_more_counts xs y in
    let rest = more_count (xs ++ y ∷ []) ys in
    let moved = ap count (append_assoc xs (y ∷ []) ys) in
    omega (arith, one, rest, moved)

map_more : (xs ys : List Record) → map (λ (r : Record). r.key) (xs ++ ys) ≡ map (λ (r : Record). r.key) xs ++ map (λ (r : Record). r.key) ys
map_more [] ys = refl
map_more (x ∷ xs) ys = ap (λ l. x.key ∷ l) (map_more xs ys)

keys_grow : (xs ys : List Record) → count_keys xs ≤ count_keys (xs ++ ys)
keys_grow xs ys = subst (λ l. count_keys xs ≤ count l) (sym (map_more xs ys)) (more_count (map (λ (r : Record). r.key) xs) (map (λ (r : Record). r.key) ys))

text_grows : (xs ys : List Record) → text_of xs ≤ text_of (xs ++ ys)
text_grows xs ys = omega (arith, sum_by-append (λ (r : Record). length r.line) xs ys)

-- ---- what is ripe stays ripe

less_more : (a b c : ℕ) → b ≤ c → nat_lt a b ≡ true → nat_lt a c ≡ true
less_more a b c le e = let lt = ltb-true a b e in lt-ltb a c (omega (arith, lt, le))

or_up : (a b c d : Bool) → (a ≡ true → c ≡ true) → (b ≡ true → d ≡ true) → (a || b) ≡ true → (c || d) ≡ true
or_up true b c d f g e = ap (λ q. q || d) (f refl)
or_up false b true d f g e = refl
or_up false b false d f g e = g e

-- what makes the least group ripe goes on to do so
ripe_stays : (limits : Limits) (s t : Joining) (k : EventKey) → Leads s t → is_ripe_at limits s k ≡ true → is_ripe_at limits t k ≡ true
ripe_stays limits s t k leads =
    or_up _ (nat_lt limits.text (text_of s.waiting)) _ (nat_lt limits.text (text_of t.waiting))
    (or_up _ (nat_lt limits.groups (count_keys s.waiting)) _ (nat_lt limits.groups (count_keys t.waiting))
    (or_up (is_among k s.closed) (is_past s.clock.seen k.ms) (is_among k t.closed) (is_past t.clock.seen k.ms) (leads.closed k)
    (λ e. ap (λ (c : JoinClock). is_past c.seen k.ms) leads.clock ∙ e))
    (less_more limits.groups (count_keys s.waiting) (count_keys t.waiting) (subst (λ (rs : List Record). count_keys s.waiting ≤ count_keys rs) (sym leads.waiting) (keys_grow s.waiting leads.more))))
    (less_more limits.text (text_of s.waiting) (text_of t.waiting) (subst (λ (rs : List Record). text_of s.waiting ≤ text_of rs) (sym leads.waiting) (text_grows s.waiting leads.more)))

ripe_when : (limits : Limits) (s : Joining) (k m : EventKey) (o : Option EventKey) → o ≡ Some k → only_ripe limits s o ≡ Some m → is_ripe_at limits s k ≡ true
ripe_when limits s k m o e f = by_test (is_ripe_at limits s k) (λ is. is)
    (λ is. absurd (none_some (sym (ap (only_ripe limits s) e ∙ on_false (is_ripe_at limits s k) (Some k) None is) ∙ f)))
  where
    none_some : None ≡ Some m → ⊥
    none_some z = cc

when_ripe : (limits : Limits) (s : Joining) (k : EventKey) (o : Option EventKey) → o ≡ Some k → is_ripe_at limits s k ≡ true → only_ripe limits s o ≢ None
when_ripe limits s k o e is none = some_none (sym (ap (only_ripe limits s) e ∙ on_true (is_ripe_at limits s k) (Some k) None is) ∙ none)
  where
    some_none : Some k ≡ None → ⊥
    some_none z = cc

ripe_by : (limits : Limits) (s t : Joining) (before : List Record) (m : EventKey) → s.waiting ≡ before → Leads s t → FirstIsLeast t.waiting → ripe_key limits s ≡ Some m → ripe_key limits t ≢ None
ripe_by limits s t [] m is leads least ripe none = none_some (sym (ap (λ (rs : List Record). only_ripe limits s (least_key rs)) is) ∙ ripe)
  where
    none_some : None ≡ Some m → ⊥
    none_some z = cc
ripe_by limits s t (r ∷ rs) m is leads least ripe none =
    let whole : t.waiting ≡ r ∷ (rs ++ leads.more) = leads.waiting ∙ ap (λ (l : List Record). l ++ leads.more) is in
    let all : FirstIsLeast (r ∷ (rs ++ leads.more)) = subst FirstIsLeast whole least in
    let first : least_key s.waiting ≡ Some r.key = ap least_key is ∙ least_first r rs (all_front (λ (x : Record). is_below x.key r.key ≡ false) rs leads.more all) in
    let later : least_key t.waiting ≡ Some r.key = ap least_key whole ∙ least_first r (rs ++ leads.more) all in
    when_ripe limits t r.key (least_key t.waiting) later
    (ripe_stays limits s t r.key leads (ripe_when limits s r.key m (least_key s.waiting) first ripe)) none

some_is : (o : Option EventKey) → is_some o ≡ true → (m : EventKey) × (o ≡ Some m)
some_is None e = absurd (true≢false (sym e))
some_is (Some m) e = (m, refl)

-- where an event is ripe, nothing that follows is sound with its least group unripe
pub ripe_is_hopeless : (limits : Limits) (s : Joining) → is_some (ripe_key limits s) ≡ true → IsHopeless limits s
ripe_is_hopeless limits s e t leads least sound =
    let some = some_is (ripe_key limits s) e in
    ripe_by limits s t s.waiting some.0 refl leads least some.1

-- ---- one leads to another

pub leads_through : (s t u : Joining) → Leads s t → Leads t u → Leads s u
leads_through s t u a b = record {
  more = a.more ++ b.more;
  waiting = b.waiting ∙ ap (λ (l : List Record). l ++ b.more) a.waiting ∙ append_assoc s.waiting a.more b.more;
  closed = λ k e. b.closed k (a.closed k e);
  clock = b.clock ∙ a.clock;
}

pub leads_itself : (s : Joining) → Leads s s
leads_itself s = record { more = []; waiting = sym (append-nil s.waiting); closed = λ k e. e; clock = refl }

pub leads_records : (s : Joining) (records : List Record) → Leads s (with_records s records)
leads_records s records = record { more = records; waiting = refl; closed = λ k e. e; clock = refl }

pub leads_group : (limit : ℕ) (s : Joining) (e : EventKey × Group) → Leads s (with_group limit s e)
leads_group limit s e = record {
  more = records_of (record_of limit) e.1.lines;
  waiting = refl;
  closed = λ k is. by e.1.closed k is;
  clock = refl;
}
  where
    by : (b : Bool) (k : EventKey) → is_among k s.closed ≡ true → is_among k (cond b (e.0 ∷ s.closed) s.closed) ≡ true
    by true k is = or_last (is_key k e.0) (is_among k s.closed) is
      where
        or_last : (a b : Bool) → b ≡ true → (a || b) ≡ true
        or_last true b e = refl
        or_last false b e = e
    by false k is = is

pub leads_groups : (limit : ℕ) (s : Joining) (groups : List (EventKey × Group)) → Leads s (with_groups limit s groups)
leads_groups limit s [] = leads_itself s
leads_groups limit s (e ∷ groups) = leads_through s (with_group limit s e) _ (leads_group limit s e) (leads_groups limit (with_group limit s e) groups)

-- what follows something hopeless is hopeless
pub still_hopeless : (limits : Limits) (s t : Joining) → Leads s t → IsHopeless limits s → IsHopeless limits t
still_hopeless limits s t leads none u more least sound = none u (leads_through s t u leads more) least sound

-- ---- one record

abbrev pub MayEnter : Limits → Joining → Record → Type 0
MayEnter limits s r = (ends_event r ≡ false) × (is_excess limits (group_of r.key s.waiting) r ≡ false) × (seen_time s.clock.seen r.key.ms ≡ s.clock.seen)

split_held : (limits : Limits) (seen : Option ℕ) (before xs ys : List Record) (r : Record) → HeldInTurn limits seen before (xs ++ r ∷ ys)
    → (ends_event r ≡ false) × (is_excess limits (before ++ xs) r ≡ false) × (seen_time seen r.key.ms ≡ seen)
split_held limits seen before [] ys r held = (held.0, subst (λ (rs : List Record). is_excess limits rs r ≡ false) (sym (append-nil before)) held.1, held.2)
split_held limits seen before (x ∷ xs) ys r held =
    let rest = split_held limits seen (before ++ x ∷ []) xs ys r held.3 in
    (rest.0, subst (λ (rs : List Record). is_excess limits rs r ≡ false) (append_assoc before (x ∷ []) xs) rest.1, rest.2)

-- what led to something sound could enter
pub could_enter : (limits : Limits) (s t : Joining) (r : Record) → Leads (with_records s (r ∷ [])) t → IsSound limits t → MayEnter limits s r
could_enter limits s t r leads sound =
    let whole : t.waiting ≡ s.waiting ++ r ∷ leads.more = leads.waiting ∙ append_assoc s.waiting (r ∷ []) leads.more in
    let group : group_of r.key t.waiting ≡ group_of r.key s.waiting ++ r ∷ group_of r.key leads.more =
    ap (group_of r.key) whole ∙ filter-append (λ (x : Record). is_key r.key x.key) s.waiting (r ∷ leads.more)
    ∙ ap (λ (rs : List Record). group_of r.key s.waiting ++ rs) (on_true (is_key r.key r.key) (r ∷ group_of r.key leads.more) (group_of r.key leads.more) (key_laws.refl r.key)) in
    let held = subst (λ (c : JoinClock). HeldInTurn limits c.seen [] (group_of r.key t.waiting)) leads.clock (sound r.key) in
    split_held limits s.clock.seen [] (group_of r.key s.waiting) (group_of r.key leads.more) r (subst (HeldInTurn limits s.clock.seen []) group held)

-- one that couldn't enter is hopeless
pub no_entry : (limits : Limits) (s : Joining) (r : Record) → (MayEnter limits s r → ⊥) → IsHopeless limits (with_records s (r ∷ []))
no_entry limits s r never t leads least sound none = never (could_enter limits s t r leads sound)

held_push : (limits : Limits) (seen : Option ℕ) (before records : List Record) (r : Record) → HeldInTurn limits seen before records
    → ends_event r ≡ false → is_excess limits (before ++ records) r ≡ false → seen_time seen r.key.ms ≡ seen → HeldInTurn limits seen before (records ++ r ∷ [])
held_push limits seen before [] r h e f g = (e, ap (λ (rs : List Record). is_excess limits rs r) (sym (append-nil before)) ∙ f, g, tt)
held_push limits seen before (x ∷ records) r h e f g =
    (h.0, h.1, h.2, held_push limits seen (before ++ x ∷ []) records r h.3 e (ap (λ (rs : List Record). is_excess limits rs r) (append_assoc before (x ∷ []) records) ∙ f) g)

-- one that may enter leaves each group sound
pub sound_more : (limits : Limits) (s : Joining) (r : Record) → MayEnter limits s r → IsSound limits s → IsSound limits (with_records s (r ∷ []))
sound_more limits s r may sound k =
    subst (HeldInTurn limits s.clock.seen []) (sym (filter-append (λ (x : Record). is_key k x.key) s.waiting (r ∷ [])))
    (by_test (is_key k r.key)
    (λ same. subst (λ (rs : List Record). HeldInTurn limits s.clock.seen [] (group_of k s.waiting ++ rs)) (sym (on_true (is_key k r.key) (r ∷ []) [] same))
    (held_push limits s.clock.seen [] (group_of k s.waiting) r (sound k) may.0
    (ap (λ (z : EventKey). is_excess limits (group_of z s.waiting) r) (one_key k r.key same) ∙ may.1) may.2))
    (λ other. subst (HeldInTurn limits s.clock.seen []) (sym (ap (λ (rs : List Record). group_of k s.waiting ++ rs) (on_false (is_key k r.key) (r ∷ []) [] other) ∙ append-nil (group_of k s.waiting))) (sound k)))

seen_same : (c : JoinClock) (ms : ℕ) → seen_time c.seen ms ≡ c.seen → saw c ms ≡ c
seen_same c ms e = λ i. record { seen = e i; released = c.released; effective = c.effective }

-- and is put last
pub enters : (limits : Limits) (s : Joining) (r : Record) → MayEnter limits s r → enter limits s r ≡ with_records s (r ∷ [])
enters limits s r may =
    on_false (ends_event r) _ _ may.0
    ∙ on_false (is_excess limits (group_of r.key s.waiting) r) _ _ may.1
    ∙ ap (λ (c : JoinClock). record { waiting = s.waiting ++ r ∷ []; closed = s.closed; clock = c; excess = s.excess }) (seen_same s.clock r.key.ms may.2)

held_so : (a b : Bool) → cond a Closed (cond b Excess Held) ≡ Held → (a ≡ false) × (b ≡ false)
held_so true b e = absurd (apart e)
  where
    apart : Closed ≡ Held → ⊥
    apart z = cc
held_so false true e = absurd (apart e)
  where
    apart : Excess ≡ Held → ⊥
    apart z = cc
held_so false false e = (refl, refl)

-- a record that was held could enter
pub held_enters : (limits : Limits) (s : Joining) (r : Record) → taken_as limits s r ≡ Held → seen_time s.clock.seen r.key.ms ≡ s.clock.seen → MayEnter limits s r
held_enters limits s r e seen =
    let both = held_so (ends_event r) (is_excess limits (group_of r.key s.waiting) r) e in
    (both.0, both.1, seen)

-- and one that could enter is held
pub enters_held : (limits : Limits) (s : Joining) (r : Record) → MayEnter limits s r → taken_as limits s r ≡ Held
enters_held limits s r may = on_false (ends_event r) _ _ may.0 ∙ on_false (is_excess limits (group_of r.key s.waiting) r) _ _ may.1

-- ---- one end

seen_of_group : (limits : Limits) (seen : Option ℕ) (key : EventKey) (before rs : List Record) → waits key rs ≡ true → HeldInTurn limits seen before (group_of key rs) → seen_time seen key.ms ≡ seen
seen_of_group limits seen key before [] there held = absurd (true≢false (sym there))
seen_of_group limits seen key before (r ∷ rs) there held = by_test (is_key key r.key)
    (λ same. subst (λ (z : EventKey). seen_time seen z.ms ≡ seen) (sym (one_key key r.key same))
    (subst (HeldInTurn limits seen before) (on_true (is_key key r.key) (r ∷ group_of key rs) (group_of key rs) same) held).2)
    (λ other. seen_of_group limits seen key before rs (ap (λ b. b || waits key rs) (sym other) ∙ there)
    (subst (HeldInTurn limits seen before) (on_false (is_key key r.key) (r ∷ group_of key rs) (group_of key rs) other) held))

-- the time of a group that waits and is sound was seen
pub waiting_seen : (limits : Limits) (s : Joining) (key : EventKey) → waits key s.waiting ≡ true → IsSound limits s → saw s.clock key.ms ≡ s.clock
waiting_seen limits s key there sound = seen_same s.clock key.ms (seen_of_group limits s.clock.seen key [] s.waiting there (sound key))

pub ends_again : (limits : Limits) (s : Joining) (key : EventKey) (line : List ℕ) → waits key s.waiting ≡ true → IsSound limits s
    → enter limits s (record { key = key; line = line; body = Eoe }) ≡ record s { closed = key ∷ s.closed }
ends_again limits s key line there sound =
    on_true (waits key s.waiting) _ _ there
    ∙ ap (λ (c : JoinClock). record { waiting = s.waiting; closed = key ∷ s.closed; clock = c; excess = s.excess }) (waiting_seen limits s key there sound)

-- an end closes a group that waits, and changes nothing else
pub closed_again : (limits : Limits) (join : Joiner) (s : Joining) (key : EventKey) (line : List ℕ) → waits key s.waiting ≡ true → IsSound limits s
    → StandsFor limits join (enter limits s (record { key = key; line = line; body = Eoe })) → IsSoundFor limits join (record s { closed = key ∷ s.closed })
closed_again limits join s key line there sound stands =
    record { stands = subst (StandsFor limits join) (ends_again limits s key line there sound) stands; sound = sound }

-- ---- lines

same_records : (s : Joining) (a b : List Record) → a ≡ b → ◌≡◌ {A = Joining} (record { waiting = a; closed = s.closed; clock = s.clock; excess = s.excess }) (record { waiting = b; closed = s.closed; clock = s.clock; excess = s.excess })
same_records s a b e = ap (λ (rs : List Record). record { waiting = rs; closed = s.closed; clock = s.clock; excess = s.excess }) e

pub with_none : (s : Joining) → with_records s [] ≡ s
with_none s = same_records s (s.waiting ++ []) s.waiting (append-nil s.waiting)

pub with_both : (s : Joining) (xs ys : List Record) → with_records (with_records s xs) ys ≡ with_records s (xs ++ ys)
with_both s xs ys = same_records s ((s.waiting ++ xs) ++ ys) (s.waiting ++ (xs ++ ys)) (append_assoc s.waiting xs ys)

module _ (limits : Limits) (key : EventKey) where
  abbrev read_all : List (List ℕ) → List Record
  read_all lines = records_of (record_of limits.line) lines

  read_both : (xs ys : List (List ℕ)) → read_all (xs ++ ys) ≡ read_all xs ++ read_all ys
  read_both xs ys = flat_map-append (λ l. option_to_list (record_of limits.line l)) xs ys

  pub no_lines : (join : Joiner) → PutLines true limits key [] join join
  no_lines join = (tt, λ s good. subst (IsSoundFor limits join) (sym (with_none s)) good)

  all_both : {A : Type 0} (P : A → Type 0) (xs ys : List A) → AllByRecursion P xs → AllByRecursion P ys → AllByRecursion P (xs ++ ys)
  all_both P [] ys a b = b
  all_both P (x ∷ xs) ys a b = (a.0, all_both P xs ys a.1 b)

  all_back : {A : Type 0} (P : A → Type 0) (xs ys : List A) → AllByRecursion P (xs ++ ys) → AllByRecursion P ys
  all_back P [] ys a = a
  all_back P (x ∷ xs) ys a = all_back P xs ys a.1

  pub lines_more : (xs ys : List (List ℕ)) (a b c : Joiner) → PutLines true limits key xs a b → PutLines true limits key ys b c → PutLines true limits key (xs ++ ys) a c
  lines_more xs ys a b c one two = (
    all_both (IsLineOf limits.line key) xs ys one.0 two.0,
    λ s good.
        subst (IsSoundFor limits c) (with_both s (read_all xs) (read_all ys) ∙ same_records s _ _ (ap (λ (l : List Record). s.waiting ++ l) (sym (read_both xs ys))))
        (two.1 (with_records s (read_all xs)) (one.1 s good)),
  )

  pub lines_fail : (xs ys zs : List (List ℕ)) (a b c : Joiner) → PutLines true limits key xs a b → PutLines false limits key ys b c → PutLines false limits key (xs ++ (ys ++ zs)) a c
  lines_fail xs ys zs a b c one two own s good =
      let some : AllByRecursion (IsLineOf limits.line key) ys = all_front (IsLineOf limits.line key) ys zs (all_back (IsLineOf limits.line key) xs (ys ++ zs) own) in
      let t : Joining = with_records (with_records s (read_all xs)) (read_all ys) in
      let whole : with_records t (read_all zs) ≡ with_records s (read_all (xs ++ (ys ++ zs))) =
      with_both (with_records s (read_all xs)) (read_all ys) (read_all zs) ∙ with_both s (read_all xs) (read_all ys ++ read_all zs)
      ∙ same_records s _ _ (ap (λ (l : List Record). s.waiting ++ l) (ap (λ (l : List Record). read_all xs ++ l) (sym (read_both ys zs)) ∙ sym (read_both xs (ys ++ zs)))) in
      subst (IsHopeless limits) whole
      (still_hopeless limits t (with_records t (read_all zs)) (leads_records t (read_all zs)) (two some (with_records s (read_all xs)) (one.1 s good)))

  -- a line that is the record's
  read_one : (line : List ℕ) (r : Record) → record_of limits.line line ≡ Some r → r ∷ [] ≡ read_all (line ∷ [])
  read_one line r e = sym (ap (λ (o : Option Record). option_to_list o ++ []) e)

  pub line_put : (put : Bool) (line : List ℕ) (r : Record) (a b : Joiner) → IsLineOf limits.line key line → record_of limits.line line ≡ Some r → PutRecords put limits (r ∷ []) a b → PutLines put limits key (line ∷ []) a b
  line_put true line r a b own e done = ((own, tt), subst (λ (rs : List Record). PutRecords true limits rs a b) (read_one line r e) done)
  line_put false line r a b own e done = λ all. subst (λ (rs : List Record). PutRecords false limits rs a b) (read_one line r e) done

-- ---- at a place

split_at : {A : Type 0} (xs : List A) (i : ℕ) (x : A) → i < length xs → x ≡ get_or xs i x → xs ≡ take i xs ++ (x ∷ drop (suc i) xs)
split_at [] i x h e = absurd (omega (arith, h))
split_at (y ∷ xs) zero x h e = ap (λ z. z ∷ xs) (sym e)
split_at (y ∷ xs) (suc i) x h e = ap (λ l. y ∷ l) (split_at xs i x (omega (arith, h)) e)

take_one_more : {A : Type 0} (xs : List A) (i : ℕ) (x : A) → i < length xs → x ≡ get_or xs i x → take (suc i) xs ≡ take i xs ++ (x ∷ [])
take_one_more [] i x h e = absurd (omega (arith, h))
take_one_more (y ∷ xs) zero x h e = ap (λ z. z ∷ []) (sym e)
take_one_more (y ∷ xs) (suc i) x h e = ap (λ l. y ∷ l) (take_one_more xs i x (omega (arith, h)) e)

one_later : {A : Type 0} (xs : List A) (i : ℕ) (x : A) → i < length xs → x ≡ get_or xs i x → take (i + 1) xs ≡ take i xs ++ (x ∷ [])
one_later xs i x h e = let next : i + 1 ≡ suc i = omega arith in ap (λ n. take n xs) next ∙ take_one_more xs i x h e

pub lines_fail_at : (limits : Limits) (key : EventKey) (lines : List (List ℕ)) (i : ℕ) (item line : List ℕ) (put : Bool) (a b c : Joiner) → i < length lines → item ≡ get_or lines i item → line ≡ item → put ≡ false
    → PutLines true limits key (take i lines) a b → PutLines put limits key (line ∷ []) b c → PutLines false limits key lines a c
lines_fail_at limits key lines i item line put a b c h at same is one two =
    subst (λ (ls : List (List ℕ)). PutLines false limits key ls a c) (sym (split_at lines i item h at))
    (lines_fail limits key (take i lines) (item ∷ []) (drop (suc i) lines) a b c one
    (subst (λ p. PutLines p limits key (item ∷ []) b c) is (subst (λ (l : List ℕ). PutLines put limits key (l ∷ []) b c) same two)))

pub lines_more_at : (limits : Limits) (key : EventKey) (lines : List (List ℕ)) (i : ℕ) (item line : List ℕ) (put : Bool) (a b c : Joiner) → i < length lines → item ≡ get_or lines i item → line ≡ item → put ≡ true
    → PutLines true limits key (take i lines) a b → PutLines put limits key (line ∷ []) b c → PutLines true limits key (take (i + 1) lines) a c
lines_more_at limits key lines i item line put a b c h at same is one two =
    subst (λ (ls : List (List ℕ)). PutLines true limits key ls a c) (sym (one_later lines i item h at))
    (lines_more limits key (take i lines) (item ∷ []) a b c one
    (subst (λ p. PutLines p limits key (item ∷ []) b c) is (subst (λ (l : List ℕ). PutLines put limits key (l ∷ []) b c) same two)))

-- ---- the record of a line

own_at : (key : EventKey) (o : Option Record) → option_map (λ (r : Record). r.key) o ≡ Some key → (r : Record) × (o ≡ Some r) × (r.key ≡ key)
own_at key None e = absurd (none_some e)
  where
    none_some : None ≡ Some key → ⊥
    none_some z = cc
own_at key (Some r) e = (r, refl, inside_key r.key key e)
  where
    inside_key : (a b : EventKey) → Some a ≡ Some b → a ≡ b
    inside_key a b z = cc

same_key : (a b : EventKey) (m n : Kind) → Used a m ≡ Used b n → a ≡ b
same_key a b m n e = cc

-- a line of a key is classed as a used one of it
pub own_used : (limit : ℕ) (key other : EventKey) (kind : Kind) (line : List ℕ) → IsLineOf limit key line → class_of limit line ≡ Used other kind → other ≡ key
own_used limit key other kind line own class =
    let at = own_at key (record_of limit line) own in
    let used = used_class limit line at.0 at.1 in
    same_key other at.0.key kind used.0 (sym class ∙ used.1) ∙ at.2

-- and a used line of a key is one
pub used_own : (limit : ℕ) (key : EventKey) (kind : Kind) (line : List ℕ) (r : Record) → class_of limit line ≡ Used key kind → record_of limit line ≡ Some r → IsLineOf limit key line
used_own limit key kind line r class e =
    let used = used_class limit line r e in
    ap (option_map (λ (x : Record). x.key)) e ∙ ap Some (same_key r.key key used.0 kind (sym used.1 ∙ class))

-- ---- groups

none_long : {A : Type 0} (xs : List A) → (length xs == 0) ≡ true → xs ≡ []
none_long [] e = refl
none_long (x ∷ xs) e = let none = eqb-true (length (x ∷ xs)) 0 e in absurd (omega (arith, none))

some_long : {A : Type 0} (xs : List A) → (length xs == 0) ≡ false → xs ≢ []
some_long [] e z = true≢false e
some_long (x ∷ xs) e z = cc

pub waits_last : (key : EventKey) (xs ys : List Record) → waits key ys ≡ true → waits key (xs ++ ys) ≡ true
waits_last key [] ys e = e
waits_last key (x ∷ xs) ys e = or_last (is_key key x.key) (waits key (xs ++ ys)) (waits_last key xs ys e)
  where
    or_last : (a b : Bool) → b ≡ true → (a || b) ≡ true
    or_last true b e = refl
    or_last false b e = e

same_closed : (s : Joining) (rs : List Record) (a b : List EventKey) → a ≡ b → ◌≡◌ {A = Joining} (record { waiting = rs; closed = a; clock = s.clock; excess = s.excess }) (record { waiting = rs; closed = b; clock = s.clock; excess = s.excess })
same_closed s rs a b e = ap (λ (ks : List EventKey). record { waiting = rs; closed = ks; clock = s.clock; excess = s.excess }) e

module _ (limits : Limits) where
  abbrev pub records_in : List (List ℕ) → List Record
  records_in lines = records_of (record_of limits.line) lines

  pub read_waits : (key : EventKey) (lines : List (List ℕ)) → lines ≢ [] → AllByRecursion (IsLineOf limits.line key) lines → waits key (records_in lines) ≡ true
  read_waits key [] some own = absurd (some refl)
  read_waits key (line ∷ lines) some own =
      let at = own_at key (record_of limits.line line) own.0 in
      ap (λ (o : Option Record). waits key (option_to_list o ++ records_in lines)) at.1
      ∙ ap (λ b. b || waits key (records_in lines)) (ap (is_key key) at.2 ∙ key_laws.refl key)

  abbrev group_at_key : EventKey → Bool → List (List ℕ) → EventKey × Group
  group_at_key key closed lines = (key, record { closed = closed; lines = lines })

  pub group_empty : (key : EventKey) (closed : Bool) (lines : List (List ℕ)) (a b : Joiner) → (length lines == 0) ≡ true → PutGroups false limits (group_at_key key closed lines ∷ []) a b
  group_empty key closed lines a b e own s good = absurd (own.0.some (none_long lines e))

  leads_close : (s : Joining) (key : EventKey) (closed : Bool) (lines : List (List ℕ)) → Leads (with_records s (records_in lines)) (with_group limits.line s (group_at_key key closed lines))
  leads_close s key closed lines = record {
    more = [];
    waiting = sym (append-nil (s.waiting ++ records_in lines));
    closed = (leads_group limits.line s (group_at_key key closed lines)).closed;
    clock = refl;
  }

  pub group_fails : (key : EventKey) (closed : Bool) (lines : List (List ℕ)) (put : Bool) (a b : Joiner) → put ≡ false → PutLines put limits key lines a b → PutGroups false limits (group_at_key key closed lines ∷ []) a b
  group_fails key closed lines put a b is none own s good =
      still_hopeless limits (with_records s (records_in lines)) (with_group limits.line s (group_at_key key closed lines)) (leads_close s key closed lines)
      (subst (λ p. PutLines p limits key lines a b) is none own.0.own s good)

  pub group_open : (key : EventKey) (closed : Bool) (lines : List (List ℕ)) (put : Bool) (a b : Joiner) → closed ≡ false → (length lines == 0) ≡ false → put ≡ true → PutLines put limits key lines a b
      → PutGroups true limits (group_at_key key closed lines ∷ []) a b
  group_open key closed lines put a b shut some is done =
      let all : PutLines true limits key lines a b = subst (λ p. PutLines p limits key lines a b) is done in (
        (record { some = some_long lines some; own = all.0 }, tt),
        λ s good.
            subst (IsSoundFor limits b) (same_closed s (s.waiting ++ records_in lines) s.closed (if closed then key ∷ s.closed else s.closed) (sym (on_false closed (key ∷ s.closed) s.closed shut))) (all.1 s good),
      )

  pub group_closed : (key : EventKey) (closed : Bool) (lines : List (List ℕ)) (put last : Bool) (a b c : Joiner) → closed ≡ true → (length lines == 0) ≡ false → put ≡ true → PutLines put limits key lines a b
      → ((s : Joining) → waits key s.waiting ≡ true → Closes last limits key s b c) → PutGroups last limits (group_at_key key closed lines ∷ []) a c
  group_closed key closed lines put true a b c shut some is done ends =
      let all : PutLines true limits key lines a b = subst (λ p. PutLines p limits key lines a b) is done in (
        (record { some = some_long lines some; own = all.0 }, tt),
        λ s good.
            subst (IsSoundFor limits c) (same_closed s (s.waiting ++ records_in lines) (key ∷ s.closed) (if closed then key ∷ s.closed else s.closed) (sym (on_true closed (key ∷ s.closed) s.closed shut)))
            (ends (with_records s (records_in lines)) (waits_last key s.waiting (records_in lines) (read_waits key lines (some_long lines some) all.0)) (all.1 s good)),
      )
  group_closed key closed lines put false a b c shut some is done ends = λ own s good.
      let all : PutLines true limits key lines a b = subst (λ p. PutLines p limits key lines a b) is done in
      still_hopeless limits (with_records s (records_in lines)) (with_group limits.line s (group_at_key key closed lines)) (leads_close s key closed lines)
      (ends (with_records s (records_in lines)) (waits_last key s.waiting (records_in lines) (read_waits key lines (some_long lines some) all.0)) (all.1 s good))

  -- ---- rows

  folds_both : (s : Joining) (xs ys : List (EventKey × Group)) → with_groups limits.line s (xs ++ ys) ≡ with_groups limits.line (with_groups limits.line s xs) ys
  folds_both s xs ys = fold-append (with_group limits.line) s xs ys

  own_both : (xs ys : List (EventKey × Group)) → AllByRecursion (HasOwnLines limits.line) xs → AllByRecursion (HasOwnLines limits.line) ys → AllByRecursion (HasOwnLines limits.line) (xs ++ ys)
  own_both [] ys a b = b
  own_both (x ∷ xs) ys a b = (a.0, own_both xs ys a.1 b)

  own_back : (xs ys : List (EventKey × Group)) → AllByRecursion (HasOwnLines limits.line) (xs ++ ys) → AllByRecursion (HasOwnLines limits.line) ys
  own_back [] ys a = a
  own_back (x ∷ xs) ys a = own_back xs ys a.1

  pub no_groups : (a : Joiner) → PutGroups true limits [] a a
  no_groups a = (tt, λ s good. good)

  groups_more : (xs ys : List (EventKey × Group)) (a b c : Joiner) → PutGroups true limits xs a b → PutGroups true limits ys b c → PutGroups true limits (xs ++ ys) a c
  groups_more xs ys a b c one two =
      (own_both xs ys one.0 two.0, λ s good. subst (IsSoundFor limits c) (sym (folds_both s xs ys)) (two.1 (with_groups limits.line s xs) (one.1 s good)))

  groups_fail : (xs ys zs : List (EventKey × Group)) (a b c : Joiner) → PutGroups true limits xs a b → PutGroups false limits ys b c → PutGroups false limits (xs ++ (ys ++ zs)) a c
  groups_fail xs ys zs a b c one two own s good =
      let some : AllByRecursion (HasOwnLines limits.line) ys = all_front (HasOwnLines limits.line) ys zs (own_back xs (ys ++ zs) own) in
      let t : Joining = with_groups limits.line (with_groups limits.line s xs) ys in
      subst (IsHopeless limits) (sym (folds_both s xs (ys ++ zs) ∙ folds_both (with_groups limits.line s xs) ys zs))
      (still_hopeless limits t (with_groups limits.line t zs) (leads_groups limits.line t zs) (two some (with_groups limits.line s xs) (one.1 s good)))

  rows_both : (xs ys : List StoreRow) → groups_of (xs ++ ys) ≡ groups_of xs ++ groups_of ys
  rows_both xs ys = flat_map-append group_in xs ys

  pub rows_fail_at : (rows : List StoreRow) (i : ℕ) (row : StoreRow) (put : Bool) (a b c : Joiner) → i < length rows → row ≡ get_or rows i row → put ≡ false
      → PutGroups true limits (groups_of (take i rows)) a b → PutGroups put limits (group_in row) b c → PutGroups false limits (groups_of rows) a c
  rows_fail_at rows i row put a b c h at is one two =
      let whole : groups_of rows ≡ groups_of (take i rows) ++ (group_in row ++ groups_of (drop (suc i) rows)) = ap groups_of (split_at rows i row h at) ∙ rows_both (take i rows) (row ∷ drop (suc i) rows) in
      subst (λ (gs : List (EventKey × Group)). PutGroups false limits gs a c) (sym whole)
      (groups_fail (groups_of (take i rows)) (group_in row) (groups_of (drop (suc i) rows)) a b c one (subst (λ p. PutGroups p limits (group_in row) b c) is two))

  pub rows_more_at : (rows : List StoreRow) (i : ℕ) (row : StoreRow) (put : Bool) (a b c : Joiner) → i < length rows → row ≡ get_or rows i row → put ≡ true
      → PutGroups true limits (groups_of (take i rows)) a b → PutGroups put limits (group_in row) b c → PutGroups true limits (groups_of (take (i + 1) rows)) a c
  rows_more_at rows i row put a b c h at is one two =
      let whole : groups_of (take (i + 1) rows) ≡ groups_of (take i rows) ++ group_in row =
      ap groups_of (one_later rows i row h at) ∙ rows_both (take i rows) (row ∷ []) ∙ ap (λ (gs : List (EventKey × Group)). groups_of (take i rows) ++ gs) (append-nil (group_in row)) in
      subst (λ (gs : List (EventKey × Group)). PutGroups true limits gs a c) (sym whole)
      (groups_more (groups_of (take i rows)) (group_in row) a b c one (subst (λ p. PutGroups p limits (group_in row) b c) is two))

  pub all_rows : (rows : List StoreRow) (i : ℕ) (a b : Joiner) → length rows ≤ i → PutGroups true limits (groups_of (take i rows)) a b → PutGroups true limits (groups_of rows) a b
  all_rows rows i a b h done = subst (λ (rs : List StoreRow). PutGroups true limits (groups_of rs) a b) (take_all rows i h) done
    where
      take_all : {A : Type 0} (xs : List A) (i : ℕ) → length xs ≤ i → take i xs ≡ xs
      take_all [] zero h = refl
      take_all [] (suc i) h = refl
      take_all (x ∷ xs) zero h = absurd (omega (arith, h))
      take_all (x ∷ xs) (suc i) h = ap (λ l. x ∷ l) (take_all xs i (omega (arith, h)))

  -- ---- the first record has the least key

  abbrev pub flat : List (EventKey × Group) → List Record
  flat groups = flat_map (λ (e : EventKey × Group). records_in e.1.lines) groups

  pub waiting_flat : (s : Joining) (groups : List (EventKey × Group)) → (with_groups limits.line s groups).waiting ≡ s.waiting ++ flat groups
  waiting_flat s [] = sym (append-nil s.waiting)
  waiting_flat s (e ∷ groups) = waiting_flat (with_group limits.line s e) groups ∙ append_assoc s.waiting (records_in e.1.lines) (flat groups)

  not_below_itself : (k : EventKey) → is_below k k ≡ false
  not_below_itself k = grind (arith, nat_tests)

  not_below_before : (a b : EventKey) → IsKeyBefore a b → is_below b a ≡ false
  not_below_before a b (inl lt) = grind (arith, nat_tests)
  not_below_before a b (inr e) = let lt = e.1 in grind (arith, nat_tests)

  pub keyed : (P : EventKey → Type 0) (key : EventKey) (lines : List (List ℕ)) → P key → AllByRecursion (IsLineOf limits.line key) lines → AllByRecursion (λ (r : Record). P r.key) (records_in lines)
  keyed P key [] holds own = tt
  keyed P key (line ∷ lines) holds own =
      let at = own_at key (record_of limits.line line) own.0 in
      subst (λ (o : Option Record). AllByRecursion (λ (r : Record). P r.key) (option_to_list o ++ records_in lines)) (sym at.1)
      (subst P (sym at.2) holds, keyed P key lines holds own.1)

  records_both : {A : Type 0} (P : A → Type 0) (xs ys : List A) → AllByRecursion P xs → AllByRecursion P ys → AllByRecursion P (xs ++ ys)
  records_both P [] ys a b = b
  records_both P (x ∷ xs) ys a b = (a.0, records_both P xs ys a.1 b)

  later_keyed : (k : EventKey) (groups : List (EventKey × Group)) → AllByRecursion (λ e. IsKeyBefore k e.0) groups → AllByRecursion (HasOwnLines limits.line) groups → AllByRecursion (λ (r : Record). is_below r.key k ≡ false) (flat groups)
  later_keyed k [] after own = tt
  later_keyed k (e ∷ groups) after own =
      records_both (λ (r : Record). is_below r.key k ≡ false) (records_in e.1.lines) (flat groups)
      (keyed (λ z. is_below z k ≡ false) e.0 e.1.lines (not_below_before k e.0 after.0) own.0.own)
      (later_keyed k groups after.1 own.1)

  first_flat : (k : EventKey) (lines : List (List ℕ)) (later : List Record) → lines ≢ [] → AllByRecursion (IsLineOf limits.line k) lines → AllByRecursion (λ (r : Record). is_below r.key k ≡ false) later
      → FirstIsLeast (records_in lines ++ later)
  first_flat k [] later some own after = absurd (some refl)
  first_flat k (line ∷ lines) later some own after =
      let at = own_at k (record_of limits.line line) own.0 in
      subst (λ (o : Option Record). FirstIsLeast ((option_to_list o ++ records_in lines) ++ later)) (sym at.1)
      (subst (λ z. AllByRecursion (λ (r : Record). is_below r.key z ≡ false) (records_in lines ++ later)) (sym at.2)
      (records_both (λ (r : Record). is_below r.key k ≡ false) (records_in lines) later
      (keyed (λ z. is_below z k ≡ false) k lines (not_below_itself k) own.1) after))

  first_of : (groups : List (EventKey × Group)) → Ascends (λ x y. IsKeyBefore x.0 y.0) groups → AllByRecursion (HasOwnLines limits.line) groups → FirstIsLeast (flat groups)
  first_of [] up own = tt
  first_of (e ∷ groups) up own = first_flat e.0 e.1.lines (flat groups) own.0.some own.0.own (later_keyed e.0 groups up.0 own.1)

  pub first_by : (clock : JoinClock) (groups : List (EventKey × Group)) → Ascends (λ x y. IsKeyBefore x.0 y.0) groups → AllByRecursion (HasOwnLines limits.line) groups
      → FirstIsLeast (with_groups limits.line (fresh clock) groups).waiting
  first_by clock groups up own = subst FirstIsLeast (sym (waiting_flat (fresh clock) groups)) (first_of groups up own)

  -- ---- the whole

  pub all_refused : (state : StateRow) (rows : List StoreRow) (put : Bool) (clock : JoinClock) (a b : Joiner) → AscendByKey rows → clock ≡ clock_of state → StandsFor limits a (fresh clock) → put ≡ false
      → PutGroups put limits (groups_of rows) a b → ¬ AreSoundWaiting limits state rows
  all_refused state rows put clock a b up is fresh_is none groups sound =
      let start : IsSoundFor limits a (fresh (clock_of state)) = record { stands = subst (λ (k : JoinClock). StandsFor limits a (fresh k)) is fresh_is; sound = λ k. tt } in
      subst (λ p. PutGroups p limits (groups_of rows) a b) none groups sound.lines (fresh (clock_of state)) start (waiting_by limits state rows) (leads_itself (waiting_by limits state rows))
      (first_by (clock_of state) (groups_of rows) up sound.lines) sound.held sound.unripe

  pub all_put : (state : StateRow) (rows : List StoreRow) (put : Bool) (clock : JoinClock) (a b : Joiner) → clock ≡ clock_of state → StandsFor limits a (fresh clock) → put ≡ true
      → PutGroups put limits (groups_of rows) a b → AllByRecursion (HasOwnLines limits.line) (groups_of rows) × IsSoundFor limits b (waiting_by limits state rows)
  all_put state rows put clock a b is fresh_is done groups =
      let start : IsSoundFor limits a (fresh (clock_of state)) = record { stands = subst (λ (k : JoinClock). StandsFor limits a (fresh k)) is fresh_is; sound = λ k. tt } in
      let all : PutGroups true limits (groups_of rows) a b = subst (λ p. PutGroups p limits (groups_of rows) a b) done groups in
      (all.0, all.1 (fresh (clock_of state)) start)

  pub ripe_unsound : (state : StateRow) (rows : List StoreRow) → is_some (ripe_key limits (waiting_by limits state rows)) ≡ true → ¬ AreSoundWaiting limits state rows
  ripe_unsound state rows ripe sound = true≢false (sym ripe ∙ ap is_some sound.unripe)

none_some_is : {A : Type 0} (o : Option A) → is_some o ≡ false → o ≡ None
none_some_is None e = refl
none_some_is (Some a) e = absurd (true≢false e)

pub unripe_is : (o : Option EventKey) → is_some o ≡ false → o ≡ None
unripe_is o e = none_some_is o e
