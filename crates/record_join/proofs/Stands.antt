-- What a joiner stands for after each step.
use Rattle.std.proofs.Common.{◌≡◌, ◌-◌, ◌+◌, ◌<◌, ◌≤◌, Bool, true, false, cond, List, [], ◌∷◌, ◌++◌, map, length, refl, sym, ◌∙◌, ap, subst, append-nil, Some, None, inl, inr, arith, ℕ}
use Rattle.std.specs.Prelude.{Result, Ok, Err, OnErr, Option, ◌||◌, not, option_map, is_some, suc, nat_lt}
use Rattle.std.specs.List.{list_any, AllByRecursion}
use Rattle.std.specs.List.Sorted.{IsStrictlySortedBy}
use Rattle.std.specs.Map.{lookup, keys_of}
use Rattle.std.specs.Ordering.{is_lt}
use Rattle.std.specs.declared.cmp.Ordering.TheVariants.{Less}
use Rattle.std.proofs.lemmas.Bool.{true≢false, or_cases, or_left, or_right, or_parts}
use Rattle.std.proofs.lemmas.List.{length-map}
use Rattle.std.proofs.lemmas.List.Elements.{filter-append}
use Rattle.std.proofs.lemmas.List.Folds.{list_any-append}
use Rattle.std.proofs.lemmas.List.Filters.{sum_by-filter_both}
use Rattle.std.proofs.lemmas.List.Sums.{sum_by_push}
use Rattle.std.proofs.lemmas.Map.Keys.{IsDistinct-from_sorted, sorted_head, sorted_tail}
use Rattle.std.proofs.lemmas.Map.Made.{length-from_keys}
use Rattle.std.proofs.lemmas.Bool.Decides.{nat_tests}
use Rattle.record_join.specs.Keys.{EndsAt, key_cmp, is_key, is_below, ends_event}
use Rattle.record_join.specs.Events.{Joining, group_of, waits, is_among, least_key, count_keys, text_of, is_excess, put, enter, saw, taken_as, settled, is_ripe_at, only_ripe, ripe_key, event_of, without, event_at, left_at, next_event, next_left, let_go, event_time, is_late}
use Rattle.record_join.specs.PutBack.{fresh}
use Rattle.record_join.specs.StandsFor.{Joiner, StandsFor, NothingRipe, group_at, records_in, shut, grown, is_ripe_group, ripe_first}
use Rattle.audit_lex.specs.declared.header.EventKey.{EventKey}
use Rattle.audit_record.specs.declared.types.Record.{Record}
use Rattle.flow_base.specs.declared.limits.Limits.{Limits}
use Rattle.record_join.specs.declared.clock.JoinClock.{JoinClock}
use Rattle.record_join.specs.declared.group.Group.{Group}
use Rattle.record_join.specs.declared.event.Event.{Event}
use Rattle.record_join.specs.declared.event.Taken.TheVariants.{Held, Excess}
use Rattle.record_join.proofs.Keys.{key_laws, one_key}
use Rattle.record_join.proofs.Lists.{at_apart, any_apart, any_map, none_at}
use Rattle.record_join.proofs.Least.{IsLeast, least_is, least_none, least_one, not_both, not_below_itself, same_not_below}
use Rattle.record_join.proofs.Groups.{by_test, on_true, on_false}

-- ---- one key

is_some_cond : {A : Type 0} (b : Bool) (x : A) → is_some (cond b (Some x) None) ≡ b
is_some_cond true x = refl
is_some_cond false x = refl

-- a key has an entry where a look-up finds it
pub has_entry : (key : EventKey) (es : List (EventKey × Group)) → list_any (is_key key) (keys_of es) ≡ is_some (lookup (is_key key) es)
has_entry key [] = refl
has_entry key (e ∷ es) = step (is_key key e.0) e.1 (list_any (is_key key) (keys_of es)) (lookup (is_key key) es) (has_entry key es)
  where
    step : (b : Bool) (g : Group) (v : Bool) (o : Option Group) → v ≡ is_some o → (b || v) ≡ is_some (cond b (Some g) o)
    step true g v o e = refl
    step false g v o e = e

module _ {limits : Limits} {join : Joiner} {s : Joining} (stands : StandsFor limits join s) where
  entry_waits : (key : EventKey) → list_any (is_key key) (keys_of join.groups) ≡ waits key s.waiting
  entry_waits key = has_entry key join.groups ∙ ap is_some (stands.each key) ∙ is_some_cond (waits key s.waiting) _

  pub count_stands : length join.groups ≡ count_keys s.waiting
  count_stands =
      sym (length-map join.groups (λ e. e.0))
      ∙ length-from_keys key_laws (keys_of join.groups) (map (λ r. r.key) s.waiting) (IsDistinct-from_sorted key_cmp (keys_of join.groups) stands.ascend)
      (λ q. entry_waits q ∙ sym (any_map (λ (r : Record). r.key) (is_key q) s.waiting))

-- ---- the least group

some_is_none : {A : Type 0} (x : A) → Some x ≡ None → ⊥
some_is_none x e = cc

inside : {A : Type 0} (a b : A) → Some a ≡ Some b → a ≡ b
inside a b e = cc

pub waits_if_some : (b : Bool) (x y : Group) → cond b (Some x) None ≡ Some y → (b ≡ true) × (x ≡ y)
waits_if_some true x y e = (refl, inside x y e)
waits_if_some false x y e = absurd (some_is_none y (sym e))

head_found : (e : EventKey × Group) (es : List (EventKey × Group)) → lookup (is_key e.0) (e ∷ es) ≡ Some e.1
head_found e es = on_true (is_key e.0 e.0) (Some e.1) (lookup (is_key e.0) es) (key_laws.refl e.0)

-- a key of a list whose keys are all above k is above k
above_all : (k q : EventKey) (keys : List EventKey) → AllByRecursion (λ y. key_cmp k y ≡ Less) keys → list_any (is_key q) keys ≡ true → is_below k q ≡ true
above_all k q [] a e = absurd (true≢false (sym e))
above_all k q (y ∷ keys) a e = elim (or_cases (is_key q y) (list_any (is_key q) keys) e) [
  | inl same ↦ subst (λ z. is_below k z ≡ true) (sym (one_key q y same)) (ap is_lt a.0)
  | inr later ↦ above_all k q keys a.1 later
]

module _ {limits : Limits} {join : Joiner} {s : Joining} (stands : StandsFor limits join s) where
  -- the first group is that of its key
  pub first_is : (e : EventKey × Group) (es : List (EventKey × Group)) → join.groups ≡ e ∷ es
      → (waits e.0 s.waiting ≡ true) × (record { closed = is_among e.0 s.closed; records = group_of e.0 s.waiting } ≡ e.1)
  first_is e es is = waits_if_some (waits e.0 s.waiting) (record { closed = is_among e.0 s.closed; records = group_of e.0 s.waiting }) e.1
      (sym (stands.each e.0) ∙ ap (λ (es : List (EventKey × Group)). lookup (is_key e.0) es) is ∙ head_found e es)

  none_below_first : (e : EventKey × Group) (es : List (EventKey × Group)) → join.groups ≡ e ∷ es
      → (q : EventKey) → waits q s.waiting ≡ true → is_below q e.0 ≡ false
  none_below_first e es is q w =
      elim (or_cases (is_key q e.0) (list_any (is_key q) (keys_of es)) (ap (λ (es : List (EventKey × Group)). list_any (is_key q) (keys_of es)) (sym is) ∙ entry_waits stands q ∙ w)) [
        | inl same ↦ same_not_below q e.0 same
        | inr later ↦ not_both e.0 q (above_all e.0 q (keys_of es) (sorted_head key_cmp e.0 (keys_of es) (subst (λ (es : List (EventKey × Group)). IsStrictlySortedBy key_cmp (keys_of es)) is stands.ascend)) later)
      ]

  least_first : (e : EventKey × Group) (es : List (EventKey × Group)) → join.groups ≡ e ∷ es → IsLeast e.0 s.waiting
  least_first e es is = record { there = (first_is e es is).0; none_below = none_below_first e es is }

  -- the key of the first group is the least
  pub least_key_first : (e : EventKey × Group) (es : List (EventKey × Group)) → join.groups ≡ e ∷ es → (o : Option EventKey) → least_key s.waiting ≡ o → o ≡ Some e.0
  least_key_first e es is None l = absurd (true≢false (sym (first_is e es is).0 ∙ ap (λ (rs : List Record). waits e.0 rs) (least_none s.waiting l)))
  least_key_first e es is (Some m) l = ap Some (least_one m e.0 s.waiting (least_is s.waiting m l) (least_first e es is))

  -- where there is no group, nothing waits
  pub no_least : join.groups ≡ [] → (o : Option EventKey) → least_key s.waiting ≡ o → o ≡ None
  no_least is None l = refl
  no_least is (Some m) l = absurd (true≢false (sym (least_is s.waiting m l).there ∙ sym (entry_waits stands m) ∙ ap (λ (es : List (EventKey × Group)). list_any (is_key m) (keys_of es)) is))

  -- the first group is ripe where the least is
  pub ripe_alike : (e : EventKey × Group) (es : List (EventKey × Group)) → join.groups ≡ e ∷ es → is_ripe_group join e.0 e.1 ≡ is_ripe_at limits s e.0
  ripe_alike e es is =
      let closed : e.1.closed ≡ is_among e.0 s.closed = ap (λ (g : Group). g.closed) (sym (first_is e es is).1) in
      let count = count_stands stands in
      let text = stands.text in
      let clock = stands.clock in
      let same = stands.limits_are in
      cc

-- ---- what is lent and released

ripe_of : Limits → Joining → List (EventKey × Group) → Option EventKey
ripe_of limits s [] = None
ripe_of limits s (e ∷ es) = only_ripe limits s (Some e.0)

map_cond : (a b : Bool) (e : EventKey × Group) → a ≡ b → option_map (λ p. p.0) (cond a (Some e) None) ≡ cond b (Some e.0) None
map_cond true b e is = ap (λ v. cond v (Some e.0) None) is
map_cond false b e is = ap (λ v. cond v (Some e.0) None) is

cond_some : {A : Type 0} (b : Bool) (x p : A) → Some p ≡ cond b (Some x) None → (b ≡ true) × (p ≡ x)
cond_some true x p e = (refl, inside p x e)
cond_some false x p e = absurd (some_is_none p e)

module _ {limits : Limits} {join : Joiner} {s : Joining} (stands : StandsFor limits join s) where
  ripe_is : (es : List (EventKey × Group)) → join.groups ≡ es → option_map (λ p. p.0) (ripe_first join es) ≡ ripe_key limits s
  ripe_is [] is = sym (ap (only_ripe limits s) (no_least stands is (least_key s.waiting) refl))
  ripe_is (e ∷ es) is =
      map_cond (is_ripe_group join e.0 e.1) (is_ripe_at limits s e.0) e (ripe_alike stands e es is)
      ∙ sym (ap (only_ripe limits s) (least_key_first stands e es is (least_key s.waiting) refl))

  pub ripe_stands : option_map (λ p. p.0) (ripe_first join join.groups) ≡ ripe_key limits s
  ripe_stands = ripe_is join.groups refl

  records_of_ripe : (es : List (EventKey × Group)) → join.groups ≡ es → (p : EventKey × Group) → Some p ≡ ripe_first join es → group_of p.0 s.waiting ≡ p.1.records
  records_of_ripe [] is p e = absurd (some_is_none p e)
  records_of_ripe (e ∷ es) is p f =
      let same = (cond_some (is_ripe_group join e.0 e.1) e p f).1 in
      subst (λ (z : EventKey × Group). group_of z.0 s.waiting ≡ z.1.records) (sym same) (ap (λ (g : Group). g.records) (first_is stands e es is).1)

  pub lent_some : (p : EventKey × Group) → Some p ≡ ripe_first join join.groups
      → Some (record { key = p.0; ms = (event_of s p.0).ms; late = (event_of s p.0).late; records = p.1.records }) ≡ next_event limits s
  lent_some p e =
      ap (λ (rs : List Record). Some (record { key = p.0; ms = (event_of s p.0).ms; late = (event_of s p.0).late; records = rs })) (sym (records_of_ripe join.groups refl p e))
      ∙ ap (event_at s) (ap (option_map (λ (p : EventKey × Group). p.0)) e ∙ ripe_stands)

  pub lent_none : None ≡ ripe_first join join.groups → None ≡ next_event limits s
  lent_none e = ap (event_at s) (ap (option_map (λ (p : EventKey × Group). p.0)) e ∙ ripe_stands)

  -- the first group is the next event, where some group is ripe
  pub first_ripe : (e : EventKey × Group) (es : List (EventKey × Group)) → join.groups ≡ e ∷ es → is_some (ripe_key limits s) ≡ true → ripe_key limits s ≡ Some e.0
  first_ripe e es is ripe =
      let least : ripe_key limits s ≡ only_ripe limits s (Some e.0) = ap (only_ripe limits s) (least_key_first stands e es is (least_key s.waiting) refl) in
      least ∙ on_true (is_ripe_at limits s e.0) (Some e.0) None (sym (is_some_cond (is_ripe_at limits s e.0) e.0) ∙ sym (ap is_some least) ∙ ripe)

  pub none_ripe : join.groups ≡ [] → ripe_key limits s ≡ None
  none_ripe is = ap (only_ripe limits s) (no_least stands is (least_key s.waiting) refl)

pub not_some : {A : Type 0} (o : Option A) → is_some o ≡ false → o ≡ None
not_some None e = refl
not_some (Some x) e = absurd (true≢false e)

-- a group, where it waits
or_false : (b : Bool) → (b || false) ≡ b
or_false true = refl
or_false false = refl

abbrev made : Bool → Bool → List Record → Option Group
made w c rs = cond w (Some (record { closed = c; records = rs })) None

abbrev group_with : Bool → List Record → Group
group_with c rs = record { closed = c; records = rs }

-- a group of the same parts
same_parts : (w v c d : Bool) (rs qs : List Record) → w ≡ v → c ≡ d → rs ≡ qs → made w c rs ≡ made v d qs
same_parts w v c d rs qs e f g = cc

-- the key of the first group has no other
none_later : (k : EventKey) (es : List (EventKey × Group)) → AllByRecursion (λ y. key_cmp k y ≡ Less) (keys_of es) → lookup (is_key k) es ≡ None
none_later k es above = not_some (lookup (is_key k) es) (by_test (list_any (is_key k) (keys_of es))
    (λ e. absurd (true≢false (sym (above_all k k (keys_of es) above e) ∙ not_below_itself k)))
    (λ e. sym (has_entry k es) ∙ e))

module _ {limits : Limits} {join : Joiner} {s : Joining} (stands : StandsFor limits join s) where
  waits_without : (k q : EventKey) → waits q (without s k).waiting ≡ cond (is_key k q) false (waits q s.waiting)
  waits_without k q = any_apart (λ (r : Record). r.key) is_key key_laws k q s.waiting

  among_without : (k q : EventKey) → is_among q (without s k).closed ≡ cond (is_key k q) false (is_among q s.closed)
  among_without k q = any_apart (λ (c : EventKey). c) is_key key_laws k q s.closed

  group_without : (k q : EventKey) → group_of q (without s k).waiting ≡ cond (is_key k q) [] (group_of q s.waiting)
  group_without k q = at_apart (λ (r : Record). r.key) is_key key_laws k q s.waiting

  each_without : (e : EventKey × Group) (es : List (EventKey × Group)) → join.groups ≡ e ∷ es → (q : EventKey) → lookup (is_key q) es ≡ group_at (without s e.0) q
  each_without e es is q = by_test (is_key e.0 q)
      (λ same.
      ap (λ (k : EventKey). lookup (is_key k) es) (sym (one_key e.0 q same))
      ∙ none_later e.0 es (sorted_head key_cmp e.0 (keys_of es) (subst (λ (es : List (EventKey × Group)). IsStrictlySortedBy key_cmp (keys_of es)) is stands.ascend))
      ∙ sym (on_false _ _ _ (waits_without e.0 q ∙ on_true _ _ _ same)))
      (λ other.
      sym (on_false (is_key q e.0) (Some e.1) (lookup (is_key q) es) (key_laws.symm q e.0 ∙ other))
      ∙ ap (λ (es : List (EventKey × Group)). lookup (is_key q) es) (sym is)
      ∙ stands.each q
      ∙ sym (same_parts _ _ _ _ _ _ (waits_without e.0 q ∙ on_false _ _ _ other) (among_without e.0 q ∙ on_false _ _ _ other) (group_without e.0 q ∙ on_false _ _ _ other)))

  text_left : (e : EventKey × Group) (es : List (EventKey × Group)) → join.groups ≡ e ∷ es → join.text - text_of e.1.records ≡ text_of (without s e.0).waiting
  text_left e es is =
      let both = sum_by-filter_both (λ (r : Record). is_key e.0 r.key) (λ r. not (is_key e.0 r.key)) (λ _. refl) (λ r. length r.line) s.waiting in
      let group : text_of (group_of e.0 s.waiting) ≡ text_of e.1.records = ap (λ (g : Group). text_of g.records) (first_is stands e es is).1 in
      let all = stands.text in
      take_off join.text (text_of s.waiting) (text_of (group_of e.0 s.waiting)) (text_of e.1.records) (text_of (without s e.0).waiting) all group both
    where
      take_off : (t a g h w : ℕ) → t ≡ a → g ≡ h → g + w ≡ a → t - h ≡ w
      take_off t a g h w e f s = omega arith

  pub released_stands : (e : EventKey × Group) (es : List (EventKey × Group)) → join.groups ≡ e ∷ es
      → StandsFor limits (record { groups = es; text = join.text - text_of e.1.records; clock = let_go join.clock e.0; limits = join.limits }) (without s e.0)
  released_stands e es is = record {
    ascend = sorted_tail key_cmp e.0 (keys_of es) (subst (λ (es : List (EventKey × Group)). IsStrictlySortedBy key_cmp (keys_of es)) is stands.ascend);
    each = each_without e es is;
    closed_wait = λ q w. among_without e.0 q ∙ by_test (is_key e.0 q)
        (λ same. on_true _ _ _ same)
        (λ other. on_false _ _ _ other ∙ stands.closed_wait q (sym (on_false _ _ _ other) ∙ sym (waits_without e.0 q) ∙ w));
    text = text_left e es is;
    clock = ap (λ (c : JoinClock). let_go c e.0) stands.clock;
    limits_are = stands.limits_are;
  }

-- ---- a settle

abbrev shut_all : List (EventKey × Group) → List (EventKey × Group)
shut_all es = map (λ e. (e.0, record e.1 { closed = true })) es

keys_shut : (es : List (EventKey × Group)) → keys_of (shut_all es) ≡ keys_of es
keys_shut [] = refl
keys_shut (e ∷ es) = ap (λ ks. e.0 ∷ ks) (keys_shut es)

shut_cond : (b : Bool) (g : Group) (o p : Option Group) → o ≡ shut p → cond b (Some (record g { closed = true })) o ≡ shut (cond b (Some g) p)
shut_cond true g o p e = refl
shut_cond false g o p e = e

lookup_shut : (q : EventKey) (es : List (EventKey × Group)) → lookup (is_key q) (shut_all es) ≡ shut (lookup (is_key q) es)
lookup_shut q [] = refl
lookup_shut q (e ∷ es) = shut_cond (is_key q e.0) e.1 (lookup (is_key q) (shut_all es)) (lookup (is_key q) es) (lookup_shut q es)

shut_made : (w c v : Bool) (rs : List Record) → v ≡ w → shut (made w c rs) ≡ made w v rs
shut_made true c v rs e = ap (λ z. made true z rs) (sym e)
shut_made false c v rs e = refl

module _ {limits : Limits} {join : Joiner} {s : Joining} (stands : StandsFor limits join s) where
  all_closed : (q : EventKey) → is_among q (settled s).closed ≡ waits q s.waiting
  all_closed q = any_map (λ (r : Record). r.key) (is_key q) s.waiting

  pub settled_stands : StandsFor limits (record join { groups = shut_all join.groups }) (settled s)
  settled_stands = record {
    ascend = subst (λ ks. IsStrictlySortedBy key_cmp ks) (sym (keys_shut join.groups)) stands.ascend;
    each = λ q. lookup_shut q join.groups ∙ ap shut (stands.each q) ∙ shut_made (waits q s.waiting) _ _ _ (all_closed q);
    closed_wait = λ q w. all_closed q ∙ w;
    text = stands.text;
    clock = stands.clock;
    limits_are = stands.limits_are;
  }

-- ---- one more record

records_made : (w c : Bool) (rs : List Record) → (w ≡ false → rs ≡ []) → records_in (made w c rs) ≡ rs
records_made true c rs e = refl
records_made false c rs e = sym (e refl)

grown_made : (w c : Bool) (rs : List Record) (r : Record) → (w ≡ false → rs ≡ []) → (w ≡ false → c ≡ false)
    → group_with c (rs ++ r ∷ []) ≡ grown (made w c rs) r
grown_made true c rs r e f = refl
grown_made false c rs r e f = whole c (rs ++ r ∷ []) false (r ∷ []) (f refl) (ap (λ (xs : List Record). xs ++ r ∷ []) (e refl))
  where
    whole : (c : Bool) (rs : List Record) (d : Bool) (qs : List Record) → c ≡ d → rs ≡ qs → group_with c rs ≡ group_with d qs
    whole c rs d qs e f = cc

module _ {limits : Limits} {join : Joiner} {s : Joining} (stands : StandsFor limits join s) where
  pub records_stand : (q : EventKey) → records_in (lookup (is_key q) join.groups) ≡ group_of q s.waiting
  records_stand q = ap records_in (stands.each q) ∙ records_made (waits q s.waiting) (is_among q s.closed) (group_of q s.waiting) (none_at (λ r. is_key q r.key) s.waiting)

  -- the clock alone moves on
  pub seen_stands : (ms n : ℕ) → StandsFor limits (record join { clock = saw join.clock ms }) (record s { clock = saw s.clock ms; excess = n })
  seen_stands ms n = record {
    ascend = stands.ascend;
    each = stands.each;
    closed_wait = stands.closed_wait;
    text = stands.text;
    clock = ap (λ (c : JoinClock). saw c ms) stands.clock;
    limits_are = stands.limits_are;
  }

  excess_alike : (r : Record) (b : Bool) → is_excess join.limits (records_in (lookup (is_key r.key) join.groups)) r ≡ b → is_excess limits (group_of r.key s.waiting) r ≡ b
  excess_alike r b e =
      ap (λ (l : Limits). is_excess l (group_of r.key s.waiting) r) (sym stands.limits_are)
      ∙ ap (λ (rs : List Record). is_excess join.limits rs r) (sym (records_stand r.key))
      ∙ e

  pub excess_stands : (r : Record) → ends_event r ≡ false → is_excess join.limits (records_in (lookup (is_key r.key) join.groups)) r ≡ true
      → StandsFor limits (record join { clock = saw join.clock r.key.ms }) (enter limits s r)
  excess_stands r other full =
      subst (λ (t : Joining). StandsFor limits (record join { clock = saw join.clock r.key.ms }) t)
      (sym (on_false (ends_event r) _ _ other ∙ on_true (is_excess limits (group_of r.key s.waiting) r) _ _ (excess_alike r true full)))
      (seen_stands r.key.ms (suc s.excess))

  pub excess_taken : (r : Record) → ends_event r ≡ false → is_excess join.limits (records_in (lookup (is_key r.key) join.groups)) r ≡ true → Excess ≡ taken_as limits s r
  excess_taken r other full = sym (on_false (ends_event r) _ _ other ∙ on_true (is_excess limits (group_of r.key s.waiting) r) _ _ (excess_alike r true full))

  pub held_taken : (r : Record) → ends_event r ≡ false → is_excess join.limits (records_in (lookup (is_key r.key) join.groups)) r ≡ false → Held ≡ taken_as limits s r
  held_taken r other fits = sym (on_false (ends_event r) _ _ other ∙ on_false (is_excess limits (group_of r.key s.waiting) r) _ _ (excess_alike r false fits))

  module _ (r : Record) where
    waits_more : (q : EventKey) → waits q (s.waiting ++ r ∷ []) ≡ (waits q s.waiting || (is_key q r.key || false))
    waits_more q = list_any-append (λ (x : Record). is_key q x.key) s.waiting (r ∷ [])

    group_more : (q : EventKey) → group_of q (s.waiting ++ r ∷ []) ≡ group_of q s.waiting ++ cond (is_key q r.key) (r ∷ []) []
    group_more q = filter-append (λ (x : Record). is_key q x.key) s.waiting (r ∷ [])

    each_more : (after : List (EventKey × Group)) (q : EventKey)
        → lookup (is_key q) after ≡ cond (is_key r.key q) (Some (grown (lookup (is_key q) join.groups) r)) (lookup (is_key q) join.groups)
        → lookup (is_key q) after ≡ made (waits q (s.waiting ++ r ∷ [])) (is_among q s.closed) (group_of q (s.waiting ++ r ∷ []))
    each_more after q put = by_test (is_key r.key q)
        (λ same.
        let back : is_key q r.key ≡ true = key_laws.symm q r.key ∙ same in
        put
        ∙ on_true _ _ _ same
        ∙ ap (λ (o : Option Group). Some (grown o r)) (stands.each q)
        ∙ ap Some (sym (grown_made (waits q s.waiting) (is_among q s.closed) (group_of q s.waiting) r (none_at (λ x. is_key q x.key) s.waiting) (stands.closed_wait q)))
        ∙ sym (same_parts _ true _ _ _ _ (waits_more q ∙ or_right (waits q s.waiting) (is_key q r.key || false) (or_left (is_key q r.key) false back)) refl (group_more q ∙ ap (λ (xs : List Record). group_of q s.waiting ++ xs) (on_true _ _ _ back))))
        (λ other.
        let back : is_key q r.key ≡ false = key_laws.symm q r.key ∙ other in
        put
        ∙ on_false _ _ _ other
        ∙ stands.each q
        ∙ sym (same_parts _ _ _ _ _ _ (waits_more q ∙ ap (λ b. waits q s.waiting || (b || false)) back ∙ or_false (waits q s.waiting)) refl (group_more q ∙ ap (λ (xs : List Record). group_of q s.waiting ++ xs) (on_false _ _ _ back) ∙ append-nil (group_of q s.waiting))))

    -- a record that is held
    pub held_stands : (after : List (EventKey × Group)) → ends_event r ≡ false → is_excess join.limits (records_in (lookup (is_key r.key) join.groups)) r ≡ false
        → IsStrictlySortedBy key_cmp (keys_of after)
        → ((q : EventKey) → lookup (is_key q) after ≡ cond (is_key r.key q) (Some (grown (lookup (is_key q) join.groups) r)) (lookup (is_key q) join.groups))
        → StandsFor limits (record { groups = after; text = join.text + length r.line; clock = saw join.clock r.key.ms; limits = join.limits }) (enter limits s r)
    held_stands after other fits sorted put =
        subst (λ (t : Joining). StandsFor limits (record { groups = after; text = join.text + length r.line; clock = saw join.clock r.key.ms; limits = join.limits }) t)
        (sym (on_false (ends_event r) _ _ other ∙ on_false (is_excess limits (group_of r.key s.waiting) r) _ _ (excess_alike r false fits)))
        (record {
          ascend = sorted;
          each = λ q. each_more after q (put q);
          closed_wait = λ q w. stands.closed_wait q (or_parts (waits q s.waiting) (is_key q r.key || false) (sym (waits_more q) ∙ w)).0;
          text = ap (λ n. n + length r.line) stands.text ∙ sym (sum_by_push (λ (x : Record). length x.line) s.waiting r);
          clock = ap (λ (c : JoinClock). saw c r.key.ms) stands.clock;
          limits_are = stands.limits_are;
        })

-- ---- what the answers cite

-- what a joiner stands for depends on its parts alone
pub at_view : {limits : Limits} {s : Joining} {a b : Joiner} → a ≡ b → StandsFor limits b s → StandsFor limits a s
at_view {limits} {s} e stands = subst (λ (j : Joiner). StandsFor limits j s) (sym e) stands

abbrev pub joiner : List (EventKey × Group) → ℕ → JoinClock → Limits → Joiner
joiner groups text clock limits = record { groups = groups; text = text; clock = clock; limits = limits }

same_joiner : (gs hs : List (EventKey × Group)) (t u : ℕ) (c d : JoinClock) (l : Limits) → hs ≡ gs → u ≡ t → d ≡ c → joiner hs u d l ≡ joiner gs t c l
same_joiner gs hs t u c d l e f g = cc

pub alike : {limits : Limits} {s : Joining} (gs hs : List (EventKey × Group)) (t u : ℕ) (c d : JoinClock) (l : Limits)
    → hs ≡ gs → u ≡ t → d ≡ c → StandsFor limits (joiner gs t c l) s → StandsFor limits (joiner hs u d l) s
alike gs hs t u c d l e f g stands = at_view (same_joiner gs hs t u c d l e f g) stands

is_some_map : {A B : Type 0} (f : A → B) (o : Option A) → is_some (option_map f o) ≡ is_some o
is_some_map f None = refl
is_some_map f (Some x) = refl

abbrev event_with : EventKey → ℕ → Bool → List Record → Event
event_with k ms late records = record { key = k; ms = ms; late = late; records = records }

same_event : (k : EventKey) (m n : ℕ) (a b : Bool) (rs qs : List Record) → m ≡ n → a ≡ b → rs ≡ qs → Some (event_with k m a rs) ≡ Some (event_with k n b qs)
same_event k m n a b rs qs e f g = cc

module _ {limits : Limits} {join : Joiner} {s : Joining} (stands : StandsFor limits join s) where
  pub ripe_answer : {A : Type 0} (f : A → EventKey × Group) (o : Option A) → option_map f o ≡ ripe_first join join.groups → is_some o ≡ is_some (ripe_key limits s)
  ripe_answer f o e = sym (is_some_map f o) ∙ ap is_some e ∙ sym (is_some_map (λ (p : EventKey × Group). p.0) (ripe_first join join.groups)) ∙ ap is_some (ripe_stands stands)

  pub lent_is : (k : EventKey) (g : Group) (ms : ℕ) (late : Bool) (records : List Record) → Some (k, g) ≡ ripe_first join join.groups
      → ms ≡ event_time join.clock k → late ≡ is_late join.clock k → records ≡ g.records → Some (event_with k ms late records) ≡ next_event limits s
  lent_is k g ms late records e t l r =
      same_event k ms (event_time s.clock k) late (is_late s.clock k) records g.records
      (t ∙ ap (λ (c : JoinClock). event_time c k) stands.clock) (l ∙ ap (λ (c : JoinClock). is_late c k) stands.clock) r
      ∙ lent_some stands (k, g) e

  pub released_is : (k : EventKey) (g : Group) (es : List (EventKey × Group)) (ms : ℕ) (late : Bool) → join.groups ≡ (k, g) ∷ es → is_some (ripe_key limits s) ≡ true
      → ms ≡ event_time join.clock k → late ≡ is_late join.clock k → Some (event_with k ms late g.records) ≡ next_event limits s
  released_is k g es ms late is ripe t l =
      same_event k ms (event_time s.clock k) late (is_late s.clock k) g.records (group_of k s.waiting)
      (t ∙ ap (λ (c : JoinClock). event_time c k) stands.clock) (l ∙ ap (λ (c : JoinClock). is_late c k) stands.clock)
      (ap (λ (h : Group). h.records) (sym (first_is stands (k, g) es is).1))
      ∙ sym (ap (event_at s) (first_ripe stands (k, g) es is ripe))

  pub next_stands : (e : EventKey × Group) (es : List (EventKey × Group)) → join.groups ≡ e ∷ es → is_some (ripe_key limits s) ≡ true
      → StandsFor limits (joiner es (join.text - text_of e.1.records) (let_go join.clock e.0) join.limits) (next_left limits s)
  next_stands e es is ripe = subst (λ (t : Joining). StandsFor limits (joiner es (join.text - text_of e.1.records) (let_go join.clock e.0) join.limits) t)
      (sym (ap (left_at s) (first_ripe stands e es is ripe))) (released_stands stands e es is)

  -- where something is ripe, something waits
  pub never_empty : join.groups ≡ [] → is_some (ripe_key limits s) ≡ true → ⊥
  never_empty is ripe = true≢false (sym ripe ∙ ap is_some (none_ripe stands is))

  pub nothing_ripe : join.groups ≡ [] → None ≡ next_event limits s
  nothing_ripe is = sym (ap (event_at s) (none_ripe stands is))

  pub nothing_left : join.groups ≡ [] → StandsFor limits join (next_left limits s)
  nothing_left is = subst (λ (t : Joining). StandsFor limits join t) (sym (ap (left_at s) (none_ripe stands is))) stands

-- what holds in any case holds where a call failed
pub on_err : {A E : Type 0} {P : Type 0} (r : Result A E) → P → OnErr r P
on_err (Ok x) p = tt
on_err (Err e) p = p

-- ---- an end

shut_open : (w c v : Bool) (rs : List Record) → v ≡ true → shut (made w c rs) ≡ made w v rs
shut_open true c v rs e = ap (λ z. made true z rs) (sym e)
shut_open false c v rs e = refl

shut_gone : (w c : Bool) (rs : List Record) → w ≡ false → shut (made w c rs) ≡ made w c rs
shut_gone true c rs e = absurd (true≢false e)
shut_gone false c rs e = refl

module _ {limits : Limits} {join : Joiner} {s : Joining} (stands : StandsFor limits join s) (r : Record) (after : List (EventKey × Group)) (keys : keys_of after ≡ keys_of join.groups)
    (put : (q : EventKey) → lookup (is_key q) after ≡ cond (is_key r.key q) (shut (lookup (is_key q) join.groups)) (lookup (is_key q) join.groups)) where
  abbrev ended : Joiner
  ended = record join { groups = after; clock = saw join.clock r.key.ms }

  -- the key waits, and is closed
  end_there : waits r.key s.waiting ≡ true → StandsFor limits ended (record s { clock = saw s.clock r.key.ms; closed = r.key ∷ s.closed })
  end_there there = record {
    ascend = subst (λ ks. IsStrictlySortedBy key_cmp ks) (sym keys) stands.ascend;
    each = λ q. put q ∙ by_test (is_key r.key q)
        (λ same. on_true _ _ _ same ∙ ap shut (stands.each q)
        ∙ shut_open (waits q s.waiting) (is_among q s.closed) (is_key q r.key || is_among q s.closed) (group_of q s.waiting) (ap (λ b. b || is_among q s.closed) (key_laws.symm q r.key ∙ same)))
        (λ other. on_false _ _ _ other ∙ stands.each q
        ∙ ap (λ b. made (waits q s.waiting) (b || is_among q s.closed) (group_of q s.waiting)) (sym (key_laws.symm q r.key ∙ other)));
    closed_wait = λ q w. by_test (is_key q r.key)
        (λ same. absurd (true≢false (sym there ∙ ap (λ k. waits k s.waiting) (sym (one_key q r.key same)) ∙ w)))
        (λ other. ap (λ b. b || is_among q s.closed) other ∙ stands.closed_wait q w);
    text = stands.text;
    clock = ap (λ (c : JoinClock). saw c r.key.ms) stands.clock;
    limits_are = stands.limits_are;
  }

  -- the key doesn't wait, and nothing is closed
  end_gone : waits r.key s.waiting ≡ false → StandsFor limits ended (record s { clock = saw s.clock r.key.ms })
  end_gone gone = record {
    ascend = subst (λ ks. IsStrictlySortedBy key_cmp ks) (sym keys) stands.ascend;
    each = λ q. put q ∙ by_test (is_key r.key q)
        (λ same. on_true _ _ _ same ∙ ap shut (stands.each q)
        ∙ shut_gone (waits q s.waiting) (is_among q s.closed) (group_of q s.waiting) (ap (λ k. waits k s.waiting) (sym (one_key r.key q same)) ∙ gone))
        (λ other. on_false _ _ _ other ∙ stands.each q);
    closed_wait = stands.closed_wait;
    text = stands.text;
    clock = ap (λ (c : JoinClock). saw c r.key.ms) stands.clock;
    limits_are = stands.limits_are;
  }

  pub end_stands : ends_event r ≡ true → StandsFor limits ended (enter limits s r)
  end_stands ends =
      subst (λ (t : Joining). StandsFor limits ended t) (sym (on_true (ends_event r) _ _ ends))
      (by_test (waits r.key s.waiting)
      (λ there. subst (λ (t : Joining). StandsFor limits ended t) (sym (on_true (waits r.key s.waiting) _ _ there)) (end_there there))
      (λ gone. subst (λ (t : Joining). StandsFor limits ended t) (sym (on_false (waits r.key s.waiting) _ _ gone)) (end_gone gone)))

-- the same by the key alone
pub ended_at : {limits : Limits} {join : Joiner} {s : Joining} → StandsFor limits join s → (key : EventKey) (item : Record) → EndsAt key item
    → (after : List (EventKey × Group)) → keys_of after ≡ keys_of join.groups
    → ((q : EventKey) → lookup (is_key q) after ≡ cond (is_key key q) (shut (lookup (is_key q) join.groups)) (lookup (is_key q) join.groups))
    → StandsFor limits (record join { groups = after; clock = saw join.clock key.ms }) (enter limits s item)
ended_at {limits} {join} {s} stands key item ends after keys put =
    subst (λ (k : EventKey). StandsFor limits (record join { groups = after; clock = saw join.clock k.ms }) (enter limits s item)) ends.key_is
    (end_stands stands item after keys (λ q. put q ∙ ap (λ (k : EventKey). cond (is_key k q) (shut (lookup (is_key q) join.groups)) (lookup (is_key q) join.groups)) (sym ends.key_is)) ends.ends)

-- ---- nothing waits, nothing is ripe

none_sorted : IsStrictlySortedBy key_cmp []
unfolding IsStrictlySortedBy
none_sorted = tt

-- a joiner without groups stands for one in which nothing waits
pub fresh_stands : (limits : Limits) (clock : JoinClock) → StandsFor limits (joiner [] 0 clock limits) (fresh clock)
fresh_stands limits clock = record { ascend = none_sorted; each = λ k. refl; closed_wait = λ k w. refl; text = refl; clock = refl; limits_are = refl }

unless_some : {A : Type 0} (b : Bool) (x : A) → cond b (Some x) None ≡ None → b ≡ false
unless_some true x e = absurd (some_is_none x e)
unless_some false x e = refl

not_over : (m n : ℕ) → nat_lt m n ≡ false → n ≤ m
not_over m n e = grind (arith, nat_tests, e)

-- where nothing is ripe, the text that waits is within its limit
pub text_within : {limits : Limits} {join : Joiner} {s : Joining} → StandsFor limits join s → NothingRipe join → join.text ≤ join.limits.text
text_within {limits} {join} {s} stands nothing = by join.groups refl nothing
  where
    by : (es : List (EventKey × Group)) → join.groups ≡ es → ripe_first join es ≡ None → join.text ≤ join.limits.text
    by [] is none =
        let empty : s.waiting ≡ [] = least_none s.waiting (no_least stands is (least_key s.waiting) refl) in
        let text : join.text ≡ 0 = stands.text ∙ ap text_of empty in
        omega (arith, text)
    by (e ∷ es) is none =
        let unripe = unless_some (is_ripe_group join e.0 e.1) e none in
        not_over join.limits.text join.text (or_parts _ (nat_lt join.limits.text join.text) unripe).1
