-- What a store says of a history that waits is sound.
use Rattle.std.proofs.Common.{◌≡◌, ◌≢◌, ◌⊎◌, inl, inr, ◌∙◌, sym, refl, ap, subst, ℕ, Bool, true, false, cond, List, [], ◌∷◌, ◌++◌, map, length, append-nil, arith}
use Rattle.std.specs.Prelude.{Option, None, Some, ◌||◌, is_some}
use Rattle.std.specs.List.{AllByRecursion}
use Rattle.std.specs.Option.{option_map}
use Rattle.std.specs.Map.{lookup, keys_of}
use Rattle.std.specs.Ordering.{is_eq}
use Rattle.std.proofs.lemmas.Bool.{true≢false, or_left}
use Rattle.std.proofs.lemmas.Bool.Decides.{nat_tests}
use Rattle.std.proofs.lemmas.List.Elements.{filter-append}
use Rattle.std.proofs.lemmas.List.Folds.{list_any-append}
use Rattle.std.proofs.lemmas.Map.Keys.{IsDistinct-from_sorted}
use Rattle.std.proofs.lemmas.Map.Made.{length-from_keys}
use Rattle.flow_base.specs.declared.limits.Limits.{Limits}
use Rattle.name_text.specs.Addresses.{text_of as text_of_address}
use Rattle.audit_lex.specs.History.{History}
use Rattle.audit_lex.specs.declared.header.EventKey.{EventKey}
use Rattle.audit_record.specs.declared.types.Record.{Record}
use Rattle.record_join.specs.Keys.{key_cmp, is_key, is_below}
use Rattle.record_join.specs.Events.{Joining, group_of, waits, is_among, is_past, is_ripe_at, least_key, lesser_key, only_ripe, ripe_key, count_keys, text_of}
use Rattle.record_join.specs.History.{Step as Told, start, state as state_after}
use Rattle.record_join.specs.PutBack.{HeldInTurn, IsSound, fresh, entered, put_back}
use Rattle.record_join.specs.StandsFor.{Joiner, StandsFor, group_at}
use Rattle.record_join.specs.declared.clock.JoinClock.{JoinClock}
use Rattle.record_join.specs.declared.group.Group.{Group as AGroup}
use Rattle.record_join.proofs.HoldsAll.{waits_own}
use Rattle.row_codec.specs.declared.rows.StoreRow.{StoreRow}
use Rattle.row_codec.specs.declared.state.StateRow.{StateRow}
use Rattle.batch_log.specs.Log.{Log}
use Rattle.reach_model.specs.declared.modes.Mode.{Mode}
use Rattle.reduced_store.specs.Opening.{IsStoreRead}
use Rattle.reduced_store.specs.declared.reading.Found.{Found}
use Rattle.store_check.specs.Conditions.{bounds_of}
use Rattle.stored.specs.Batch.{Ascends, AreWaiting, IsKeyBefore, lines_of_group}
use Rattle.stored.specs.Reading.{AreSpelled, group_of_lines, clock_of}
use Rattle.stored.specs.Moment.{nothing, state_at}
use Rattle.stored.specs.Stored.{ClosesAt}
use Rattle.stored.specs.Words.{Group, groups_of, state_of as rows_state}
use Rattle.stored.proofs.WaitingLaws.{clock_restored, waiting_restored}
use Rattle.ingest.specs.Events.{told_of, state_of as state_of_history}
use Rattle.ingest.specs.LineRecords.{record_of}
use Rattle.ingest.specs.Soundness.{WaitsSoundly}
use Rattle.ingest.specs.Storing.{StoresHistory, moment_of}
use Rattle.ingest.specs.Waiting.{AreSoundWaiting, AscendByKey, FirstIsLeast, HasOwnLines, IsLineOf, waiting_by, with_group, with_groups}
use Rattle.ingest.proofs.PutBack.{by_test, first_by, flat, key_laws, keyed, least_not_below, leads_groups, leads_itself, on_false, on_true, one_key, read_waits, records_in, stays_least, waiting_flat}
use Rattle.ingest.proofs.Quiet.{quiet}
use Rattle.ingest.proofs.Remade.{FoundRestores, WereStored, can_restore}
use Rattle.ingest.proofs.WaitingStates.{closed_wait, waiting_spelled}
use Rattle.ingest.proofs.Waited.{IsMadeAgain, before_less, entered_groups, lookup_parts, parts_of, sorted}

abbrev KeysAscend : List (EventKey × Group) → Type 0
KeysAscend es = Ascends (λ x y. IsKeyBefore x.0 y.0) es

every : {A : Type 0} (P Q : A → Type 0) (xs : List A) → ((x : A) → P x → Q x) → AllByRecursion P xs → AllByRecursion Q xs
every P Q [] f all = tt
every P Q (x ∷ xs) f all = (f x all.0, every P Q xs f all.1)

some_none : {A : Type 0} (x : A) → Some x ≡ None → ⊥
some_none x e = cc

inside : {A : Type 0} (a b : A) → Some a ≡ Some b → a ≡ b
inside a b e = cc

-- ---- groups by key

apart_before : (limits : Limits) (a b : EventKey) → IsKeyBefore a b → is_key a b ≡ false
apart_before limits a b up = ap is_eq (before_less limits a b up)

none_after : (limits : Limits) (k : EventKey) (es : List (EventKey × Group)) → AllByRecursion (λ e. IsKeyBefore k e.0) es → lookup (is_key k) es ≡ None
none_after limits k [] up = refl
none_after limits k (e ∷ es) up = on_false (is_key k e.0) (Some e.1) (lookup (is_key k) es) (apart_before limits k e.0 up.0) ∙ none_after limits k es up.1

-- an entry is found by its own key
each_found : (limits : Limits) (es : List (EventKey × Group)) → KeysAscend es → AllByRecursion (λ e. lookup (is_key e.0) es ≡ Some e.1) es
each_found limits [] up = tt
each_found limits (e ∷ es) up = (
  on_true (is_key e.0 e.0) (Some e.1) (lookup (is_key e.0) es) (key_laws.refl e.0),
  later es up.0 (each_found limits es up.1),
)
  where
    later : (xs : List (EventKey × Group)) → AllByRecursion (λ x. IsKeyBefore e.0 x.0) xs → AllByRecursion (λ x. lookup (is_key x.0) es ≡ Some x.1) xs → AllByRecursion (λ x. lookup (is_key x.0) (e ∷ es) ≡ Some x.1) xs
    later [] before all = tt
    later (x ∷ xs) before all = (
      on_false (is_key x.0 e.0) (Some e.1) (lookup (is_key x.0) es) (key_laws.symm x.0 e.0 ∙ apart_before limits e.0 x.0 before.0) ∙ all.0,
      later xs before.1 all.1,
    )

-- ---- records by key

all_kept : (k : EventKey) (rs : List Record) → AllByRecursion (λ (r : Record). is_key k r.key ≡ true) rs → group_of k rs ≡ rs
all_kept k [] all = refl
all_kept k (r ∷ rs) all = on_true (is_key k r.key) (r ∷ group_of k rs) (group_of k rs) all.0 ∙ ap (λ (l : List Record). r ∷ l) (all_kept k rs all.1)

none_kept : (k : EventKey) (rs : List Record) → AllByRecursion (λ (r : Record). is_key k r.key ≡ false) rs → group_of k rs ≡ []
none_kept k [] all = refl
none_kept k (r ∷ rs) all = on_false (is_key k r.key) (r ∷ group_of k rs) (group_of k rs) all.0 ∙ none_kept k rs all.1

none_waits : (k : EventKey) (rs : List Record) → AllByRecursion (λ (r : Record). is_key k r.key ≡ false) rs → waits k rs ≡ false
none_waits k [] all = refl
none_waits k (r ∷ rs) all = ap (λ b. b || waits k rs) all.0 ∙ none_waits k rs all.1

or_no : (a b : Bool) → (a || b) ≡ false → (a ≡ false) × (b ≡ false)
or_no true b e = absurd (true≢false e)
or_no false b e = (refl, e)

none_there : (k : EventKey) (rs : List Record) → waits k rs ≡ false → AllByRecursion (λ (r : Record). is_key k r.key ≡ false) rs
none_there k [] e = tt
none_there k (r ∷ rs) e = let both = or_no (is_key k r.key) (waits k rs) e in (both.0, none_there k rs both.1)

-- what holds of the key of each record holds of each key that waits
waits_so : (P : EventKey → Type 0) (k : EventKey) (rs : List Record) → AllByRecursion (λ (r : Record). P r.key) rs → waits k rs ≡ true → P k
waits_so P k [] all there = absurd (true≢false (sym there))
waits_so P k (r ∷ rs) all there = by_test (is_key k r.key)
    (λ same. subst P (sym (one_key k r.key same)) all.0)
    (λ other. waits_so P k rs all.1 (ap (λ b. b || waits k rs) (sym other) ∙ there))

or_last : (a b : Bool) → b ≡ true → (a || b) ≡ true
or_last true b e = refl
or_last false b e = e

-- and the other way round
so_waits : (P : EventKey → Type 0) (rs : List Record) → ((k : EventKey) → waits k rs ≡ true → P k) → AllByRecursion (λ (r : Record). P r.key) rs
so_waits P [] holds = tt
so_waits P (r ∷ rs) holds = (
  holds r.key (or_left (is_key r.key r.key) (waits r.key rs) (key_laws.refl r.key)),
  so_waits P rs (λ k there. holds k (or_last (is_key k r.key) (waits k rs) there)),
)

-- ---- the least key

no_other : (a b : EventKey) → is_below a b ≡ false → is_below b a ≡ false → is_key a b ≡ true
no_other a b e f = grind (arith, nat_tests, e, f)

lesser_is : (x k : EventKey) → is_below x k ≡ false → lesser_key x (Some k) ≡ k
lesser_is x k not_below = by_test (is_below k x)
    (λ below. on_true (is_below k x) k x below)
    (λ other. on_false (is_below k x) k x other ∙ one_key x k (no_other x k not_below other))

-- a key that waits with none below it is the least
least_at : (k : EventKey) (rs : List Record) → waits k rs ≡ true → AllByRecursion (λ (r : Record). is_below r.key k ≡ false) rs → least_key rs ≡ Some k
least_at k [] there none = absurd (true≢false (sym there))
least_at k (r ∷ rs) there none = by_test (waits k rs)
    (λ later. ap (λ o. Some (lesser_key r.key o)) (least_at k rs later none.1) ∙ ap Some (lesser_is r.key k none.0))
    (λ gone. by_test (is_key k r.key)
    (λ same. let is = one_key k r.key same in
    ap (λ z. Some (lesser_key z (least_key rs))) (sym is) ∙ ap Some (stays_least k (least_key rs) (least_not_below k rs none.1)))
    (λ other. absurd (true≢false (sym there ∙ ap (λ b. b || waits k rs) other ∙ gone))))

same_least : (xs ys : List Record) → FirstIsLeast xs → ((k : EventKey) → waits k xs ≡ waits k ys) → least_key xs ≡ least_key ys
same_least [] ys first same = sym (ap least_key (by ys same))
  where
    by : (ys : List Record) → ((k : EventKey) → false ≡ waits k ys) → ys ≡ []
    by [] same = refl
    by (y ∷ ys) same = absurd (true≢false (sym (same y.key ∙ or_left (is_key y.key y.key) (waits y.key ys) (key_laws.refl y.key))))
same_least (x ∷ xs) ys first same =
    let there : waits x.key (x ∷ xs) ≡ true = or_left (is_key x.key x.key) (waits x.key xs) (key_laws.refl x.key) in
    let none : AllByRecursion (λ (r : Record). is_below r.key x.key ≡ false) (x ∷ xs) = (itself x.key, first) in
    least_at x.key (x ∷ xs) there none
    ∙ sym (least_at x.key ys (sym (same x.key) ∙ there) (so_waits (λ z. is_below z x.key ≡ false) ys (λ k w. waits_so (λ z. is_below z x.key ≡ false) k (x ∷ xs) none (same k ∙ w))))
  where
    itself : (k : EventKey) → is_below k k ≡ false
    itself k = grind (arith, nat_tests)

-- ---- what the groups make

module _ (limits : Limits) where
  abbrev read : List ℕ → Option Record
  read = record_of limits.line

  abbrev records_at : Option Group → List Record
  records_at None = []
  records_at (Some g) = records_in limits g.lines

  abbrev closed_at : Option Group → Bool
  closed_at None = false
  closed_at (Some g) = g.closed

  own_kept : (k key : EventKey) (lines : List (List ℕ)) → is_key k key ≡ true → AllByRecursion (IsLineOf limits.line key) lines → group_of k (records_in limits lines) ≡ records_in limits lines
  own_kept k key lines same own = all_kept k (records_in limits lines) (keyed limits (λ z. is_key k z ≡ true) key lines same own)

  others_kept : (k key : EventKey) (lines : List (List ℕ)) → is_key k key ≡ false → AllByRecursion (IsLineOf limits.line key) lines → group_of k (records_in limits lines) ≡ []
  others_kept k key lines other own = none_kept k (records_in limits lines) (keyed limits (λ z. is_key k z ≡ false) key lines other own)

  others_wait : (k key : EventKey) (lines : List (List ℕ)) → is_key k key ≡ false → AllByRecursion (IsLineOf limits.line key) lines → waits k (records_in limits lines) ≡ false
  others_wait k key lines other own = none_waits k (records_in limits lines) (keyed limits (λ z. is_key k z ≡ false) key lines other own)

  own_wait : (k key : EventKey) (lines : List (List ℕ)) → is_key k key ≡ true → lines ≢ [] → AllByRecursion (IsLineOf limits.line key) lines → waits k (records_in limits lines) ≡ true
  own_wait k key lines same some own = ap (λ z. waits z (records_in limits lines)) (one_key k key same) ∙ read_waits limits key lines some own

  -- a key waits where it is found
  flat_waits : (k : EventKey) (es : List (EventKey × Group)) → AllByRecursion (HasOwnLines limits.line) es → waits k (flat limits es) ≡ is_some (lookup (is_key k) es)
  flat_waits k [] own = refl
  flat_waits k (e ∷ es) own =
      list_any-append (λ (r : Record). is_key k r.key) (records_in limits e.1.lines) (flat limits es)
      ∙ by_test (is_key k e.0)
      (λ same. ap (λ b. b || waits k (flat limits es)) (own_wait k e.0 e.1.lines same own.0.some own.0.own) ∙ sym (ap is_some (on_true (is_key k e.0) (Some e.1) (lookup (is_key k) es) same)))
      (λ other. ap (λ b. b || waits k (flat limits es)) (others_wait k e.0 e.1.lines other own.0.own) ∙ flat_waits k es own.1 ∙ sym (ap is_some (on_false (is_key k e.0) (Some e.1) (lookup (is_key k) es) other)))

  -- its records are those of the group that is found
  flat_group : (k : EventKey) (es : List (EventKey × Group)) → KeysAscend es → AllByRecursion (HasOwnLines limits.line) es → group_of k (flat limits es) ≡ records_at (lookup (is_key k) es)
  flat_group k [] up own = refl
  flat_group k (e ∷ es) up own =
      filter-append (λ (r : Record). is_key k r.key) (records_in limits e.1.lines) (flat limits es)
      ∙ by_test (is_key k e.0)
      (λ same. let none : lookup (is_key k) es ≡ None = ap (λ z. lookup (is_key z) es) (one_key k e.0 same) ∙ none_after limits e.0 es up.0 in
      ap (λ (l : List Record). l ++ group_of k (flat limits es)) (own_kept k e.0 e.1.lines same own.0.own)
      ∙ ap (λ (l : List Record). records_in limits e.1.lines ++ l) (flat_group k es up.1 own.1 ∙ ap records_at none)
      ∙ append-nil (records_in limits e.1.lines)
      ∙ sym (ap records_at (on_true (is_key k e.0) (Some e.1) (lookup (is_key k) es) same)))
      (λ other.
      ap (λ (l : List Record). l ++ group_of k (flat limits es)) (others_kept k e.0 e.1.lines other own.0.own)
      ∙ flat_group k es up.1 own.1
      ∙ sym (ap records_at (on_false (is_key k e.0) (Some e.1) (lookup (is_key k) es) other)))

  closed_step : (a b : Bool) (g : Group) (o : Option Group) → (b ≡ true → o ≡ None) → (cond g.closed (b || a) a || closed_at o) ≡ (a || closed_at (cond b (Some g) o))
  closed_step a true g o none = ap (λ x. cond g.closed true a || closed_at x) (none refl) ∙ by g.closed a
    where
      by : (c a : Bool) → (cond c true a || false) ≡ (a || c)
      by true true = refl
      by true false = refl
      by false true = refl
      by false false = refl
  closed_step a false g o none = by g.closed
    where
      by : (c : Bool) → (cond c a a || closed_at o) ≡ (a || closed_at o)
      by true = refl
      by false = refl

  among_if : (k : EventKey) (c : Bool) (key : EventKey) (keys : List EventKey) → is_among k (cond c (key ∷ keys) keys) ≡ cond c (is_key k key || is_among k keys) (is_among k keys)
  among_if k true key keys = refl
  among_if k false key keys = refl

  -- it is closed where the group that is found is
  closed_among : (k : EventKey) (t : Joining) (es : List (EventKey × Group)) → KeysAscend es → is_among k (with_groups limits.line t es).closed ≡ (is_among k t.closed || closed_at (lookup (is_key k) es))
  closed_among k t [] up = by (is_among k t.closed)
    where
      by : (a : Bool) → a ≡ (a || false)
      by true = refl
      by false = refl
  closed_among k t (e ∷ es) up =
      closed_among k (with_group limits.line t e) es up.1
      ∙ ap (λ b. b || closed_at (lookup (is_key k) es)) (among_if k e.1.closed e.0 t.closed)
      ∙ closed_step (is_among k t.closed) (is_key k e.0) e.1 (lookup (is_key k) es) (λ same. ap (λ z. lookup (is_key z) es) (one_key k e.0 same) ∙ none_after limits e.0 es up.0)

  made : (o : Option Group) (v c : Bool) (rs : List Record) → v ≡ is_some o → c ≡ closed_at o → rs ≡ records_at o → cond v (Some (record { closed = c; records = rs })) None ≡ group_of_lines read o
  made None v c rs e f g = ap (λ b. cond b (Some (record { closed = c; records = rs })) None) e
  made (Some x) v c rs e f g = cc

  -- ---- what they are made of

  lines_own : (key : EventKey) (rs : List Record) → AreSpelled read rs → AllByRecursion (IsLineOf limits.line key) (map (λ (r : Record). r.line) (group_of key rs))
  lines_own key [] are = tt
  lines_own key (r ∷ rs) are = by (is_key key r.key) refl (lines_own key rs are.1)
    where
      by : (b : Bool) → is_key key r.key ≡ b → AllByRecursion (IsLineOf limits.line key) (map (λ (r : Record). r.line) (group_of key rs))
          → AllByRecursion (IsLineOf limits.line key) (map (λ (r : Record). r.line) (cond b (r ∷ group_of key rs) (group_of key rs)))
      by true same rest = (ap (option_map (λ (x : Record). x.key)) are.0 ∙ ap Some (sym (one_key key r.key same)), rest)
      by false other rest = rest

  no_lines : (rs : List Record) → map (λ (r : Record). r.line) rs ≡ [] → rs ≡ []
  no_lines [] e = refl
  no_lines (r ∷ rs) e = absurd (cc e)

  entry : (q : EventKey) (es : List (EventKey × Group)) → is_among q (keys_of (parts_of limits es)) ≡ is_some (lookup (is_key q) es)
  entry q [] = refl
  entry q (e ∷ es) = by (is_key q e.0) (entry q es)
    where
      by : (b : Bool) → is_among q (keys_of (parts_of limits es)) ≡ is_some (lookup (is_key q) es) → (b || is_among q (keys_of (parts_of limits es))) ≡ is_some (cond b (Some e.1) (lookup (is_key q) es))
      by true rest = refl
      by false rest = rest

  keys_wait : (q : EventKey) (rs : List Record) → is_among q (map (λ (r : Record). r.key) rs) ≡ waits q rs
  keys_wait q [] = refl
  keys_wait q (r ∷ rs) = ap (λ b. is_key q r.key || b) (keys_wait q rs)

  -- as many keys wait as there are groups
  counted : (es : List (EventKey × Group)) (rs : List Record) → KeysAscend es → ((q : EventKey) → waits q rs ≡ is_some (lookup (is_key q) es)) → length (keys_of (parts_of limits es)) ≡ count_keys rs
  counted es rs up same =
      length-from_keys key_laws (keys_of (parts_of limits es)) (map (λ (r : Record). r.key) rs) (IsDistinct-from_sorted key_cmp (keys_of (parts_of limits es)) (sorted limits es up))
      (λ q. entry q es ∙ sym (same q) ∙ sym (keys_wait q rs))

  abbrev group_if : Bool → Bool → List Record → Option AGroup
  group_if v c rs = cond v (Some (record { closed = c; records = rs })) None

  -- groups that are the same have the same parts
  parts_same : (v u c d : Bool) (rs qs : List Record) → (v ≡ false → (c ≡ false) × (rs ≡ [])) → (u ≡ false → (d ≡ false) × (qs ≡ [])) → group_if v c rs ≡ group_if u d qs → (v ≡ u) × (c ≡ d) × (rs ≡ qs)
  parts_same true true c d rs qs a b e = let same = inside _ _ e in (refl, ap (λ (g : AGroup). g.closed) same, ap (λ (g : AGroup). g.records) same)
  parts_same true false c d rs qs a b e = absurd (some_none _ e)
  parts_same false true c d rs qs a b e = absurd (some_none _ (sym e))
  parts_same false false c d rs qs a b e = (refl, (a refl).0 ∙ sym (b refl).0, (a refl).1 ∙ sym (b refl).1)

  closed_none : (o : Option Group) → is_some o ≡ false → closed_at o ≡ false
  closed_none None e = refl
  closed_none (Some g) e = absurd (true≢false e)

module _ (limits : Limits) (s : Joining) (state : StateRow) (rows : List StoreRow) (up : AscendByKey rows) (waiting : AreWaiting s (groups_of rows)) (spelled : AreSpelled (record_of limits.line) s.waiting)
    (clock : clock_of state ≡ s.clock)
    (sound : IsSound limits s) (closed_wait : (k : EventKey) → waits k s.waiting ≡ false → is_among k s.closed ≡ false) where
  abbrev groups : List (EventKey × Group)
  groups = groups_of rows

  abbrev whole : Joining
  whole = waiting_by limits state rows

  own_by : (e : EventKey × Group) → lookup (is_key e.0) groups ≡ Some e.1 → HasOwnLines limits.line e
  own_by e found = by (waits e.0 s.waiting) refl (sym found ∙ waiting e.0)
    where
      by : (b : Bool) → waits e.0 s.waiting ≡ b → Some e.1 ≡ lines_of_group (cond b (Some (record { closed = is_among e.0 s.closed; records = group_of e.0 s.waiting })) None) → HasOwnLines limits.line e
      by true there is =
          let lines : e.1.lines ≡ map (λ (r : Record). r.line) (group_of e.0 s.waiting) = ap (λ (g : Group). g.lines) (inside _ _ is) in
          record {
            some = λ none. true≢false (sym there ∙ sym (waits_own e.0 s.waiting) ∙ ap (waits e.0) (no_lines limits (group_of e.0 s.waiting) (sym lines ∙ none)));
            own = subst (AllByRecursion (IsLineOf limits.line e.0)) (sym lines) (lines_own limits e.0 s.waiting spelled);
          }
      by false gone is = absurd (some_none e.1 is)

  each : (k : EventKey) → group_of_lines (record_of limits.line) (lookup (is_key k) groups) ≡ group_at s k
  each k = waiting_restored (record_of limits.line) s groups spelled waiting k

  -- each line is a used one of its key
  all_own : AllByRecursion (HasOwnLines limits.line) groups
  all_own = every (λ e. lookup (is_key e.0) groups ≡ Some e.1) (HasOwnLines limits.line) groups own_by (each_found limits groups up)

  flat_is : whole.waiting ≡ flat limits groups
  flat_is = waiting_flat limits (fresh (clock_of state)) groups

  whole_waits : (k : EventKey) → waits k whole.waiting ≡ is_some (lookup (is_key k) groups)
  whole_waits k = ap (waits k) flat_is ∙ flat_waits limits k groups all_own

  whole_closed : (k : EventKey) → is_among k whole.closed ≡ closed_at limits (lookup (is_key k) groups)
  whole_closed k = closed_among limits k (fresh (clock_of state)) groups up

  whole_at : (k : EventKey) → group_at whole k ≡ group_of_lines (record_of limits.line) (lookup (is_key k) groups)
  whole_at k = made limits (lookup (is_key k) groups) (waits k whole.waiting) (is_among k whole.closed) (group_of k whole.waiting)
      (whole_waits k) (whole_closed k) (ap (group_of k) flat_is ∙ flat_group limits k groups up all_own)

  whole_closed_wait : (k : EventKey) → waits k whole.waiting ≡ false → is_among k whole.closed ≡ false
  whole_closed_wait k gone = whole_closed k ∙ closed_none limits (lookup (is_key k) groups) (sym (whole_waits k) ∙ gone)

  -- what the rows make has the groups of what waits
  same_at : (k : EventKey) → (waits k whole.waiting ≡ waits k s.waiting) × (is_among k whole.closed ≡ is_among k s.closed) × (group_of k whole.waiting ≡ group_of k s.waiting)
  same_at k =
      parts_same limits (waits k whole.waiting) (waits k s.waiting) (is_among k whole.closed) (is_among k s.closed) (group_of k whole.waiting) (group_of k s.waiting)
      (λ gone. (whole_closed_wait k gone, none_kept k whole.waiting (none_there k whole.waiting gone)))
      (λ gone. (closed_wait k gone, none_kept k s.waiting (none_there k s.waiting gone)))
      (whole_at k ∙ each k)

  same_clock : whole.clock ≡ s.clock
  same_clock = (leads_groups limits.line (fresh (clock_of state)) groups).clock ∙ clock

  held : IsSound limits whole
  held k = subst (λ (c : JoinClock). HeldInTurn limits c.seen [] (group_of k whole.waiting)) (sym same_clock) (subst (HeldInTurn limits s.clock.seen []) (sym (same_at k).2) (sound k))

  -- ---- the least group

  abbrev parts_with : ℕ → Joiner
  parts_with text = record { groups = parts_of limits groups; text = text; clock = s.clock; limits = limits }

  stands_s : StandsFor limits (parts_with (text_of s.waiting)) s
  stands_s = record {
    ascend = sorted limits groups up;
    each = λ k. lookup_parts limits k groups ∙ each k;
    closed_wait = closed_wait;
    text = refl;
    clock = refl;
    limits_are = refl;
  }

  stands_whole : StandsFor limits (parts_with (text_of whole.waiting)) whole
  stands_whole = record {
    ascend = sorted limits groups up;
    each = λ k. lookup_parts limits k groups ∙ sym (whole_at k);
    closed_wait = whole_closed_wait;
    text = refl;
    clock = sym same_clock;
    limits_are = refl;
  }

  same_text : IsMadeAgain → text_of whole.waiting ≡ text_of s.waiting
  same_text law =
      let again : entered limits (fresh (clock_of state)) (put_back (parts_of limits groups)) ≡ whole = entered_groups limits (fresh (clock_of state)) whole groups all_own (leads_itself whole) held in
      (law limits s (parts_with (text_of s.waiting)) (parts_with (text_of whole.waiting)) sound stands_s
      (subst (λ (c : JoinClock). StandsFor limits (parts_with (text_of whole.waiting)) (entered limits (fresh c) (put_back (parts_of limits groups)))) clock
      (subst (StandsFor limits (parts_with (text_of whole.waiting))) (sym again) stands_whole))).text

  same_count : count_keys whole.waiting ≡ count_keys s.waiting
  same_count =
      sym (counted limits groups whole.waiting up whole_waits)
      ∙ counted limits groups s.waiting up (λ q. sym (same_at q).0 ∙ whole_waits q)

  same_ripe : IsMadeAgain → (o : Option EventKey) → only_ripe limits whole o ≡ only_ripe limits s o
  same_ripe law None = refl
  same_ripe law (Some k) =
      let ripe : is_ripe_at limits whole k ≡ is_ripe_at limits s k = alike k (same_text law) in
      ap (λ b. cond b (Some k) None) ripe
    where
      alike : (k : EventKey) → text_of whole.waiting ≡ text_of s.waiting → is_ripe_at limits whole k ≡ is_ripe_at limits s k
      alike k text =
          let closed = (same_at k).1 in
          let past : is_past whole.clock.seen k.ms ≡ is_past s.clock.seen k.ms = ap (λ (c : JoinClock). is_past c.seen k.ms) same_clock in
          let count = same_count in
          cc

  -- what a store says that waits is sound
  pub rows_are_sound : IsMadeAgain → ripe_key limits s ≡ None → AreSoundWaiting limits state rows
  rows_are_sound law quiet = record {
    lines = all_own;
    held = held;
    unripe = same_ripe law (least_key whole.waiting)
        ∙ ap (only_ripe limits s) (same_least whole.waiting s.waiting (first_by limits (clock_of state) groups up all_own) (λ k. (same_at k).0)) ∙ quiet;
  }

-- ---- the laws

-- a law of the joiner: what waits after any steps is sound
abbrev pub StatesAreSound : Type 0
StatesAreSound = (limits : Limits) (steps : List Told) → IsSound limits (state_after limits start steps)

-- rows that close after a history
pub closed_sound : IsMadeAgain → StatesAreSound → (limits : Limits) (h : History) (part : ℕ) (rows : List StoreRow) → ClosesAt (moment_of limits h part) rows → AscendByKey rows → WaitsSoundly limits rows
closed_sound again states limits h part rows closes up state is =
    let m = moment_of limits h part in
    let same : state ≡ state_at m = inside _ _ (sym is ∙ closes.state) in
    rows_are_sound limits (state_of_history limits h) state rows up closes.waiting (waiting_spelled limits h) (ap clock_of same ∙ clock_restored m)
    (states limits (told_of limits h)) (closed_wait limits h) again (quiet limits h)

-- and what is found in bytes that store it
pub found_sound : IsMadeAgain → StatesAreSound → WereStored → FoundRestores → (limits : Limits) (mode : Mode) (bytes : List ℕ) (h : History) (part : ℕ) (log : Log) (found : Found)
    → StoresHistory limits mode bytes h part → IsStoreRead limits bytes (log, found) → WaitsSoundly limits found.others
found_sound again states were restores limits mode bytes h part log found stores read state is =
    by (were text_of_address limits mode bytes (moment_of limits h part) log found read stores.store).ends
  where
    by : ((found.mode ≡ None) × (found.others ≡ []) × (moment_of limits h part ≡ nothing)) ⊎ ((found.mode ≡ Some mode) × ClosesAt (moment_of limits h part) found.others) → AreSoundWaiting limits state found.others
    by (inl none) = absurd (some_none state (sym is ∙ ap rows_state none.1))
    by (inr closes) = closed_sound again states limits h part found.others closes.1 (can_restore (bounds_of limits) read.0 found read.2 restores state is).ascend state is
