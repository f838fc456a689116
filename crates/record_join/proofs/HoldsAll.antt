-- The events of a list of records hold all of them.
use Rattle.std.proofs.Common.{◌≡◌, ◌≢◌, ◌+◌, ◌<◌, ◌≤◌, Bool, true, false, cond, List, [], ◌∷◌, ◌++◌, length, refl, sym, ◌∙◌, ap, subst, append_assoc, append-nil, Some, None, arith, ℕ, zero, suc}
use Rattle.std.specs.Prelude.{Option, ◌||◌, filter, not}
use Rattle.std.specs.List.{list_any, AllByRecursion, IsDistinct, flat_map}
use Rattle.std.specs.List.Sorted.{IsStrictlySortedBy}
use Rattle.std.specs.Option.{option_to_list}
use Rattle.std.proofs.lemmas.Bool.{true≢false, or_left}
use Rattle.std.proofs.lemmas.List.Elements.{filter-append, All-from_recursion, recursion_from_All}
use Rattle.std.proofs.lemmas.List.Folds.{list_any-append}
use Rattle.std.proofs.lemmas.Map.Keys.{IsDistinct-head, IsDistinct-tail}
use Rattle.std.specs.Prelude.{⊤}
use Rattle.std.specs.Ordering.{is_eq, is_gt}
use Rattle.std.specs.declared.cmp.Ordering.{Ordering}
use Rattle.std.specs.declared.cmp.Ordering.TheVariants.{Less, Equal, Greater}
use Rattle.record_join.specs.Keys.{key_cmp, is_key, is_below, ends_event}
use Rattle.record_join.specs.Events.{Joining, group_of, waits, is_among, least_key, is_excess, close, put, enter, settled, is_ripe_at, only_ripe, ripe_key, without, event_at, left_at, next_event, next_left, saw, greater_key, is_above}
use Rattle.record_join.specs.History.{Step, Came, Settle, start, released, left, told, released_after, left_after, events, state, kept, keys_of_events, IsInOrder, HoldsAll}
use Rattle.audit_lex.specs.declared.header.EventKey.{EventKey}
use Rattle.audit_record.specs.declared.types.Record.{Record}
use Rattle.flow_base.specs.declared.limits.Limits.{Limits}
use Rattle.record_join.specs.declared.event.Event.{Event}
use Rattle.record_join.proofs.Keys.{key_laws, one_key}
use Rattle.record_join.proofs.Lists.{at_apart, any_apart, any_map}
use Rattle.record_join.proofs.Least.{least_is, least_none, not_below_through, below_turned}
use Rattle.record_join.proofs.Groups.{by_test, on_true, on_false}

-- ---- the records of a key among events

-- the records of the events of a key
abbrev pub of_key : EventKey → List Event → List Record
of_key k events = flat_map (λ e. cond (is_key k e.key) e.records []) events

of_key_append : (k : EventKey) (xs ys : List Event) → of_key k (xs ++ ys) ≡ of_key k xs ++ of_key k ys
of_key_append k [] ys = refl
of_key_append k (x ∷ xs) ys =
    ap (λ (rs : List Record). cond (is_key k x.key) x.records [] ++ rs) (of_key_append k xs ys)
    ∙ sym (append_assoc (cond (is_key k x.key) x.records []) (of_key k xs) (of_key k ys))

-- a release hands on the records of its key, and leaves the others
release_keeps : (s : Joining) (m k : EventKey) → group_of k s.waiting ≡ cond (is_key k m) (group_of m s.waiting) [] ++ group_of k (without s m).waiting
release_keeps s m k = by_test (is_key k m)
    (λ same.
    let back : is_key m k ≡ true = key_laws.symm m k ∙ same in
    ap (λ (q : EventKey). group_of q s.waiting) (one_key k m same)
    ∙ sym (append-nil (group_of m s.waiting))
    ∙ sym (joined (on_true (is_key k m) (group_of m s.waiting) [] same) (at_apart (λ (r : Record). r.key) is_key key_laws m k s.waiting ∙ on_true _ _ _ back)))
    (λ other.
    let back : is_key m k ≡ false = key_laws.symm m k ∙ other in
    sym (joined (on_false (is_key k m) (group_of m s.waiting) [] other) (at_apart (λ (r : Record). r.key) is_key key_laws m k s.waiting ∙ on_false _ _ _ back)))
  where
    joined : {xs ys zs ws : List Record} → xs ≡ ys → zs ≡ ws → xs ++ zs ≡ ys ++ ws
    joined e f = cc

next_keeps : (s : Joining) (k : EventKey) (o : Option EventKey) → group_of k s.waiting ≡ of_key k (option_to_list (event_at s o)) ++ group_of k (left_at s o).waiting
next_keeps s k None = refl
next_keeps s k (Some m) = release_keeps s m k ∙ ap (λ (rs : List Record). rs ++ group_of k (without s m).waiting) (sym (append-nil (cond (is_key k m) (group_of m s.waiting) [])))

two_parts : (g a b c d e : List Record) → g ≡ a ++ b → b ≡ c ++ d → e ≡ a ++ c → g ≡ e ++ d
two_parts g a b c d e p q r = p ∙ ap (λ (xs : List Record). a ++ xs) q ∙ sym (append_assoc a c d) ∙ ap (λ (xs : List Record). xs ++ d) (sym r)

-- the record of a step, where it isn't the end of an event
abbrev own : Step → List Record
own (Came r) = cond (ends_event r) [] (r ∷ [])
own Settle = []

first_or_not : (b : Bool) (r : Record) (rs : List Record) → cond b rs (r ∷ rs) ≡ cond b [] (r ∷ []) ++ rs
first_or_not true r rs = refl
first_or_not false r rs = refl

kept_more : (step : Step) (steps : List Step) → kept (step ∷ steps) ≡ own step ++ kept steps
kept_more (Came r) steps = first_or_not (ends_event r) r (kept steps)
kept_more Settle steps = refl

regroup : (w o n t a u e v k f : List Record) → k ≡ o ++ n → w ++ o ≡ t → t ≡ a ++ u → u ++ n ≡ e ++ v → f ≡ a ++ e → w ++ k ≡ f ++ v
regroup w o n t a u e v k f kept told rel rest all =
    ap (λ (xs : List Record). w ++ xs) kept
    ∙ sym (append_assoc w o n)
    ∙ ap (λ (xs : List Record). xs ++ n) (told ∙ rel)
    ∙ append_assoc a u n
    ∙ ap (λ (xs : List Record). a ++ xs) rest
    ∙ sym (append_assoc a e v)
    ∙ ap (λ (xs : List Record). xs ++ v) (sym all)

-- each key that waits is closed
abbrev AllClosed : Joining → Type 0
AllClosed s = (k : EventKey) → waits k s.waiting ≡ true → is_among k s.closed ≡ true

closed_is_ripe : (c p g t : Bool) → c ≡ true → (c || p || g || t) ≡ true
closed_is_ripe c p g t e = ap (λ b. b || p || g || t) e

pub no_length : {A : Type 0} (xs : List A) → length xs ≤ 0 → xs ≡ []
no_length [] e = refl
no_length (x ∷ xs) e = absurd (omega arith)

-- what passes a test somewhere is shorter without
no_longer : {A : Type 0} (p : A → Bool) (xs : List A) → length (filter (λ x. not (p x)) xs) ≤ length xs
no_longer p [] = omega arith
no_longer p (x ∷ xs) = let ih = no_longer p xs in grind (arith, ih)

pub shorter : {A : Type 0} (p : A → Bool) (xs : List A) → list_any p xs ≡ true → length (filter (λ x. not (p x)) xs) < length xs
shorter p [] e = absurd (true≢false (sym e))
shorter p (x ∷ xs) e = let ih = shorter p xs in let le = no_longer p xs in grind (arith, ih, le, e)

module _ (limits : Limits) where
  releases_keep : (n : ℕ) (s : Joining) (k : EventKey) → group_of k s.waiting ≡ of_key k (released n limits s) ++ group_of k (left n limits s).waiting
  releases_keep zero s k = refl
  releases_keep (suc n) s k = two_parts _ _ _ _ _ _ (next_keeps s k (ripe_key limits s)) (releases_keep n (next_left limits s) k)
      (of_key_append k (option_to_list (next_event limits s)) (released n limits (next_left limits s)))

  -- ---- no record is in excess

  next_excess : (s : Joining) (o : Option EventKey) → (left_at s o).excess ≡ s.excess
  next_excess s None = refl
  next_excess s (Some m) = refl

  releases_excess : (n : ℕ) (s : Joining) → (left n limits s).excess ≡ s.excess
  releases_excess zero s = refl
  releases_excess (suc n) s = releases_excess n (next_left limits s) ∙ next_excess s (ripe_key limits s)

  close_excess : (s : Joining) (k : EventKey) (b : Bool) → (cond b (record s { closed = k ∷ s.closed }) s).excess ≡ s.excess
  close_excess s k true = refl
  close_excess s k false = refl

  close_waiting : (s : Joining) (k : EventKey) (b : Bool) → (cond b (record s { closed = k ∷ s.closed }) s).waiting ≡ s.waiting
  close_waiting s k true = refl
  close_waiting s k false = refl

  -- a record that ends its event, one in excess, and one that is held
  pub entered : (s : Joining) (r : Record) (b x : Bool) → ends_event r ≡ b → is_excess limits (group_of r.key s.waiting) r ≡ x
      → ((enter limits s r).excess ≡ s.excess + cond b 0 (cond x 1 0)) × ((enter limits s r).waiting ≡ s.waiting ++ cond b [] (cond x [] (r ∷ [])))
  entered s r true x e f =
      let now : Joining = record s { clock = saw s.clock r.key.ms } in (
        ap (λ (t : Joining). t.excess) (on_true (ends_event r) (close now r.key) (put limits now r) e) ∙ close_excess now r.key (waits r.key s.waiting) ∙ omega arith,
        ap (λ (t : Joining). t.waiting) (on_true (ends_event r) (close now r.key) (put limits now r) e) ∙ close_waiting now r.key (waits r.key s.waiting) ∙ sym (append-nil s.waiting),
      )
  entered s r false true e f =
      let now : Joining = record s { clock = saw s.clock r.key.ms } in
      let is : enter limits s r ≡ record now { excess = suc s.excess } = on_false (ends_event r) (close now r.key) (put limits now r) e ∙ on_true (is_excess limits (group_of r.key s.waiting) r) _ _ f in
      (ap (λ (t : Joining). t.excess) is ∙ omega arith, ap (λ (t : Joining). t.waiting) is ∙ sym (append-nil s.waiting))
  entered s r false false e f =
      let now : Joining = record s { clock = saw s.clock r.key.ms } in
      let is : enter limits s r ≡ record now { waiting = s.waiting ++ r ∷ [] } = on_false (ends_event r) (close now r.key) (put limits now r) e ∙ on_false (is_excess limits (group_of r.key s.waiting) r) _ _ f in
      (ap (λ (t : Joining). t.excess) is ∙ omega arith, ap (λ (t : Joining). t.waiting) is)

  told_excess : (s : Joining) (step : Step) → s.excess ≤ (told limits s step).excess
  told_excess s (Came r) = let e = (entered s r (ends_event r) (is_excess limits (group_of r.key s.waiting) r) refl refl).0 in omega arith
  told_excess s Settle = omega arith

  step_excess : (s : Joining) (step : Step) → s.excess ≤ (left_after limits (told limits s step)).excess
  step_excess s step =
      let e = releases_excess (length (told limits s step).waiting) (told limits s step) in
      let h = told_excess s step in
      omega arith

  excess_grows : (s : Joining) (steps : List Step) → s.excess ≤ (state limits s steps).excess
  excess_grows s [] = omega arith
  excess_grows s (step ∷ steps) =
      let h = excess_grows (left_after limits (told limits s step)) steps in
      let g = step_excess s step in
      omega arith

  -- ---- the records of a key are in the events or wait

  one_more_excess : (n m : ℕ) → m ≡ n → m ≡ n + 1 → ⊥
  one_more_excess n m e f = omega arith

  held_own : (n m : ℕ) (r : Record) (b x : Bool) → m ≡ n → m ≡ n + cond b 0 (cond x 1 0) → ends_event r ≡ b → cond b [] (cond x [] (r ∷ [])) ≡ own (Came r)
  held_own n m r true x e f g = sym (on_true (ends_event r) [] (r ∷ []) g)
  held_own n m r false true e f g = absurd (one_more_excess n m e f)
  held_own n m r false false e f g = sym (on_false (ends_event r) [] (r ∷ []) g)

  told_keeps : (s : Joining) (step : Step) (k : EventKey) → (told limits s step).excess ≡ s.excess
      → group_of k s.waiting ++ group_of k (own step) ≡ group_of k (told limits s step).waiting
  told_keeps s (Came r) k none =
      let b = ends_event r in
      let x = is_excess limits (group_of r.key s.waiting) r in
      let in_it = entered s r b x refl refl in
      sym (ap (group_of k) (in_it.1 ∙ ap (λ (rs : List Record). s.waiting ++ rs) (held_own s.excess (enter limits s r).excess r b x none in_it.0 refl))
      ∙ filter-append (λ (y : Record). is_key k y.key) s.waiting (own (Came r)))
  told_keeps s Settle k none = append-nil (group_of k s.waiting)

  keeps_all : (s : Joining) (steps : List Step) (k : EventKey) → (state limits s steps).excess ≡ s.excess
      → group_of k s.waiting ++ group_of k (kept steps) ≡ of_key k (events limits s steps) ++ group_of k (state limits s steps).waiting
  keeps_all s [] k none = append-nil (group_of k s.waiting)
  keeps_all s (step ∷ steps) k none =
      let t : Joining = told limits s step in
      let u : Joining = left_after limits t in
      let a = told_excess s step in
      let b : u.excess ≡ t.excess = releases_excess (length t.waiting) t in
      let c = excess_grows u steps in
      let told_none : t.excess ≡ s.excess = omega arith in
      let rest_none : (state limits u steps).excess ≡ u.excess = omega arith in
      regroup (group_of k s.waiting) (group_of k (own step)) (group_of k (kept steps)) (group_of k t.waiting) (of_key k (released_after limits t)) (group_of k u.waiting)
      (of_key k (events limits u steps)) (group_of k (state limits u steps).waiting) (group_of k (kept (step ∷ steps))) (of_key k (events limits s (step ∷ steps)))
      (ap (group_of k) (kept_more step steps) ∙ filter-append (λ (r : Record). is_key k r.key) (own step) (kept steps))
      (told_keeps s step k told_none)
      (releases_keep (length t.waiting) t k)
      (keeps_all u steps k rest_none)
      (of_key_append k (released_after limits t) (events limits u steps))

  -- ---- a settle releases all

  next_closed : (s : Joining) (o : Option EventKey) → AllClosed s → AllClosed (left_at s o)
  next_closed s None all = all
  next_closed s (Some m) all = λ k w.
      any_apart (λ (c : EventKey). c) is_key key_laws m k s.closed
      ∙ by_test (is_key m k)
      (λ same. absurd (true≢false (sym w ∙ any_apart (λ (r : Record). r.key) is_key key_laws m k s.waiting ∙ on_true _ _ _ same)))
      (λ other. on_false _ _ _ other ∙ all k (sym (on_false _ _ _ other) ∙ sym (any_apart (λ (r : Record). r.key) is_key key_laws m k s.waiting) ∙ w))

  -- where all is closed, the least key is released
  least_goes : (s : Joining) (o : Option EventKey) → least_key s.waiting ≡ o → AllClosed s → ripe_key limits s ≡ o
  least_goes s None l all = ap (only_ripe limits s) l
  least_goes s (Some m) l all =
      ap (only_ripe limits s) l
      ∙ on_true (is_ripe_at limits s m) (Some m) None (closed_is_ripe (is_among m s.closed) _ _ _ (all m (least_is s.waiting m l).there))

  one_less : (n a b : ℕ) → b < a → a ≤ suc n → b ≤ n
  one_less n a b e f = omega arith

  settle_next : (n : ℕ) (s : Joining) → length s.waiting ≤ suc n → AllClosed s
      → ((t : Joining) → length t.waiting ≤ n → AllClosed t → (left n limits t).waiting ≡ [])
      → (o : Option EventKey) → least_key s.waiting ≡ o → (left n limits (next_left limits s)).waiting ≡ []
  settle_next n s short all rest None l =
      let gone : next_left limits s ≡ s = ap (left_at s) (least_goes s None l all) in
      let empty : s.waiting ≡ [] = least_none s.waiting l in
      ap (λ (t : Joining). (left n limits t).waiting) gone
      ∙ rest s (subst (λ (rs : List Record). length rs ≤ n) (sym empty) (omega arith)) all
  settle_next n s short all rest (Some m) l =
      let gone : next_left limits s ≡ without s m = ap (left_at s) (least_goes s (Some m) l all) in
      ap (λ (t : Joining). (left n limits t).waiting) gone
      ∙ rest (without s m)
      (one_less n (length s.waiting) (length (without s m).waiting) (shorter (λ (r : Record). is_key m r.key) s.waiting (least_is s.waiting m l).there) short)
      (next_closed s (Some m) all)

  settle_releases : (n : ℕ) (s : Joining) → length s.waiting ≤ n → AllClosed s → (left n limits s).waiting ≡ []
  settle_releases zero s short all = no_length s.waiting short
  settle_releases (suc n) s short all = settle_next n s short all (settle_releases n) (least_key s.waiting) refl

  settled_closed : (s : Joining) → AllClosed (settled s)
  settled_closed s = λ k w. any_map (λ (r : Record). r.key) (is_key k) s.waiting ∙ w

  pub state_append : (s : Joining) (xs ys : List Step) → state limits s (xs ++ ys) ≡ state limits (state limits s xs) ys
  state_append s [] ys = refl
  state_append s (x ∷ xs) ys = state_append (left_after limits (told limits s x)) xs ys

  pub settle_empties : (s : Joining) (before : List Step) → (state limits s (before ++ Settle ∷ [])).waiting ≡ []
  settle_empties s before =
      let t : Joining = state limits s before in
      ap (λ (u : Joining). u.waiting) (state_append s before (Settle ∷ []))
      ∙ settle_releases (length (settled t).waiting) (settled t) (omega arith) (settled_closed t)

none_some : {A : Type 0} (m : A) → None ≡ Some m → ⊥
none_some m e = cc

cond_is : {A : Type 0} (b : Bool) (x m : A) → cond b (Some x) None ≡ Some m → x ≡ m
cond_is true x m e = cc
cond_is false x m e = absurd (none_some m e)

-- ---- each event has records of its key

-- an event has a record of its key
abbrev HasOwn : Event → Type 0
HasOwn e = waits e.key e.records ≡ true

kept_own : (b c : Bool) (k : EventKey) (r : Record) (rs : List Record) → is_key k r.key ≡ b → waits k rs ≡ c → waits k (cond b (r ∷ rs) rs) ≡ (b || c)
kept_own true c k r rs e f = or_left (is_key k r.key) (waits k rs) e
kept_own false c k r rs e f = f

pub waits_own : (k : EventKey) (rs : List Record) → waits k (group_of k rs) ≡ waits k rs
waits_own k [] = refl
waits_own k (r ∷ rs) = kept_own (is_key k r.key) (waits k rs) k r (group_of k rs) refl (waits_own k rs)

all_append : {A : Type 0} (P : A → Type 0) (xs ys : List A) → AllByRecursion P xs → AllByRecursion P ys → AllByRecursion P (xs ++ ys)
all_append P [] ys a b = b
all_append P (x ∷ xs) ys a b = (a.0, all_append P xs ys a.1 b)

module _ (limits : Limits) where
  pub ripe_waits : (s : Joining) (o : Option EventKey) → least_key s.waiting ≡ o → (m : EventKey) → only_ripe limits s o ≡ Some m → waits m s.waiting ≡ true
  ripe_waits s None l m e = absurd (none_some m e)
  ripe_waits s (Some k) l m e = subst (λ z. waits z s.waiting ≡ true) (cond_is (is_ripe_at limits s k) k m e) (least_is s.waiting k l).there

  next_own : (s : Joining) (o : Option EventKey) → ripe_key limits s ≡ o → AllByRecursion HasOwn (option_to_list (event_at s o))
  next_own s None e = tt
  next_own s (Some m) e = (waits_own m s.waiting ∙ ripe_waits s (least_key s.waiting) refl m e, tt)

  releases_own : (n : ℕ) (s : Joining) → AllByRecursion HasOwn (released n limits s)
  releases_own zero s = tt
  releases_own (suc n) s = all_append HasOwn (option_to_list (next_event limits s)) (released n limits (next_left limits s)) (next_own s (ripe_key limits s) refl) (releases_own n (next_left limits s))

  events_own : (s : Joining) (steps : List Step) → AllByRecursion HasOwn (events limits s steps)
  events_own s [] = tt
  events_own s (step ∷ steps) = all_append HasOwn (released_after limits (told limits s step)) (events limits (left_after limits (told limits s step)) steps)
      (releases_own (length (told limits s step).waiting) (told limits s step)) (events_own (left_after limits (told limits s step)) steps)

-- ---- the keys of events that aren't late ascend

-- the lateness of each event is that of the keys before it
abbrev pub LateIs : Option EventKey → List Event → Type 0
LateIs top [] = ⊤
LateIs top (e ∷ es) = (e.late ≡ is_above top e.key) × LateIs (Some (greater_key top e.key)) es

-- the greatest key once these are released
abbrev pub top_after : Option EventKey → List Event → Option EventKey
top_after top [] = top
top_after top (e ∷ es) = top_after (Some (greater_key top e.key)) es

late_append : (top : Option EventKey) (xs ys : List Event) → LateIs top xs → LateIs (top_after top xs) ys → LateIs top (xs ++ ys)
late_append top [] ys a b = b
late_append top (x ∷ xs) ys a b = (a.0, late_append (Some (greater_key top x.key)) xs ys a.1 b)

top_append : (top : Option EventKey) (xs ys : List Event) → top_after top (xs ++ ys) ≡ top_after (top_after top xs) ys
top_append top [] ys = refl
top_append top (x ∷ xs) ys = top_append (Some (greater_key top x.key)) xs ys

close_released : (s : Joining) (k : EventKey) (b : Bool) → (cond b (record s { closed = k ∷ s.closed }) s).clock.released ≡ s.clock.released
close_released s k true = refl
close_released s k false = refl

put_released : (s : Joining) (ws : List Record) (n : ℕ) (b : Bool) → (cond b (record s { excess = n }) (record s { waiting = ws })).clock.released ≡ s.clock.released
put_released s ws n true = refl
put_released s ws n false = refl

either_released : (s t : Joining) (b : Bool) (top : Option EventKey) → s.clock.released ≡ top → t.clock.released ≡ top → (cond b s t).clock.released ≡ top
either_released s t true top e f = e
either_released s t false top e f = f

module _ (limits : Limits) where
  next_late : (s : Joining) (o : Option EventKey) → LateIs s.clock.released (option_to_list (event_at s o)) × (top_after s.clock.released (option_to_list (event_at s o)) ≡ (left_at s o).clock.released)
  next_late s None = (tt, refl)
  next_late s (Some m) = ((refl, tt), refl)

  releases_late : (n : ℕ) (s : Joining) → LateIs s.clock.released (released n limits s) × (top_after s.clock.released (released n limits s) ≡ (left n limits s).clock.released)
  releases_late zero s = (tt, refl)
  releases_late (suc n) s =
      let a = next_late s (ripe_key limits s) in
      let b = releases_late n (next_left limits s) in
      let xs : List Event = option_to_list (next_event limits s) in
      let ys : List Event = released n limits (next_left limits s) in (
        late_append s.clock.released xs ys a.0 (subst (λ top. LateIs top ys) (sym a.1) b.0),
        top_append s.clock.released xs ys ∙ ap (λ top. top_after top ys) a.1 ∙ b.1,
      )

  pub told_released : (s : Joining) (step : Step) → (told limits s step).clock.released ≡ s.clock.released
  told_released s (Came r) =
      let now : Joining = record s { clock = saw s.clock r.key.ms } in
      either_released (close now r.key) (put limits now r) (ends_event r) s.clock.released
      (close_released now r.key (waits r.key s.waiting))
      (put_released now (s.waiting ++ r ∷ []) (suc s.excess) (is_excess limits (group_of r.key s.waiting) r))
  told_released s Settle = refl

  pub events_late : (s : Joining) (steps : List Step) → LateIs s.clock.released (events limits s steps)
  events_late s [] = tt
  events_late s (step ∷ steps) =
      let t : Joining = told limits s step in
      let u : Joining = left_after limits t in
      let a = releases_late (length t.waiting) t in
      let same = told_released s step in
      let xs : List Event = released_after limits t in
      let ys : List Event = events limits u steps in
      subst (λ top. LateIs top (xs ++ ys)) same
      (late_append t.clock.released xs ys a.0 (subst (λ top. LateIs top ys) (sym a.1) (events_late u steps)))

-- a key that isn't late is the greatest from then on
not_late_top : (top : Option EventKey) (k : EventKey) → is_above top k ≡ false → greater_key top k ≡ k
not_late_top None k e = refl
not_late_top (Some r) k e = on_false (is_below k r) r k e

abbrev IsOnTime : Event → Type 0
IsOnTime e = e.late ≡ false

-- no later key is below
none_under : (k : EventKey) (es : List Event) → LateIs (Some k) es → AllByRecursion IsOnTime es → AllByRecursion (λ y. is_below y k ≡ false) (keys_of_events es)
none_under k [] l a = tt
none_under k (e ∷ es) l a =
    let not_late : is_below e.key k ≡ false = sym l.0 ∙ a.0 in
    let rest = none_under e.key es (subst (λ z. LateIs (Some z) es) (not_late_top (Some k) e.key not_late) l.1) a.1 in
    (not_late, under_all (keys_of_events es) rest not_late)
  where
    under_all : (ks : List EventKey) → AllByRecursion (λ y. is_below y e.key ≡ false) ks → is_below e.key k ≡ false → AllByRecursion (λ y. is_below y k ≡ false) ks
    under_all [] a n = tt
    under_all (y ∷ ks) a n = (not_below_through y e.key k a.0 n, under_all ks a.1 n)

only_less : (o : Ordering) → is_gt o ≡ false → is_eq o ≡ false → o ≡ Less
only_less Less e f = refl
only_less Equal e f = absurd (true≢false f)
only_less Greater e f = absurd (true≢false e)

strictly : (k : EventKey) (ks : List EventKey) → AllByRecursion (λ y. is_below y k ≡ false) ks → AllByRecursion (λ y. is_key k y ≡ false) ks → AllByRecursion (λ y. key_cmp k y ≡ Less) ks
strictly k [] a b = tt
strictly k (y ∷ ks) a b = (only_less (key_cmp k y) (sym (below_turned y k) ∙ a.0) b.0, strictly k ks a.1 b.1)

ascending : (top : Option EventKey) (es : List Event) → LateIs top es → AllByRecursion IsOnTime es → IsDistinct is_key (keys_of_events es) → IsStrictlySortedBy key_cmp (keys_of_events es)
unfolding IsStrictlySortedBy
ascending top [] l a d = tt
ascending top (e ∷ es) l a d =
    let later = subst (λ z. LateIs (Some z) es) (not_late_top top e.key (sym l.0 ∙ a.0)) l.1 in (
      strictly e.key (keys_of_events es) (none_under e.key es later a.1) (IsDistinct-head is_key e.key (keys_of_events es) d),
      ascending (Some e.key) es later a.1 (IsDistinct-tail is_key e.key (keys_of_events es) d),
    )

-- ---- the records of a key are those of its one event

none_of_key : (k : EventKey) (es : List Event) → AllByRecursion (λ y. is_key k y ≡ false) (keys_of_events es) → of_key k es ≡ []
none_of_key k [] a = refl
none_of_key k (e ∷ es) a = joined_nil (on_false (is_key k e.key) e.records [] a.0) (none_of_key k es a.1)
  where
    joined_nil : {xs ys : List Record} → xs ≡ [] → ys ≡ [] → xs ++ ys ≡ []
    joined_nil e f = cc

-- the records of each event of a list are those of its key among more events, where the rest has none of them
one_event : (es : List Event) → IsDistinct is_key (keys_of_events es) → AllByRecursion (λ e. of_key e.key es ≡ e.records) es
one_event [] d = tt
one_event (x ∷ es) d =
    let apart = IsDistinct-head is_key x.key (keys_of_events es) d in (
      ap (λ (rs : List Record). cond (is_key x.key x.key) x.records [] ++ rs) (none_of_key x.key es apart)
          ∙ append-nil (cond (is_key x.key x.key) x.records []) ∙ on_true (is_key x.key x.key) x.records [] (key_laws.refl x.key),
      skip_first x es es apart (one_event es (IsDistinct-tail is_key x.key (keys_of_events es) d)),
    )
  where
    skip_first : (x : Event) (all es : List Event) → AllByRecursion (λ y. is_key x.key y ≡ false) (keys_of_events es) → AllByRecursion (λ e. of_key e.key all ≡ e.records) es → AllByRecursion (λ e. of_key e.key (x ∷ all) ≡ e.records) es
    skip_first x all [] a b = tt
    skip_first x all (e ∷ es) a b = (
      ap (λ (rs : List Record). rs ++ of_key e.key all) (on_false (is_key e.key x.key) x.records [] (key_laws.symm e.key x.key ∙ a.0)) ∙ b.0,
      skip_first x all es a.1 b.1,
    )

-- a key has records among the events where it is one of their keys
waits_of_key : (k : EventKey) (es : List Event) → AllByRecursion HasOwn es → waits k (of_key k es) ≡ list_any (is_key k) (keys_of_events es)
waits_of_key k [] a = refl
waits_of_key k (e ∷ es) a =
    list_any-append (λ (r : Record). is_key k r.key) (cond (is_key k e.key) e.records []) (of_key k es)
    ∙ both_or (waits k (cond (is_key k e.key) e.records [])) (is_key k e.key) (waits k (of_key k es)) (list_any (is_key k) (keys_of_events es)) (own_event k e a.0) (waits_of_key k es a.1)
  where
    both_or : (a b c d : Bool) → a ≡ b → c ≡ d → (a || c) ≡ (b || d)
    both_or a b c d e f = cc

    own_event : (k : EventKey) (e : Event) → HasOwn e → waits k (cond (is_key k e.key) e.records []) ≡ is_key k e.key
    own_event k e own = by_test (is_key k e.key)
        (λ same. ap (waits k) (on_true _ _ _ same) ∙ ap (λ (q : EventKey). waits q e.records) (one_key k e.key same) ∙ own ∙ sym same)
        (λ other. ap (waits k) (on_false _ _ _ other) ∙ sym other)

all_map : {A : Type 0} (P Q : A → Type 0) (xs : List A) → ((x : A) → P x → Q x) → AllByRecursion P xs → AllByRecursion Q xs
all_map P Q [] f a = tt
all_map P Q (x ∷ xs) f a = (f x a.0, all_map P Q xs f a.1)

own_filled : (e : Event) → HasOwn e → e.records ≢ []
own_filled e own none = true≢false (sym own ∙ ap (waits e.key) none)

-- the law
pub holds_all : (limits : Limits) (steps : List Step) → IsInOrder limits steps → HoldsAll steps (events limits start steps)
holds_all limits steps order =
    let es : List Event = events limits start steps in
    let empty : (state limits start steps).waiting ≡ [] =
    ap (λ (xs : List Step). (state limits start xs).waiting) order.settles.1 ∙ settle_empties limits start order.settles.0 in
    let all : (k : EventKey) → group_of k (kept steps) ≡ of_key k es =
    λ k. keeps_all limits start steps k order.none_in_excess ∙ ap (λ (rs : List Record). of_key k es ++ group_of k rs) empty ∙ append-nil (of_key k es) in
    record {
      records = All-from_recursion (λ e. e.records ≡ group_of e.key (kept steps)) es
          (all_map (λ e. of_key e.key es ≡ e.records) (λ e. e.records ≡ group_of e.key (kept steps)) es (λ e is. sym is ∙ sym (all e.key)) (one_event es order.none_twice));
      filled = All-from_recursion (λ e. e.records ≢ []) es (all_map HasOwn (λ e. e.records ≢ []) es own_filled (events_own limits start steps));
      keys = λ k. sym (waits_own k (kept steps)) ∙ ap (waits k) (all k) ∙ waits_of_key k es (events_own limits start steps);
      ascend = ascending None es (events_late limits start steps) (recursion_from_All IsOnTime es order.none_late) order.none_twice;
    }
