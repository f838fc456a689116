-- The list of what one process holds.
use Rattle.std.proofs.Common.{◌≡◌, ◌≢◌, ◌==◌, ◌/◌, ◌%◌, ◌<◌, ◌≤◌, ◌+◌, ◌*◌, ◌-◌, ◌^◌, ◌∙◌, ℕ, zero, suc, Bool, true, false, not, cond, List, [], ◌∷◌, ◌++◌, map, drop, Option, Some, None, nat_lt, nat_eq, is_some, ◌||◌, true≢false, inl, inr, refl, sym, ap, subst, arith, if◌then◌else◌}
use Rattle.std.specs.List.{AllByRecursion, list_any}
use Rattle.std.proofs.lemmas.Grind.{common_steps}
use Rattle.std.proofs.lemmas.Bool.{cases_lt, cases_order}
use Rattle.std.proofs.lemmas.Bool.Decides.{nat_tests}
use Rattle.acts.specs.declared.held.Held.{Held}
use Rattle.acts.specs.declared.held.Object.{Object}
use Rattle.fd_table.specs.declared.tree.Holding.{Holding}
use Rattle.fd_table.specs.declared.entries.FdEntry.{FdEntry}
use Rattle.fd_table.specs.declared.entries.Course.{Course}
use Rattle.fd_table.specs.Trees.{at, child}
use Rattle.fd_table.specs.Numbers.{short_path, long_path}
use Rattle.fd_table.specs.Holdings.{object_at, with_mark, or_else, held_by, held_in}
use Rattle.fd_table.specs.Entries.{entry_of, Ascends, chosen, entry_if, leaf, below, entries_in, room_below}
use Rattle.fd_table.specs.Table.{is_marked}
use Rattle.fd_table.proofs.TreeLemmas.{empty_at}
use Rattle.fd_table.proofs.MoveLemmas.{child_past}

abbrev IsBefore : FdEntry → FdEntry → Type 0
IsBefore x y = x.fd < y.fd

-- ---- lists of entries

all_append : (P : FdEntry → Type 0) (xs ys : List FdEntry) → AllByRecursion P xs → AllByRecursion P ys → AllByRecursion P (xs ++ ys)
all_append P [] ys all rest = rest
all_append P (x ∷ xs) ys all rest = (all.0, all_append P xs ys all.1 rest)

all_weaker : (P Q : FdEntry → Type 0) → ((x : FdEntry) → P x → Q x) → (xs : List FdEntry) → AllByRecursion P xs → AllByRecursion Q xs
all_weaker P Q weaker [] all = tt
all_weaker P Q weaker (x ∷ xs) all = (weaker x all.0, all_weaker P Q weaker xs all.1)

ascends_append : (xs ys : List FdEntry) → Ascends IsBefore xs → Ascends IsBefore ys → AllByRecursion (λ x. AllByRecursion (IsBefore x) ys) xs → Ascends IsBefore (xs ++ ys)
ascends_append [] ys first second across = second
ascends_append (x ∷ xs) ys first second across = (all_append (IsBefore x) xs ys first.0 across.0, ascends_append xs ys first.1 second across.1)

entry_append : (xs ys : List FdEntry) (n : ℕ) → entry_of (xs ++ ys) n ≡ or_else (entry_of xs n) (entry_of ys n)
entry_append [] ys n = refl
entry_append (x ∷ xs) ys n = by (x.fd == n) (entry_append xs ys n)
  where
    by : (b : Bool) → entry_of (xs ++ ys) n ≡ or_else (entry_of xs n) (entry_of ys n)
        → cond b (Some x.held) (entry_of (xs ++ ys) n) ≡ or_else (cond b (Some x.held) (entry_of xs n)) (entry_of ys n)
    by true rest = refl
    by false rest = rest

no_entry : (xs : List FdEntry) (n : ℕ) → AllByRecursion (λ x. x.fd ≢ n) xs → entry_of xs n ≡ None
no_entry [] n all = refl
no_entry (x ∷ xs) n all = by (x.fd == n) refl (no_entry xs n all.1)
  where
    by : (b : Bool) → (x.fd == n) ≡ b → entry_of xs n ≡ None → cond b (Some x.held) (entry_of xs n) ≡ None
    by true is rest = let apart = all.0 in absurd (grind (arith, common_steps))
    by false is rest = rest

or_none : (held : Option Held) → or_else held None ≡ held
or_none None = refl
or_none (Some held) = refl

-- ---- what stands below each digit

all_below : (P : FdEntry → Type 0) (f : ℕ → List FdEntry) (count : ℕ) → ((d : ℕ) → d < count → AllByRecursion P (f d)) → AllByRecursion P (below f count)
all_below P f zero each = tt
all_below P f (suc count) each = all_append P (below f count) (f count) (all_below P f count (λ d low. each d (omega (arith, low)))) (each count (omega arith))

ascends_below : (P : ℕ → FdEntry → Type 0) (f : ℕ → List FdEntry) → ((c d : ℕ) (x y : FdEntry) → c < d → P c x → P d y → x.fd < y.fd)
    → (count : ℕ) → ((d : ℕ) → d < count → AllByRecursion (P d) (f d)) → ((d : ℕ) → d < count → Ascends IsBefore (f d)) → Ascends IsBefore (below f count)
ascends_below P f order zero each ascend = tt
ascends_below P f order (suc count) each ascend =
    ascends_append (below f count) (f count) (ascends_below P f order count (λ d low. each d (omega (arith, low))) (λ d low. ascend d (omega (arith, low)))) (ascend count (omega arith))
    (all_below (λ x. AllByRecursion (IsBefore x) (f count)) f count (λ d low.
    all_weaker (P d) (λ x. AllByRecursion (IsBefore x) (f count)) (λ x p. all_weaker (P count) (IsBefore x) (λ y q. order d count x y low p q) (f count) (each count (omega arith))) (f d) (each d (omega (arith, low)))))

none_below : (f : ℕ → List FdEntry) (n count : ℕ) → ((d : ℕ) → d < count → entry_of (f d) n ≡ None) → entry_of (below f count) n ≡ None
none_below f n zero none = refl
none_below f n (suc count) none =
    entry_append (below f count) (f count) n ∙ ap (λ o. or_else o (entry_of (f count) n)) (none_below f n count (λ d low. none d (omega (arith, low)))) ∙ none count (omega arith)

one_below : (f : ℕ → List FdEntry) (n d count : ℕ) → d < count → ((c : ℕ) → c ≢ d → entry_of (f c) n ≡ None) → entry_of (below f count) n ≡ entry_of (f d) n
one_below f n d zero low none = absurd (omega (arith, low))
one_below f n d (suc count) low none = entry_append (below f count) (f count) n ∙ elim (cases_lt d count) [
  | inl before ↦ ap (λ o. or_else o (entry_of (f count) n)) (one_below f n d count before none)
      ∙ ap (or_else (entry_of (f d) n)) (none count (let h : count ≢ d = omega (arith, before) in h)) ∙ or_none (entry_of (f d) n)
  | inr past ↦
      let is : count ≡ d = omega (arith, low, past) in
      ap (λ o. or_else o (entry_of (f count) n)) (none_below f n count (λ c below. none c (let h : c ≢ d = omega (arith, below, past) in h))) ∙ ap (λ c. entry_of (f c) n) is
]

-- ---- the descriptors that begin with some digits

-- n has this many digits after those of first
abbrev Under : ℕ → ℕ → ℕ → Type 0
Under zero first n = n ≡ first
Under (suc height) first n = (d : ℕ) × (d < 16) × Under height (first * 16 + d) n

-- the further digits
abbrev path : (height first n : ℕ) → Under height first n → List ℕ
path zero first n under = []
path (suc height) first n under = under.0 ∷ path height (first * 16 + under.0) n under.2

in_order : (height a b m n : ℕ) → a < b → Under height a m → Under height b n → m < n
in_order zero a b m n low u v = omega (arith, low, u, v)
in_order (suc height) a b m n low u v =
    let x = u.1 in
    let y = v.1 in
    in_order height (a * 16 + u.0) (b * 16 + v.0) m n (omega (arith, low, x, y)) u.2 v.2

apart : (height a b n : ℕ) → a ≢ b → Under height a n → Under height b n → ⊥
apart height a b n other u v = elim (cases_order a b) [
  | inl e ↦ other e
  | inr h ↦ elim h [
    | inl low ↦ let x = in_order height a b n n low u v in omega (arith, x)
    | inr high ↦ let x = in_order height b a n n high v u in omega (arith, x)
  ]
]

module _ (course : Course) where
  leaf_under : (kept marked first : ℕ) → AllByRecursion (λ x. x.fd ≡ first) (leaf course kept marked first)
  leaf_under kept marked first = by (nat_lt first course.least) (chosen course.closed_alone (held_by course.objects.now kept marked))
    where
      by : (b : Bool) (held : Option Held) → AllByRecursion (λ x. x.fd ≡ first) (cond b [] (entry_if first held))
      by true held = tt
      by false None = tt
      by false (Some held) = (refl, tt)

  pub all_under : (height kept marked first : ℕ) → AllByRecursion (λ x. Under height first x.fd) (entries_in course height kept marked first)
  unfolding entries_in
  all_under zero kept marked first = leaf_under kept marked first
  all_under (suc height) kept marked first = all_below (λ x. Under (suc height) first x.fd) _ 16 (λ d low.
      all_weaker (λ x. Under height (first * 16 + d) x.fd) (λ x. Under (suc height) first x.fd) (λ x u. (d, low, u)) _ (all_under height (child course.nodes.now kept d) (child course.nodes.now marked d) (first * 16 + d)))

  leaf_least : (kept marked first : ℕ) → AllByRecursion (λ x. course.least ≤ x.fd) (leaf course kept marked first)
  leaf_least kept marked first = by (nat_lt first course.least) refl (chosen course.closed_alone (held_by course.objects.now kept marked))
    where
      by : (b : Bool) → nat_lt first course.least ≡ b → (held : Option Held) → AllByRecursion (λ x. course.least ≤ x.fd) (cond b [] (entry_if first held))
      by true is held = tt
      by false is None = tt
      by false is (Some held) = ((let h : course.least ≤ first = grind (arith, nat_tests) in h), tt)

  pub all_least : (height kept marked first : ℕ) → AllByRecursion (λ x. course.least ≤ x.fd) (entries_in course height kept marked first)
  unfolding entries_in
  all_least zero kept marked first = leaf_least kept marked first
  all_least (suc height) kept marked first = all_below (λ x. course.least ≤ x.fd) _ 16 (λ d low. all_least height (child course.nodes.now kept d) (child course.nodes.now marked d) (first * 16 + d))

  leaf_ascends : (kept marked first : ℕ) → Ascends IsBefore (leaf course kept marked first)
  leaf_ascends kept marked first = by (nat_lt first course.least) (chosen course.closed_alone (held_by course.objects.now kept marked))
    where
      by : (b : Bool) (held : Option Held) → Ascends IsBefore (cond b [] (entry_if first held))
      by true held = tt
      by false None = tt
      by false (Some held) = (tt, tt)

  pub all_ascend : (height kept marked first : ℕ) → Ascends IsBefore (entries_in course height kept marked first)
  unfolding entries_in
  all_ascend zero kept marked first = leaf_ascends kept marked first
  all_ascend (suc height) kept marked first =
      ascends_below (λ d x. Under height (first * 16 + d) x.fd) _ (λ c d x y low u v. in_order height (first * 16 + c) (first * 16 + d) x.fd y.fd (omega (arith, low)) u v) 16
      (λ d low. all_under height (child course.nodes.now kept d) (child course.nodes.now marked d) (first * 16 + d))
      (λ d low. all_ascend height (child course.nodes.now kept d) (child course.nodes.now marked d) (first * 16 + d))

  -- what a pair of numbers says of a descriptor that isn't left out
  abbrev pub said : ℕ → ℕ → ℕ → Option Held
  said n kept marked = if nat_lt n course.least then None else chosen course.closed_alone (held_by course.objects.now kept marked)

  said_leaf : (kept marked first n : ℕ) → n ≡ first → entry_of (leaf course kept marked first) n ≡ said n kept marked
  said_leaf kept marked first n is =
      ap (λ m. entry_of (leaf course kept marked first) m) is ∙ by (nat_lt first course.least) (chosen course.closed_alone (held_by course.objects.now kept marked)) ∙ ap (λ m. said m kept marked) (sym is)
    where
      same : (first == first) ≡ true
      same = grind (arith, common_steps)

      by : (b : Bool) (held : Option Held) → entry_of (cond b [] (entry_if first held)) first ≡ cond b None held
      by true held = refl
      by false None = refl
      by false (Some held) = ap (λ t. cond t (Some held) None) same

  -- the list says of a descriptor what its numbers say
  pub found : (height kept marked first n : ℕ) (under : Under height first n)
      → entry_of (entries_in course height kept marked first) n ≡ said n (at course.nodes.now kept (path height first n under)) (at course.nodes.now marked (path height first n under))
  unfolding entries_in
  found zero kept marked first n under = said_leaf kept marked first n under
  found (suc height) kept marked first n under =
      one_below _ n under.0 16 under.1 (λ c other.
      no_entry _ n (all_weaker (λ x. Under height (first * 16 + c) x.fd) (λ x. x.fd ≢ n) (λ x u is. apart height (first * 16 + c) (first * 16 + under.0) n (let h : first * 16 + c ≢ first * 16 + under.0 = omega (arith, other) in h) (subst (Under height (first * 16 + c)) is u) under.2) _
      (all_under height (child course.nodes.now kept c) (child course.nodes.now marked c) (first * 16 + c))))
      ∙ found height (child course.nodes.now kept under.0) (child course.nodes.now marked under.0) (first * 16 + under.0) n under.2

  -- nothing stands below empty trees
  none_if : (kept marked : ℕ) → chosen course.closed_alone (held_by course.objects.now kept marked) ≡ None → (first : ℕ) → leaf course kept marked first ≡ []
  none_if kept marked none first = ap (λ held. if nat_lt first course.least then [] else entry_if first held) none ∙ by (nat_lt first course.least)
    where
      by : (b : Bool) → ◌≡◌ {A = List FdEntry} (cond b [] []) []
      by true = refl
      by false = refl

  below_none : (f : ℕ → List FdEntry) → ((d : ℕ) → f d ≡ []) → (count : ℕ) → below f count ≡ []
  below_none f none zero = refl
  below_none f none (suc count) = ap (λ xs. xs ++ f count) (below_none f none count) ∙ none count

  child_none : (d : ℕ) → child course.nodes.now 0 d ≡ 0
  child_none d = refl

  pub both_empty : (height first : ℕ) → entries_in course height 0 0 first ≡ []
  unfolding entries_in
  both_empty zero first = none_if 0 0 refl first
  both_empty (suc height) first = below_none _ (λ d. both_empty height (first * 16 + d)) 16

  left_open : (held : Option Object) → chosen true (or_else (with_mark false held) None) ≡ None
  left_open None = refl
  left_open (Some object) = refl

  pub none_closed : course.closed_alone ≡ true → (height kept first : ℕ) → entries_in course height kept 0 first ≡ []
  unfolding entries_in
  none_closed alone zero kept first = none_if kept 0 (ap (λ b. chosen b (held_by course.objects.now kept 0)) alone ∙ left_open (object_at course.objects.now kept)) first
  none_closed alone (suc height) kept first = below_none _ (λ d. none_closed alone height (child course.nodes.now kept d) (first * 16 + d)) 16

-- ---- the descriptors of both trees

under_low : (n : ℕ) → n < 4096 → (under : Under 3 0 n) × (path 3 0 n under ≡ short_path n)
under_low n low =
    let under : Under 3 0 n = (n / 256, (let h : n / 256 < 16 = omega (arith, low) in h), (n / 16 % 16, (let h : n / 16 % 16 < 16 = omega arith in h), (n % 16, (let h : n % 16 < 16 = omega arith in h), (let h : n ≡ ((0 * 16 + n / 256) * 16 + n / 16 % 16) * 16 + n % 16 = omega arith in h)))) in
    (under, refl)

low_under : (n : ℕ) → Under 3 0 n → n < 4096
low_under n under = let a = under.1 in let b = under.2.1 in let c = under.2.2.1 in let e = under.2.2.2 in omega (arith, a, b, c, e)

under_high : (n : ℕ) → n < 2 ^ 32 → (under : Under 8 0 n) × (path 8 0 n under ≡ long_path n)
under_high n low =
    let under : Under 8 0 n = (n / 268435456, (let h : n / 268435456 < 16 = omega (arith, low) in h), (n / 16777216 % 16, (let h : n / 16777216 % 16 < 16 = omega arith in h), (n / 1048576 % 16, (let h : n / 1048576 % 16 < 16 = omega arith in h), (n / 65536 % 16, (let h : n / 65536 % 16 < 16 = omega arith in h), (n / 4096 % 16, (let h : n / 4096 % 16 < 16 = omega arith in h), (n / 256 % 16, (let h : n / 256 % 16 < 16 = omega arith in h), (n / 16 % 16, (let h : n / 16 % 16 < 16 = omega arith in h), (n % 16, (let h : n % 16 < 16 = omega arith in h), (let h : n ≡ (((((((0 * 16 + n / 268435456) * 16 + n / 16777216 % 16) * 16 + n / 1048576 % 16) * 16 + n / 65536 % 16) * 16 + n / 4096 % 16) * 16 + n / 256 % 16) * 16 + n / 16 % 16) * 16 + n % 16 = omega arith in h))))))))) in
    (under, refl {a = long_path n})

high_under : (n : ℕ) → Under 8 0 n → n < 2 ^ 32
high_under n under =
    let a = under.1 in let b = under.2.1 in let c = under.2.2.1 in let d = under.2.2.2.1 in
    let e = under.2.2.2.2.1 in let f = under.2.2.2.2.2.1 in let g = under.2.2.2.2.2.2.1 in let h = under.2.2.2.2.2.2.2.1 in
    let i = under.2.2.2.2.2.2.2.2 in
    omega (arith, a, b, c, d, e, f, g, h, i)

module _ (low high : Course) (from_none : low.least ≡ 0) (from_many : high.least ≡ 4096) (nodes_are : high.nodes.now ≡ low.nodes.now) (objects_are : high.objects.now ≡ low.objects.now)
    (alone_is : high.closed_alone ≡ low.closed_alone) (holding : Holding) where
  abbrev lows : List FdEntry
  lows = entries_in low 3 holding.kept.low holding.marked.low 0

  abbrev highs : List FdEntry
  highs = entries_in high 8 holding.kept.high holding.marked.high 0

  few : (n : ℕ) → n < 4096 → nat_lt n 4096 ≡ true
  few n h = grind (arith, nat_tests)

  many : (n m : ℕ) → m ≤ n → nat_lt n m ≡ false
  many n m h = grind (arith, nat_tests)

  held_few : (n : ℕ) → n < 4096 → held_in low.nodes.now low.objects.now holding n ≡ held_by low.objects.now (at low.nodes.now holding.kept.low (short_path n)) (at low.nodes.now holding.marked.low (short_path n))
  held_few n h = λ i. held_by low.objects.now
      (cond (few n h i) (at low.nodes.now holding.kept.low (short_path n)) (at low.nodes.now holding.kept.high (long_path n)))
      (cond (few n h i) (at low.nodes.now holding.marked.low (short_path n)) (at low.nodes.now holding.marked.high (long_path n)))

  held_many : (n : ℕ) → 4096 ≤ n → held_in low.nodes.now low.objects.now holding n ≡ held_by low.objects.now (at low.nodes.now holding.kept.high (long_path n)) (at low.nodes.now holding.marked.high (long_path n))
  held_many n h = λ i. held_by low.objects.now
      (cond (many n 4096 h i) (at low.nodes.now holding.kept.low (short_path n)) (at low.nodes.now holding.kept.high (long_path n)))
      (cond (many n 4096 h i) (at low.nodes.now holding.marked.low (short_path n)) (at low.nodes.now holding.marked.high (long_path n)))

  -- below 4,096 the first list says it
  low_says : (n : ℕ) → n < 4096 → entry_of lows n ≡ chosen low.closed_alone (held_in low.nodes.now low.objects.now holding n)
  low_says n h =
      let u = under_low n h in
      found low 3 holding.kept.low holding.marked.low 0 n u.0
      ∙ ap (λ ds. said low n (at low.nodes.now holding.kept.low ds) (at low.nodes.now holding.marked.low ds)) u.1
      ∙ ap (λ b. if b then None else chosen low.closed_alone (held_by low.objects.now (at low.nodes.now holding.kept.low (short_path n)) (at low.nodes.now holding.marked.low (short_path n))))
      (many n low.least (omega (arith, from_none)))
      ∙ ap (chosen low.closed_alone) (sym (held_few n h))

  low_silent : (n : ℕ) → 4096 ≤ n → entry_of lows n ≡ None
  low_silent n h = no_entry lows n (all_weaker (λ x. Under 3 0 x.fd) (λ x. x.fd ≢ n) (λ x u is. let f = low_under x.fd u in omega (arith, f, is, h)) lows (all_under low 3 holding.kept.low holding.marked.low 0))

  high_silent : (n : ℕ) → n < 4096 → entry_of highs n ≡ None
  high_silent n h = no_entry highs n (all_weaker (λ x. high.least ≤ x.fd) (λ x. x.fd ≢ n) (λ x l is. omega (arith, l, is, h, from_many)) highs (all_least high 8 holding.kept.high holding.marked.high 0))

  -- from there on the second does
  high_says : (n : ℕ) → 4096 ≤ n → entry_of highs n ≡ chosen low.closed_alone (held_in low.nodes.now low.objects.now holding n)
  high_says n h = elim (cases_lt n (2 ^ 32)) [
    | inl fits ↦
        let u = under_high n fits in
        found high 8 holding.kept.high holding.marked.high 0 n u.0
        ∙ ap (λ ds. said high n (at high.nodes.now holding.kept.high ds) (at high.nodes.now holding.marked.high ds)) u.1
        ∙ ap (λ b. if b then None else chosen high.closed_alone (held_by high.objects.now (at high.nodes.now holding.kept.high (long_path n)) (at high.nodes.now holding.marked.high (long_path n))))
        (many n high.least (omega (arith, from_many, h)))
        ∙ (λ i. chosen (alone_is i) (held_by (objects_are i) (at (nodes_are i) holding.kept.high (long_path n)) (at (nodes_are i) holding.marked.high (long_path n))))
        ∙ ap (chosen low.closed_alone) (sym (held_many n h))
    | inr past ↦
        no_entry highs n (all_weaker (λ x. Under 8 0 x.fd) (λ x. x.fd ≢ n) (λ x u is. let f = high_under x.fd u in omega (arith, f, is, past)) highs (all_under high 8 holding.kept.high holding.marked.high 0))
        ∙ ap (chosen low.closed_alone) (sym (held_many n h ∙ (λ i. held_by low.objects.now (past_all holding.kept.high n past i) (past_all holding.marked.high n past i))))
  ]
    where
      past_all : (id n : ℕ) → 2 ^ 32 ≤ n → at low.nodes.now id (long_path n) ≡ 0
      past_all id n past =
          let wide : 16 ≤ n / 268435456 = omega (arith, past) in
          ap (λ k. at low.nodes.now k (drop 1 (long_path n))) (child_past low.nodes.now id (n / 268435456) wide) ∙ empty_at low.nodes.now (drop 1 (long_path n))

  pub both_say : (n : ℕ) → entry_of (lows ++ highs) n ≡ chosen low.closed_alone (held_in low.nodes.now low.objects.now holding n)
  both_say n = entry_append lows highs n ∙ elim (cases_lt n 4096) [
    | inl h ↦ ap (or_else (entry_of lows n)) (high_silent n h) ∙ or_none (entry_of lows n) ∙ low_says n h
    | inr h ↦ ap (λ o. or_else o (entry_of highs n)) (low_silent n h) ∙ high_says n h
  ]

  pub both_ascend : Ascends IsBefore (lows ++ highs)
  both_ascend = ascends_append lows highs (all_ascend low 3 holding.kept.low holding.marked.low 0) (all_ascend high 8 holding.kept.high holding.marked.high 0)
      (all_weaker (λ x. Under 3 0 x.fd) (λ x. AllByRecursion (IsBefore x) highs) (λ x u. all_weaker (λ y. high.least ≤ y.fd) (IsBefore x) (λ y l. let f = low_under x.fd u in omega (arith, f, l, from_many)) highs
      (all_least high 8 holding.kept.high holding.marked.high 0)) lows (all_under low 3 holding.kept.low holding.marked.low 0))

-- the room below a digit
pub room_shrinks : (height : ℕ) → room_below height ≤ 2 ^ 32
room_shrinks zero = omega arith
room_shrinks (suc height) = let less = room_shrinks height in omega (arith, less)

pub room_for_digit : (height first digit : ℕ) → height ≢ 0 → first < room_below height → digit < 16 → first * 16 + digit < room_below (height - 1)
room_for_digit zero first digit some low small = absurd (some refl)
room_for_digit (suc height) first digit some low small = let e : suc height - 1 ≡ height = omega arith in subst (λ h. first * 16 + digit < room_below h) (sym e) (omega (arith, low, small))

-- the entries of two nodes are those of their children
pub of_children : (course : Course) (height kept marked first : ℕ) → height ≢ 0
    → entries_in course height kept marked first ≡ below (λ d. entries_in course (height - 1) (child course.nodes.now kept d) (child course.nodes.now marked d) (first * 16 + d)) 16
unfolding entries_in
of_children course zero kept marked first some = absurd (some refl)
of_children course (suc height) kept marked first some =
    let e : suc height - 1 ≡ height = omega arith in
    ap (λ h. below (λ d. entries_in course h (child course.nodes.now kept d) (child course.nodes.now marked d) (first * 16 + d)) 16) (sym e)

pub of_leaf : (course : Course) (height kept marked first : ℕ) → height ≡ 0 → entries_in course height kept marked first ≡ leaf course kept marked first
unfolding entries_in
of_leaf course zero kept marked first is = refl
of_leaf course (suc height) kept marked first is = absurd (omega (arith, is))

-- ---- the lists that are handed out

pub chosen_all : (held : Option Held) → chosen false held ≡ held
chosen_all None = refl
chosen_all (Some held) = refl

closed_or_none : (held : Option Held) → is_some (chosen true held) ≡ is_marked held
closed_or_none None = refl
closed_or_none (Some held) = by held.cloexec
  where
    by : (b : Bool) → is_some (cond (not b) None (Some held)) ≡ b
    by true = refl
    by false = refl

listed : (es : List FdEntry) (n : ℕ) → list_any (nat_eq n) (map (λ e. e.fd) es) ≡ is_some (entry_of es n)
listed [] n = refl
listed (e ∷ es) n = by (nat_eq n e.fd) (e.fd == n) (grind (arith, common_steps, nat_tests)) (listed es n)
  where
    by : (b d : Bool) → b ≡ d → list_any (nat_eq n) (map (λ x. x.fd) es) ≡ is_some (entry_of es n) → (b || list_any (nat_eq n) (map (λ x. x.fd) es)) ≡ is_some (cond d (Some e.held) (entry_of es n))
    by true true is rest = refl
    by false false is rest = rest
    by true false is rest = absurd (true≢false is)
    by false true is rest = absurd (true≢false (sym is))

-- the descriptors that an exec closes are in the list, and no others
pub closed_listed : (es : List FdEntry) (n : ℕ) (held : Option Held) → entry_of es n ≡ chosen true held → list_any (nat_eq n) (map (λ e. e.fd) es) ≡ is_marked held
closed_listed es n held is = listed es n ∙ ap is_some is ∙ closed_or_none held

all_descriptors : (fd : ℕ) (es : List FdEntry) → AllByRecursion (λ y. fd < y.fd) es → AllByRecursion (λ m. fd < m) (map (λ e. e.fd) es)
all_descriptors fd [] all = tt
all_descriptors fd (e ∷ es) all = (all.0, all_descriptors fd es all.1)

pub descriptors_ascend : (es : List FdEntry) → Ascends IsBefore es → Ascends (λ x y. x < y) (map (λ e. e.fd) es)
descriptors_ascend [] ascend = tt
descriptors_ascend (e ∷ es) ascend = (all_descriptors e.fd es ascend.0, descriptors_ascend es ascend.1)
