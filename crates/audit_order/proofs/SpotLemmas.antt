-- Which lines are late is known of the greatest place.
use Rattle.std.proofs.Common.{◌≡◌, ◌<◌, ◌||◌, ◌+◌, ◌∙◌, sym, refl, ap, arith, ℕ, Bool, true, false, List, [], ◌∷◌, ◌++◌, if◌then◌else◌}
use Rattle.std.specs.List.{list_any}
use Rattle.std.specs.declared.cmp.Ordering.{Ordering}
use Rattle.std.specs.declared.cmp.Ordering.TheVariants.{Less, Equal, Greater}
use Rattle.std.specs.Ordering.{nat_cmp, ordering_then, ordering_reverse, is_lt, MatchOrdering}
use Rattle.std.specs.Cmp.{IsTotalOrder, then_total, on_total, nat_cmp_total, ranks}
use Rattle.std.specs.Cmp.Lexicographic.{slice_cmp, on_texts}
use Rattle.order_queue.specs.declared.waiting.Waiting.{Waiting}
use Rattle.audit_order.specs.declared.counts.Spot.{Spot}
use Rattle.audit_order.specs.declared.counts.Tally.{Tally}
use Rattle.audit_order.specs.Tally.{spot_of, spot_cmp, is_less, no_spot, is_late, tally_after}
use Rattle.audit_order.specs.Turns.{Motion, Went, Counted, went, begun_with, tally_with, event_in, events_in, late_in, is_one}

pub spot_total : IsTotalOrder spot_cmp
spot_total =
    then_total (on_total (λ (s : Spot). s.time) nat_cmp_total)
    (then_total (on_total (λ (s : Spot). s.goes_by) nat_cmp_total)
    (then_total (on_total (λ (s : Spot). s.serial) nat_cmp_total)
    (then_total (on_total (λ (s : Spot). s.ms) nat_cmp_total)
    (then_total (on_texts (λ (s : Spot). s.node)) (on_total (λ (s : Spot). s.rank) nat_cmp_total)))))

-- no number is below 0, and no text before the empty one
below_by_case : (o rest : Ordering) (n : ℕ) → MatchOrdering o (n < 0) (n ≡ 0) (0 < n) → is_lt rest ≡ false → is_lt (ordering_then o rest) ≡ false
below_by_case Less rest n is not = absurd (omega (arith, is))
below_by_case Equal rest n is not = not
below_by_case Greater rest n is not = refl

not_below : (n : ℕ) (rest : Ordering) → is_lt rest ≡ false → is_lt (ordering_then (nat_cmp n 0) rest) ≡ false
not_below n rest not = below_by_case (nat_cmp n 0) rest n (ranks n 0) not

not_before_none : (text : List ℕ) (rest : Ordering) → is_lt rest ≡ false → is_lt (ordering_then (slice_cmp nat_cmp text []) rest) ≡ false
not_before_none [] rest not = not
not_before_none (b ∷ text) rest not = refl

first_by_case : (o : Ordering) (n : ℕ) → MatchOrdering o (n < 0) (n ≡ 0) (0 < n) → is_lt o ≡ false
first_by_case Less n is = absurd (omega (arith, is))
first_by_case Equal n is = refl
first_by_case Greater n is = refl

not_first : (n : ℕ) → is_lt (nat_cmp n 0) ≡ false
not_first n = first_by_case (nat_cmp n 0) n (ranks n 0)

pub least_spot : (s : Spot) → is_less s no_spot ≡ false
least_spot s =
    let rank = nat_cmp s.rank 0 in
    let node = ordering_then (slice_cmp nat_cmp s.node []) rank in
    let ms = ordering_then (nat_cmp s.ms 0) node in
    let serial = ordering_then (nat_cmp s.serial 0) ms in
    not_below s.time (ordering_then (nat_cmp s.goes_by 0) serial)
    (not_below s.goes_by serial (not_below s.serial ms (not_below s.ms node (not_before_none s.node rank (not_first s.rank)))))

-- ---- the greater of two places

-- what is below the lesser is below the greater
any_below : (below first second : Bool) → (first ≡ true → below ≡ true) → (second ≡ true → below ≡ true) → (below ≡ true → (first || second) ≡ true)
    → (first || second) ≡ below
any_below true first second f g h = h refl
any_below false true second f g h = sym (f refl)
any_below false false true f g h = sym (g refl)
any_below false false false f g h = refl

lt_is : (o : Ordering) → is_lt o ≡ true → o ≡ Less
lt_is Less is = refl
lt_is Equal is = absurd (cc is)
lt_is Greater is = absurd (cc is)

below_less : (i a b : Spot) → is_less i a ≡ true → is_less a b ≡ true → is_less i b ≡ true
below_less i a b first second = ap is_lt (spot_total.trans i a b (lt_is (spot_cmp i a) first) (lt_is (spot_cmp a b) second))

-- what is below a place is below one that isn't less
below_by : (i a b : Spot) (o : Ordering) → spot_cmp b a ≡ o → is_lt o ≡ false → is_less i a ≡ true → is_less i b ≡ true
below_by i a b Less is not first = absurd (cc not)
below_by i a b Equal is not first =
    ap is_lt (spot_total.antisymm i b ∙ ap ordering_reverse (spot_total.congr b a i is) ∙ sym (spot_total.antisymm i a) ∙ lt_is (spot_cmp i a) first)
below_by i a b Greater is not first =
    below_less i a b first (ap is_lt (spot_total.antisymm a b ∙ ap ordering_reverse is))

below_greater : (i a b : Spot) → is_less b a ≡ false → is_less i a ≡ true → is_less i b ≡ true
below_greater i a b not first = below_by i a b (spot_cmp b a) refl not first

-- ---- one more line

or_false : (b : Bool) → (b || false) ≡ b
or_false true = refl
or_false false = refl

or_more : (here rest before last : Bool) → rest ≡ (before || last) → (here || rest) ≡ ((here || before) || last)
or_more true rest before last is = refl
or_more false rest before last is = is

or_true : (a b : Bool) → b ≡ true → (a || b) ≡ true
or_true true b is = refl
or_true false b is = is

any_last : (f : Waiting → Bool) (lines : List Waiting) (item : Waiting) → list_any f (lines ++ item ∷ []) ≡ (list_any f lines || f item)
any_last f [] item = or_false (f item)
any_last f (x ∷ lines) item = or_more (f x) (list_any f (lines ++ item ∷ [])) (list_any f lines) (f item) (any_last f lines item)

greatest_by : (tally : Tally) (before : List Waiting) (item : Waiting) (less : Bool) → is_less (spot_of item) tally.greatest ≡ less
    → ((other : Waiting) → is_late before other ≡ is_less (spot_of other) tally.greatest)
    → (other : Waiting) → is_late (before ++ item ∷ []) other ≡ is_less (spot_of other) (tally_after tally (spot_of item)).greatest
greatest_by tally before item true is was other = rw is
    (any_last (λ (w : Waiting). is_less (spot_of other) (spot_of w)) before item
    ∙ ap (λ (b : Bool). b || is_less (spot_of other) (spot_of item)) (was other)
    ∙ any_below (is_less (spot_of other) tally.greatest) (is_less (spot_of other) tally.greatest) (is_less (spot_of other) (spot_of item))
    (λ e. e) (λ e. below_less (spot_of other) (spot_of item) tally.greatest e is) (λ e. rw e refl))
greatest_by tally before item false is was other = rw is
    (any_last (λ (w : Waiting). is_less (spot_of other) (spot_of w)) before item
    ∙ ap (λ (b : Bool). b || is_less (spot_of other) (spot_of item)) (was other)
    ∙ any_below (is_less (spot_of other) (spot_of item)) (is_less (spot_of other) tally.greatest) (is_less (spot_of other) (spot_of item))
    (λ e. below_greater (spot_of other) tally.greatest (spot_of item) is e) (λ e. e) (λ e. or_true (is_less (spot_of other) tally.greatest) _ e))

after_events : (tally : Tally) (spot : Spot) (less : Bool) → is_less spot tally.greatest ≡ less → (tally_after tally spot).events ≡ tally.events
after_events tally spot true is = rw is refl
after_events tally spot false is = rw is refl

late_more : (tally : Tally) (motions : List Motion) (item : Waiting) (less : Bool) → is_less (spot_of item) tally.greatest ≡ less
    → is_late (went motions) item ≡ is_less (spot_of item) tally.greatest → tally.late ≡ late_in motions
    → (tally_after tally (spot_of item)).late ≡ late_in (Went item ∷ motions)
late_more tally motions item true is any same = rw (is, any ∙ is) (ap (λ (n : ℕ). n + 1) same)
late_more tally motions item false is any same = rw (is, any ∙ is) same

counts_with : (tally : Tally) (motions : List Motion) (item : Waiting) (same : Bool) → is_one (event_in motions) item ≡ same → Counted tally motions
    → Counted (tally_with (event_in motions) tally item) (Went item ∷ motions)
counts_with tally motions item true is c =
    rw is (record {
      events = after_events tally (spot_of item) (is_less (spot_of item) tally.greatest) refl ∙ c.events ∙ sym (ap (λ (b : Bool). if b then events_in motions else events_in motions + 1) is);
      late = late_more tally motions item (is_less (spot_of item) tally.greatest) refl (c.greatest item) c.late;
      greatest = greatest_by tally (went motions) item (is_less (spot_of item) tally.greatest) refl c.greatest;
    })
counts_with tally motions item false is c =
    let more : Tally = record tally { events = tally.events + 1 } in
    rw is (record {
      events = after_events more (spot_of item) (is_less (spot_of item) tally.greatest) refl ∙ ap (λ (n : ℕ). n + 1) c.events ∙ sym (ap (λ (b : Bool). if b then events_in motions else events_in motions + 1) is);
      late = late_more more motions item (is_less (spot_of item) tally.greatest) refl (c.greatest item) c.late;
      greatest = greatest_by more (went motions) item (is_less (spot_of item) tally.greatest) refl c.greatest;
    })

pub counts_more : (tally : Tally) (motions : List Motion) (item : Waiting) → Counted tally motions
    → Counted (tally_with (event_in motions) tally item) (Went item ∷ motions)
counts_more tally motions item c = counts_with tally motions item (is_one (event_in motions) item) refl c
