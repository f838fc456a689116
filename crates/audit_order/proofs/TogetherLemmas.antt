-- The lines of an event go together.
use Rattle.std.proofs.Common.{◌≡◌, ◌&&◌, ◌==◌, ◌∙◌, ◌⊎◌, inl, inr, sym, ap, refl, subst, arith, ℕ, Bool, true, false, is_some, List, [], ◌∷◌, ◌++◌, Option, None, Some, if◌then◌else◌, nat_eq, nat_cmp}
use Rattle.std.specs.Prelude.{⊤}
use Rattle.std.specs.List.{All, Contains, list_any}
use Rattle.std.specs.declared.cmp.Ordering.{Ordering}
use Rattle.std.specs.declared.cmp.Ordering.TheVariants.{Less, Equal, Greater}
use Rattle.std.specs.Ordering.{ordering_then, is_lt, is_eq, ordering_reverse}
use Rattle.std.specs.Cmp.{first_so, second_so, nat_cmp_is}
use Rattle.std.specs.Cmp.Lexicographic.{pointwise, slice_cmp, same_text, nat_list_cmp_total, nat_list_eq_equiv}
use Rattle.std.proofs.lemmas.Bool.Decides.{nat_tests}
use Rattle.std.proofs.lemmas.List.Elements.{All-weaker, All-nil, All-push, All-contains, All-contains_itself, Contains-push, Contains-append_left, Contains-append_right}
use Rattle.std.proofs.lemmas.List.Sorted.{All-permutation}
use Rattle.std.proofs.lemmas.List.Folds.{list_any_at}
use Rattle.std.proofs.lemmas.Map.Lookups.{exact_bytes}
use Rattle.std.proofs.lemmas.Option.{same_Some}
use Rattle.order_text.specs.Stamp.{Stamp, stamp_of}
use Rattle.order_calls.specs.declared.call.Call.{Call}
use Rattle.order_place.specs.declared.places.Place.{Place}
use Rattle.order_place.specs.declared.slot.Slot.{Slot}
use Rattle.order_place.specs.Places.{Seen, is_event, event_at, event_slot, first_slot, slot_or, node_of, is_boot, read_as, call_by, SeesNext}
use Rattle.order_place.specs.Nodes.{AllSeen, is_node, node_at, begun, slot_of, HasPlace, SeesOf, SeesLine, ForgetsOf}
use Rattle.order_place.proofs.PlaceLemmas.{first_same}
use Rattle.order_place.proofs.NodeLemmas.{one_node}
use Rattle.order_queue.specs.declared.waiting.Waiting.{Waiting}
use Rattle.order_queue.specs.Order.{place_cmp, rank_cmp}
use Rattle.audit_order.specs.declared.bounds.Bounds.{Bounds}
use Rattle.audit_order.specs.Tally.{spot_of, is_less, is_late}
use Rattle.audit_order.specs.Turns.{Motion, Read, Came, Went, Ended, Phase, Between, Next, AtEnd, Event, no_event, InTurn, IsRead, IsComing, Passes, Leaves, came, went, phase, number_in, event_in, next_event, is_one, waiting_of}
use Rattle.audit_order.specs.Together.{event_of, BeginsEvent, IsOfEvent, EventsGoTogether}
use Rattle.audit_order.proofs.LesserLemmas.{lesser_go_first}
use Rattle.audit_order.proofs.TurnLemmas.{not_later}

-- ---- the slot of an event that is held

-- the slot at which the lines of an event count that is held
abbrev held : AllSeen → Event → Option Slot
held all e = event_at (node_at all e.node) (e.ms, e.serial)

-- the slot of a line
abbrev slot : Waiting → Slot
slot w = record { time = w.time; goes_by = w.goes_by }

-- a line with a stamp, if it is of the event, counts at the slot of that
abbrev Fits : Event → AllSeen → Waiting → Type 0
Fits e all w = is_some (stamp_of w.line) ≡ true → is_one e w ≡ true → held all e ≡ Some (slot w)

-- and so does the line that was read, if one was
abbrev FitsNext : Event → AllSeen → Phase → Type 0
FitsNext e all Between = ⊤
FitsNext e all (Next place line) = (number : ℕ) → Fits e all (waiting_of place number line)
FitsNext e all AtEnd = ⊤

same_number : (a b : ℕ) → (a == b) ≡ true → a ≡ b
same_number a b is = grind (arith, nat_tests, is)

-- a line of an event has its node, its time and its number
one_ms : (e : Event) (w : Waiting) → is_one e w ≡ true → e.ms ≡ w.ms
one_ms e w is = same_number e.ms w.ms (first_so (e.ms == w.ms) (e.serial == w.serial && pointwise nat_eq e.node w.node) is)

one_serial : (e : Event) (w : Waiting) → is_one e w ≡ true → e.serial ≡ w.serial
one_serial e w is =
    let rest = second_so (e.ms == w.ms) (e.serial == w.serial && pointwise nat_eq e.node w.node) is in
    same_number e.serial w.serial (first_so (e.serial == w.serial) (pointwise nat_eq e.node w.node) rest)

one_name : (e : Event) (w : Waiting) → is_one e w ≡ true → e.node ≡ w.node
one_name e w is =
    let rest = second_so (e.ms == w.ms) (e.serial == w.serial && pointwise nat_eq e.node w.node) is in
    same_text e.node w.node (sym (second_so (e.serial == w.serial) (pointwise nat_eq e.node w.node) rest))

-- a line is of its own event
number_itself : (n : ℕ) → (n == n) ≡ true
number_itself n = grind (arith, nat_tests)

text_itself : (text : List ℕ) → pointwise nat_eq text text ≡ true
text_itself text = nat_list_eq_equiv.refl text

one_itself : (w : Waiting) → is_one (event_of w) w ≡ true
one_itself w = rw (number_itself w.ms, number_itself w.serial, text_itself w.node) refl

second_same : (a b : ℕ × ℕ) → is_event a b ≡ true → a.1 ≡ b.1
second_same a b same = grind (arith, nat_tests, same)

one_event : (a b : ℕ × ℕ) → is_event a b ≡ true → a ≡ b
one_event a b is = λ i. (first_same a b is i, second_same a b is i)

cmp_itself : (n : ℕ) → nat_cmp n n ≡ Equal
cmp_itself n = sym (nat_cmp_is n n Equal refl)

event_itself : (a : ℕ × ℕ) → is_event a a ≡ true
event_itself a = rw (cmp_itself a.0, cmp_itself a.1) refl

-- ---- a line is read

-- an event that is held stays at its slot
event_by : (b : Bool) (old node : Seen) (here event : ℕ × ℕ) (call : Option Call) (at : Slot) → is_event here event ≡ b
    → event_at node event ≡ (if b then Some (event_slot old here call) else event_at old event)
    → event_at old event ≡ Some at → event_at node event ≡ Some at
event_by true old node here event call at is new was =
    new ∙ ap (λ (o : Option Slot). Some (slot_or o (first_slot old here call))) (ap (λ (v : ℕ × ℕ). event_at old v) (one_event here event is) ∙ was)
event_by false old node here event call at is new was = new ∙ was

begun_events : (boots : Bool) (seen : Seen) (event : ℕ × ℕ) → event_at (begun boots seen) event ≡ event_at seen event
begun_events true seen event = refl
begun_events false seen event = refl

read_here : (boots : Bool) (seen node : Seen) (s : Stamp) (line : List ℕ) (at : Slot) (event : ℕ × ℕ) (time : Slot) → SeesNext (begun boots seen) node s line at
    → event_at seen event ≡ Some time → event_at node event ≡ Some time
read_here boots seen node s line at event time sees was =
    event_by (is_event (s.ms, s.number) event) (begun boots seen) node (s.ms, s.number) event (call_by (begun boots seen) line) time refl
    (sees.sees.events event) (begun_events boots seen event ∙ was)

read_by : (b : Bool) (e : Event) (old new : AllSeen) (s : Stamp) (line : List ℕ) (p : Place) (time : Slot) → is_node (node_of s.front) e.node ≡ b
    → SeesOf old new s line p → held old e ≡ Some time → held new e ≡ Some time
read_by true e old new s line p time is sees was =
    let name = one_node (node_of s.front) e.node is in
    subst (λ (n : List ℕ). event_at (node_at new n) (e.ms, e.serial) ≡ Some time) name
    (read_here (is_boot s.front) (node_at old (node_of s.front)) (node_at new (node_of s.front)) s (read_as old.compat s line) (slot_of p) (e.ms, e.serial) time
    sees.sees
    (subst (λ (n : List ℕ). event_at (node_at old n) (e.ms, e.serial) ≡ Some time) (sym name) was))
read_by false e old new s line p time is sees was = ap (λ (n : Seen). event_at n (e.ms, e.serial)) (sees.others e.node is) ∙ was

read_keeps : (found : Option Stamp) (e : Event) (old new : AllSeen) (line : List ℕ) (p : Place) (time : Slot)
    → SeesLine old new found line p → held old e ≡ Some time → held new e ≡ Some time
read_keeps None e old new line p time same was = ap (λ (a : AllSeen). held a e) same ∙ was
read_keeps (Some s) e old new line p time sees was = read_by (is_node (node_of s.front) e.node) e old new s line p time refl sees was

-- the line that is read has the slot of its event
next_fits : (found : Option Stamp) (e : Event) (old new : AllSeen) (line : List ℕ) (p : Place) → stamp_of line ≡ found → HasPlace old found p
    → SeesLine old new found line p → FitsNext e new (Next p line)
next_fits None e old new line p is has sees = λ number stamped one. absurd (cc (ap (λ (o : Option Stamp). is_some o) is, stamped))
next_fits (Some s) e old new line p is has sees = λ number stamped one.
    let w = waiting_of p number line in
    let event : (e.ms, e.serial) ≡ (s.ms, s.number) = λ i. ((one_ms e w one ∙ has.ms) i, (one_serial e w one ∙ has.serial) i) in
    let node = node_at new (node_of s.front) in
    let at = sees.sees.sees in
    ap (λ (n : List ℕ). event_at (node_at new n) (e.ms, e.serial)) (one_name e w one ∙ has.node)
    ∙ ap (λ (v : ℕ × ℕ). event_at node v) event
    ∙ at.events (s.ms, s.number)
    ∙ ap (λ (b : Bool). if b then Some (event_slot (begun (is_boot s.front) (node_at old (node_of s.front))) (s.ms, s.number) (call_by (begun (is_boot s.front) (node_at old (node_of s.front))) (read_as old.compat s line)))
    else event_at (begun (is_boot s.front) (node_at old (node_of s.front))) (s.ms, s.number)) (event_itself (s.ms, s.number))
    ∙ ap Some (sym at.slot)

-- ---- a line goes

All-front : (P : Waiting → Type 0) (xs ys : List Waiting) → All P (xs ++ ys) → All P xs
All-front P xs ys all =
    All-weaker (Contains xs) P (λ x has. All-contains P (xs ++ ys) x all (Contains-append_left xs ys x has)) xs (All-contains_itself xs)

next_other : (b : Bool) (last e : Event) (item : Waiting) → is_one last item ≡ b → (last ≡ e → ⊥) → is_one e item ≡ false → next_event last item ≡ e → ⊥
next_other true last e item is other not same = other (sym (ap (λ (c : Bool). if c then last else event_of item) is) ∙ same)
next_other false last e item is other not same =
    let mine : event_of item ≡ e = sym (ap (λ (c : Bool). if c then last else event_of item) is) ∙ same in
    absurd (cc (subst (λ (v : Event). is_one v item ≡ true) mine (one_itself item), not))

-- the event of the newest line is another one, if no line of this one went
other_event : (e : Event) (motions : List Motion) → (no_event ≡ e → ⊥) → All (λ (w : Waiting). is_one e w ≡ false) (went motions) → event_in motions ≡ e → ⊥
other_event e [] known none same = known same
other_event e (Read place line ∷ before) known none same = other_event e before known none same
other_event e (Came item ∷ before) known none same = other_event e before known none same
other_event e (Went item ∷ before) known none same =
    next_other (is_one (event_in before) item) (event_in before) e item refl
    (λ is. other_event e before known (All-front (λ (w : Waiting). is_one e w ≡ false) (went before) (item ∷ []) none) is)
    (All-contains (λ (w : Waiting). is_one e w ≡ false) (went before ++ item ∷ []) item none (Contains-push (went before) item)) same
other_event e (Ended ∷ before) known none same = other_event e before known none same

forget_by : (b c : Bool) (last e : Event) (old new : AllSeen) (time : Slot) → is_node last.node e.node ≡ b → is_event (last.ms, last.serial) (e.ms, e.serial) ≡ c
    → (last ≡ e → ⊥) → ForgetsOf old new last.node (last.ms, last.serial) → held old e ≡ Some time → held new e ≡ Some time
forget_by true true last e old new time node event other f was =
    let name = one_node last.node e.node node in
    let same = one_event (last.ms, last.serial) (e.ms, e.serial) event in
    absurd (other (λ i. record { node = name i; ms = ap (λ (v : ℕ × ℕ). v.0) same i; serial = ap (λ (v : ℕ × ℕ). v.1) same i }))
forget_by true false last e old new time node event other f was =
    let name = one_node last.node e.node node in
    subst (λ (n : List ℕ). event_at (node_at new n) (e.ms, e.serial) ≡ Some time) name
    (f.forgets.events (e.ms, e.serial) ∙ ap (λ (c : Bool). if c then None else event_at (node_at old last.node) (e.ms, e.serial)) event
    ∙ subst (λ (n : List ℕ). event_at (node_at old n) (e.ms, e.serial) ≡ Some time) (sym name) was)
forget_by false c last e old new time node event other f was = ap (λ (n : Seen). event_at n (e.ms, e.serial)) (f.others e.node node) ∙ was

leaves_keep : (b : Bool) (last e : Event) (old new : AllSeen) (time : Slot) → (last ≡ e → ⊥) → Leaves b last old new
    → held old e ≡ Some time → held new e ≡ Some time
leaves_keep true last e old new time other same was = ap (λ (a : AllSeen). held a e) same ∙ was
leaves_keep false last e old new time other f was =
    forget_by (is_node last.node e.node) (is_event (last.ms, last.serial) (e.ms, e.serial)) last e old new time refl refl other f was

-- ---- all lines of an event of which none has gone

weaker_next : (e : Event) (old new : AllSeen) (now : Phase) → ((time : Slot) → held old e ≡ Some time → held new e ≡ Some time) → FitsNext e old now → FitsNext e new now
weaker_next e old new Between keeps fits = tt
weaker_next e old new (Next place line) keeps fits = λ number stamped one. keeps (slot_of place) (fits number stamped one)
weaker_next e old new AtEnd keeps fits = tt

weaker_all : (e : Event) (old new : AllSeen) (lines : List Waiting) → ((time : Slot) → held old e ≡ Some time → held new e ≡ Some time)
    → All (Fits e old) lines → All (Fits e new) lines
weaker_all e old new lines keeps fits = All-weaker (Fits e old) (Fits e new) (λ w fit stamped one. keeps (slot w) (fit stamped one)) lines fits

coming_fits : (e : Event) (all : AllSeen) (now : Phase) (number : ℕ) (item : Waiting) → IsComing now number item → FitsNext e all now → Fits e all item
coming_fits e all Between number item is fits = absurd is
coming_fits e all (Next place line) number item is fits = subst (λ (w : Waiting). Fits e all w) (sym is) (fits number)
coming_fits e all AtEnd number item is fits = absurd is

all_fit : (e : Event) (compat : Bool) (bounds : Bounds) (all : AllSeen) (motions : List Motion) → (no_event ≡ e → ⊥)
    → All (λ (w : Waiting). is_one e w ≡ false) (went motions) → InTurn compat bounds all motions → All (Fits e all) (came motions) × FitsNext e all (phase motions)
all_fit e compat bounds all [] known none t = (All-nil (Fits e all), tt)
all_fit e compat bounds all (Read place line ∷ before) known none t =
    let fit = all_fit e compat bounds t.0 before known none t.1 in
    let reads = t.3 in (
      weaker_all e t.0 all (came before) (λ time was. read_keeps (stamp_of line) e t.0 all line place time reads.sees was) fit.0,
      next_fits (stamp_of line) e t.0 all line place refl reads.has reads.sees,
    )
all_fit e compat bounds all (Came item ∷ before) known none t =
    let fit = all_fit e compat bounds all before known none t.0 in
    (All-push (Fits e all) (came before) item fit.0 (coming_fits e all (phase before) (number_in before) item t.1 fit.1), tt)
all_fit e compat bounds all (Went item ∷ before) known none t =
    let front = All-front (λ (w : Waiting). is_one e w ≡ false) (went before) (item ∷ []) none in
    let fit = all_fit e compat bounds t.0 before known front t.1 in
    let other = other_event e before known front in
    let keeps : (time : Slot) → held t.0 e ≡ Some time → held all e ≡ Some time =
    λ time was. leaves_keep (is_one (event_in before) item) (event_in before) e t.0 all time other t.3 was in
    (weaker_all e t.0 all (came before) keeps fit.0, weaker_next e t.0 all (phase before) keeps fit.1)
all_fit e compat bounds all (Ended ∷ before) known none t =
    let fit = all_fit e compat bounds all before known none t.0 in (fit.0, tt)

-- ---- what stands between two places of one event

tie : (a b : ℕ) (rest : Ordering) → a ≡ b → is_lt (ordering_then (nat_cmp a b) rest) ≡ false → is_lt rest ≡ false
tie a b rest same not =
    subst (λ (o : Ordering). is_lt (ordering_then o rest) ≡ false) (ap (λ (n : ℕ). nat_cmp n b) same ∙ cmp_itself b) not

between : (i f l : ℕ) (r s : Ordering) → l ≡ f → is_lt (ordering_then (nat_cmp i f) r) ≡ false → is_lt (ordering_then (nat_cmp l i) s) ≡ false → i ≡ f
between i f l r s same above below =
    let least = not_later i f r above in
    let most = not_later l i s below in
    omega (arith, same, least, most)

text_by : (o : Ordering) (i f : List ℕ) (r s : Ordering) → slice_cmp nat_cmp i f ≡ o → is_lt (ordering_then o r) ≡ false
    → is_lt (ordering_then (slice_cmp nat_cmp f i) s) ≡ false → i ≡ f
text_by Less i f r s is above below = absurd (cc above)
text_by Equal i f r s is above below = exact_bytes i f is
text_by Greater i f r s is above below =
    let turned : slice_cmp nat_cmp f i ≡ Less = nat_list_cmp_total.antisymm f i ∙ ap ordering_reverse is in
    absurd (cc (subst (λ (o : Ordering). is_lt (ordering_then o s) ≡ false) turned below))

one_by : (first item : Waiting) → item.ms ≡ first.ms → item.serial ≡ first.serial → item.node ≡ first.node → is_one (event_of first) item ≡ true
one_by first item ms serial node =
    rw (ms, serial, node) (one_itself first)

-- a line stands between two of an event that count at one slot
stands_between : (first item last : Waiting) → slot last ≡ slot first → is_one (event_of first) last ≡ true
    → is_less (spot_of item) (spot_of first) ≡ false → is_lt (place_cmp last item) ≡ false → is_one (event_of first) item ≡ true
stands_between first item last same one above below =
    let e = event_of first in
    let time : last.time ≡ first.time = ap (λ (t : Slot). t.time) same in
    let goes : last.goes_by ≡ first.goes_by = ap (λ (t : Slot). t.goes_by) same in
    let t = between item.time first.time last.time _ _ time above below in
    let above1 = tie item.time first.time _ t above in
    let below1 = tie last.time item.time _ (time ∙ sym t) below in
    let g = between item.goes_by first.goes_by last.goes_by _ _ goes above1 below1 in
    let above2 = tie item.goes_by first.goes_by _ g above1 in
    let below2 = tie last.goes_by item.goes_by _ (goes ∙ sym g) below1 in
    let n = between item.serial first.serial last.serial _ _ (sym (one_serial e last one)) above2 below2 in
    let above3 = tie item.serial first.serial _ n above2 in
    let below3 = tie last.serial item.serial _ (sym (one_serial e last one) ∙ sym n) below2 in
    let m = between item.ms first.ms last.ms _ _ (sym (one_ms e last one)) above3 below3 in
    let above4 = tie item.ms first.ms _ m above3 in
    let below4 = tie last.ms item.ms _ (sym (one_ms e last one) ∙ sym m) below3 in
    let text = text_by (slice_cmp nat_cmp item.node first.node) item.node first.node _ _ refl above4
    (subst (λ (l : List ℕ). is_lt (ordering_then (slice_cmp nat_cmp l item.node) (rank_cmp last item)) ≡ false) (sym (one_name e last one)) below4) in
    one_by first item m n text

-- ---- all of it

pub suffix : (compat : Bool) (bounds : Bounds) (all : AllSeen) (later rest : List Motion) → InTurn compat bounds all (later ++ rest)
    → (seen : AllSeen) × InTurn compat bounds seen rest
suffix compat bounds all [] rest t = (all, t)
suffix compat bounds all (Read place line ∷ later) rest t = suffix compat bounds t.0 later rest t.1
suffix compat bounds all (Came item ∷ later) rest t = suffix compat bounds all later rest t.0
suffix compat bounds all (Went item ∷ later) rest t = suffix compat bounds t.0 later rest t.1
suffix compat bounds all (Ended ∷ later) rest t = suffix compat bounds all later rest t.0

came_before : (more rest : List Motion) (x : Waiting) → Contains (came rest) x → Contains (came (more ++ rest)) x
came_before [] rest x has = has
came_before (Read place line ∷ more) rest x has = came_before more rest x has
came_before (Came item ∷ more) rest x has = Contains-append_left (came (more ++ rest)) (item ∷ []) x (came_before more rest x has)
came_before (Went item ∷ more) rest x has = came_before more rest x has
came_before (Ended ∷ more) rest x has = came_before more rest x has

went_before : (more rest : List Motion) (x : Waiting) → Contains (went rest) x → Contains (went (more ++ rest)) x
went_before [] rest x has = has
went_before (Read place line ∷ more) rest x has = went_before more rest x has
went_before (Came item ∷ more) rest x has = went_before more rest x has
went_before (Went item ∷ more) rest x has = Contains-append_left (went (more ++ rest)) (item ∷ []) x (went_before more rest x has)
went_before (Ended ∷ more) rest x has = went_before more rest x has

pub any_has : (p : Waiting → Bool) (xs : List Waiting) (x : Waiting) → Contains xs x → p x ≡ true → list_any p xs ≡ true
any_has p xs x has is = list_any_at p xs has.0 x has.1 (ap p has.2 ∙ is)

-- a line that goes isn't late, or is less than none that went
late_or : (b : Bool) (before : List Waiting) (item first : Waiting) → is_less (spot_of item) (spot_of first) ≡ b → Contains before first
    → (is_less (spot_of item) (spot_of first) ≡ false) ⊎ (is_late before item ≡ true)
late_or true before item first is has = inr (any_has (λ (w : Waiting). is_less (spot_of item) (spot_of w)) before first has is)
late_or false before item first is has = inl is

conclude : (first item last : Waiting) (late : Type 0) (gone : Type 0) → slot last ≡ slot first → is_one (event_of first) last ≡ true
    → (is_less (spot_of item) (spot_of first) ≡ false) ⊎ late → (is_lt (place_cmp last item) ≡ false) ⊎ gone → (gone → ⊥)
    → (is_one (event_of first) item ≡ true) ⊎ late
conclude first item last late gone time one (inr is) below waits = inr is
conclude first item last late gone time one (inl above) (inr has) waits = absurd (waits has)
conclude first item last late gone time one (inl above) (inl below) waits = inl (stands_between first item last time one above below)

pub events_go_together : EventsGoTogether
events_go_together compat bounds all later more before first item last t begins of waits =
    let e = event_of first in
    let middle = more ++ Went first ∷ before in
    let here = suffix compat bounds all later (Went item ∷ middle) t in
    let there = suffix compat bounds here.1.0 more (Went first ∷ before) here.1.1 in
    let old = there.1.0 in
    let next = there.1.2 in
    let known : no_event ≡ e → ⊥ = λ same. absurd (cc (begins.known, subst (λ (v : Event). is_one v first ≡ true) (sym same) (one_itself first))) in
    let fit = (all_fit e compat bounds old before known begins.none there.1.1).0 in
    let came_first : Contains (came before) first =
    All-contains (Contains (came before)) (went before ++ first ∷ next.others) first
    (All-permutation (Contains (came before)) (came before) (went before ++ first ∷ next.others) next.are (All-contains_itself (came before)))
    (Contains-append_right (went before) (first ∷ next.others) first (0, omega arith, refl)) in
    let mine = All-contains (Fits e old) (came before) first fit came_first begins.stamped (one_itself first) in
    let other = All-contains (Fits e old) (came before) last fit of.came of.stamped of.same in
    let time : slot last ≡ slot first = same_Some _ _ (sym other ∙ mine) in
    let below = All-contains (λ (w : Waiting). (is_lt (place_cmp w item) ≡ false) ⊎ Contains (went middle) w) (came middle) last
    (lesser_go_first compat bounds all later middle item t)
    (came_before more (Went first ∷ before) last of.came) in
    let gone : Contains (went middle) first = went_before more (Went first ∷ before) first (Contains-push (went before) first) in
    conclude first item last (is_late (went middle) item ≡ true) (Contains (went middle) last) time of.same
    (late_or (is_less (spot_of item) (spot_of first)) (went middle) item first refl gone) below waits
