-- The calls of a process go in their order, and after its fork.
use Rattle.std.proofs.Common.{◌≡◌, ◌≤◌, ◌<◌, ◌+◌, ◌∙◌, ◌⊎◌, ◌==◌, inl, inr, sym, ap, refl, subst, arith, ℕ, Bool, true, false, List, [], ◌∷◌, ◌++◌, Option, None, Some, max, min, nat_cmp, if◌then◌else◌}
use Rattle.std.specs.List.{All, Contains}
use Rattle.std.specs.Ordering.{ordering_then, is_lt, MatchOrdering}
use Rattle.std.proofs.lemmas.Bool.Decides.{nat_tests}
use Rattle.std.proofs.lemmas.List.Elements.{All-contains}
use Rattle.std.specs.declared.cmp.Ordering.{Ordering}
use Rattle.std.specs.declared.cmp.Ordering.TheVariants.{Less, Equal, Greater}
use Rattle.std.specs.Cmp.{ranks}
use Rattle.std.specs.Cmp.Lexicographic.{slice_cmp}
use Rattle.order_text.specs.Stamp.{Stamp, stamp_of}
use Rattle.order_calls.specs.declared.call.Call.{Call}
use Rattle.order_place.specs.declared.places.Place.{Place}
use Rattle.order_place.specs.declared.slot.Slot.{Slot}
use Rattle.order_place.specs.Places.{Seen, SeesNext, not_before, fork_number, node_of, is_boot, read_as}
use Rattle.order_place.specs.Sights.{Sight, Saw, Wrote, StandsFor}
use Rattle.order_place.specs.Nodes.{AllSeen, begun, node_at, seen_by, slot_of, SeesLine, SeesOf, ForgetsOf, StandsForAll}
use Rattle.order_place.proofs.NodeLemmas.{sees_on_all, writes_on_all}
use Rattle.order_place.specs.Laws.{GoesAfter, fork_slot}
use Rattle.order_place.proofs.ClockLemmas.{keeps_order, forks_go_early}
use Rattle.order_queue.specs.Order.{place_cmp, event_cmp}
use Rattle.order_queue.specs.declared.waiting.Waiting.{Waiting}
use Rattle.audit_order.specs.declared.bounds.Bounds.{Bounds}
use Rattle.audit_order.specs.declared.counts.Spot.{Spot}
use Rattle.audit_order.specs.Tally.{spot_of, is_less}
use Rattle.audit_order.specs.Turns.{Motion, Event, Read, Came, Went, Ended, InTurn, Leaves, came, went, event_in, is_one, waiting_of}
use Rattle.audit_order.specs.Own.{read_sights, left_sights, sights_in, sights_before, BeginsCall, CallsAgain, CallsCountInOrder, SerialsGoInOrder, Forks, IsPast, FollowsFork, ForksGoFirst}
use Rattle.audit_order.proofs.LesserLemmas.{lesser_go_first}
use Rattle.audit_order.proofs.TogetherLemmas.{suffix, any_has}

-- what is known stands for these sights, and 32-bit calls are read so
pub record Stands (compat : Bool) (all : AllSeen) (sights : List (List ℕ × Sight)) : Type 0 where
  pub compat_is : all.compat ≡ compat
  pub all_of : StandsForAll all sights

read_stands : (found : Option Stamp) (compat : Bool) (old new : AllSeen) (line : List ℕ) (place : Place) (sights : List (List ℕ × Sight))
    → SeesLine old new found line place → Stands compat old sights → Stands compat new (read_sights compat found line place ++ sights)
read_stands None compat old new line place sights same s = subst (λ (a : AllSeen). Stands compat a sights) (sym same) s
read_stands (Some t) compat old new line place sights sees s = record {
  compat_is = sees.compat ∙ s.compat_is;
  all_of = subst (λ (c : Bool). StandsForAll new (seen_by (is_boot t.front) (node_of t.front) (Saw t (read_as c t line) (slot_of place)) ++ sights)) s.compat_is
      (sees_on_all old new t line place sights s.all_of sees);
}

leaves_stands : (b : Bool) (event : Event) (compat : Bool) (old new : AllSeen) (sights : List (List ℕ × Sight)) → Leaves b event old new
    → Stands compat old sights → Stands compat new (left_sights b event ++ sights)
leaves_stands true event compat old new sights same s = subst (λ (a : AllSeen). Stands compat a sights) (sym same) s
leaves_stands false event compat old new sights f s = record {
  compat_is = f.compat ∙ s.compat_is;
  all_of = writes_on_all old new event.node (event.ms, event.serial) sights s.all_of f;
}

stands_all : (compat : Bool) (bounds : Bounds) (all : AllSeen) (motions : List Motion) → InTurn compat bounds all motions → Stands compat all (sights_in compat motions)
stands_all compat bounds all [] t = record { compat_is = t.compat_is; all_of = t.nothing }
stands_all compat bounds all (Read place line ∷ before) t =
    read_stands (stamp_of line) compat t.0 all line place (sights_in compat before) t.3.sees (stands_all compat bounds t.0 before t.1)
stands_all compat bounds all (Came item ∷ before) t = stands_all compat bounds all before t.0
stands_all compat bounds all (Went item ∷ before) t =
    leaves_stands (is_one (event_in before) item) (event_in before) compat t.0 all (sights_in compat before) t.3 (stands_all compat bounds t.0 before t.1)
stands_all compat bounds all (Ended ∷ before) t = stands_all compat bounds all before t.0

-- what was seen of a node before a call was read, and with it
pub record IsSeen (compat : Bool) (before : List Motion) (place : Place) (line : List ℕ) (s : Stamp) : Type 0 where
  pub old : Seen
  pub new : Seen
  pub stands : StandsFor old (sights_before compat before s)
  pub next : SeesNext old new s (read_as compat s line) (slot_of place)

pub is_seen : (compat : Bool) (bounds : Bounds) (all : AllSeen) (later before : List Motion) (place : Place) (line : List ℕ) (s : Stamp) (call : Call)
    → InTurn compat bounds all (later ++ Read place line ∷ before) → BeginsCall compat before line s call → IsSeen compat before place line s
is_seen compat bounds all later before place line s call t c =
    let here = (suffix compat bounds all later (Read place line ∷ before) t) in
    let old = here.1.0 in
    let new = here.0 in
    let name = node_of s.front in
    let stands = stands_all compat bounds old before here.1.1 in
    let sees : SeesOf old new s line place = subst (λ (f : Option Stamp). SeesLine old new f line place) c.bears here.1.3.sees in
    record {
      old = node_at old name;
      new = node_at new name;
      stands = stands.all_of.each name;
      next = subst (λ (b : Bool). SeesNext (begun b (node_at old name)) (node_at new name) s (read_as compat s line) (slot_of place)) c.runs
          (subst (λ (b : Bool). SeesNext (begun (is_boot s.front) (node_at old name)) (node_at new name) s (read_as b s line) (slot_of place)) stands.compat_is sees.sees);
    }

pub calls_count_in_order : CallsCountInOrder
calls_count_in_order compat bounds all later before place line serial earlier t c =
    let seen = is_seen compat bounds all later before place line c.stamp c.call t c.of_call in
    subst (λ (n : ℕ). GoesAfter earlier (slot_of place) n) c.numbered
    (keeps_order seen.old seen.new c.stamp (read_as compat c.stamp line) c.call (slot_of place) (sights_before compat before c.stamp) earlier
    seen.stands seen.next c.of_call.begins c.of_call.is c.was)

-- ---- a lesser place

number_case : (o rest : Ordering) (number other : ℕ) → MatchOrdering o (number < other) (number ≡ other) (other < number) → number < other
    → is_lt (ordering_then o rest) ≡ true
number_case Less rest number other is less = refl
number_case Equal rest number other is less = absurd (omega (arith, is, less))
number_case Greater rest number other is less = absurd (omega (arith, is, less))

next_case : (o rest : Ordering) (number other : ℕ) → MatchOrdering o (number < other) (number ≡ other) (other < number) → number ≤ other → is_lt rest ≡ true
    → is_lt (ordering_then o rest) ≡ true
next_case Less rest number other is le less = refl
next_case Equal rest number other is le less = less
next_case Greater rest number other is le less = absurd (omega (arith, is, le))

-- what is less comes first, and what is no greater does if what is compared next does
less_first : (a b : ℕ) (rest : Ordering) → a < b → is_lt (ordering_then (nat_cmp a b) rest) ≡ true
less_first a b rest less = number_case (nat_cmp a b) rest a b (ranks a b) less

no_greater : (a b : ℕ) (rest : Ordering) → a ≤ b → is_lt rest ≡ true → is_lt (ordering_then (nat_cmp a b) rest) ≡ true
no_greater a b rest le less = next_case (nat_cmp a b) rest a b (ranks a b) le less

lesser : (a b : Spot) → a.time ≤ b.time → a.goes_by ≤ b.goes_by → a.serial < b.serial → is_less a b ≡ true
lesser a b time number less =
    let rest = ordering_then (nat_cmp a.ms b.ms) (ordering_then (slice_cmp nat_cmp a.node b.node) (nat_cmp a.rank b.rank)) in
    let serials = ordering_then (nat_cmp a.serial b.serial) rest in
    no_greater a.time b.time (ordering_then (nat_cmp a.goes_by b.goes_by) serials) time
    (no_greater a.goes_by b.goes_by serials number (less_first a.serial b.serial rest less))

pub serials_go_in_order : SerialsGoInOrder
serials_go_in_order before first second has time number less =
    any_has (λ (w : Waiting). is_less (spot_of first) (spot_of w)) (went before) second has (lesser (spot_of first) (spot_of second) time number less)

-- ---- forks

-- where a fork counts that was entered at this time and has this serial number
abbrev forked : ℕ → ℕ → Option Slot → Slot
forked ms serial before = record { time = not_before ms before; goes_by = fork_number (not_before ms before) serial before }

-- one slot comes before another
abbrev IsLess : Slot → ℕ → ℕ → Type 0
IsLess slot time number = (slot.time < time) ⊎ ((slot.time ≤ time) × (slot.goes_by < number))

number_by : (b : Bool) (time serial : ℕ) (before : Slot) → (time == before.time) ≡ b
    → fork_number time serial (Some before) ≡ (if b then min serial before.goes_by else 0)
number_by b time serial before is = ap (λ (c : Bool). if c then min serial before.goes_by else 0) is

same_time : (a b : ℕ) → (a == b) ≡ true → a ≡ b
same_time a b is = grind (arith, nat_tests, is)

-- a fork is before what is past the calls of its process
past_by : (b : Bool) (ms serial : ℕ) (earlier : Slot) (time number : ℕ) → (max ms earlier.time == earlier.time) ≡ b → ms ≤ time → 0 < number
    → (earlier.time < time) ⊎ ((earlier.time ≡ time) × (earlier.goes_by < number)) → IsLess (forked ms serial (Some earlier)) time number
past_by true ms serial earlier time number is entered some (inl less) =
    let at = same_time (max ms earlier.time) earlier.time is in
    inl (omega (arith, at, less))
past_by true ms serial earlier time number is entered some (inr (at, less)) =
    inr (omega (arith, at, entered), subst (λ (n : ℕ). n < number) (sym (number_by true (max ms earlier.time) serial earlier is)) (omega (arith, less)))
past_by false ms serial earlier time number is entered some (inl less) =
    inr (omega (arith, entered, less), subst (λ (n : ℕ). n < number) (sym (number_by false (max ms earlier.time) serial earlier is)) some)
past_by false ms serial earlier time number is entered some (inr (at, less)) =
    inr (omega (arith, entered, at), subst (λ (n : ℕ). n < number) (sym (number_by false (max ms earlier.time) serial earlier is)) some)

is_less_slot : (ms serial : ℕ) (earlier : Option Slot) (other : Waiting) → FollowsFork ms earlier other → IsLess (forked ms serial earlier) other.time other.goes_by
is_less_slot ms serial None other f = inr (f.entered, subst (λ (n : ℕ). 0 < n) (sym f.own) f.numbered)
is_less_slot ms serial (Some earlier) other f =
    subst (λ (n : ℕ). IsLess (forked ms serial (Some earlier)) other.time n) (sym f.own)
    (past_by (max ms earlier.time == earlier.time) ms serial earlier other.time other.serial refl f.entered f.numbered f.past)

-- a slot less than those of a line comes first
comes_first : (a b : Waiting) (s : Slot) → record { time = a.time; goes_by = a.goes_by } ≡ s → IsLess s b.time b.goes_by → is_lt (place_cmp a b) ≡ true
comes_first a b s is (inl less) =
    less_first a.time b.time (ordering_then (nat_cmp a.goes_by b.goes_by) (event_cmp a b))
    (subst (λ (t : Slot). t.time < b.time) (sym is) less)
comes_first a b s is (inr (time, less)) =
    no_greater a.time b.time (ordering_then (nat_cmp a.goes_by b.goes_by) (event_cmp a b)) (subst (λ (t : Slot). t.time ≤ b.time) (sym is) time)
    (less_first a.goes_by b.goes_by (event_cmp a b) (subst (λ (t : Slot). t.goes_by < b.goes_by) (sym is) less))

gone_by : (b : Bool) (gone : Type 0) → b ≡ true → (b ≡ false) ⊎ gone → gone
gone_by b gone is (inl not) = absurd (cc (is, not))
gone_by b gone is (inr has) = has

pub forks_go_first : ForksGoFirst
forks_go_first compat bounds all later more before place line ms earlier number other t f follows has =
    let middle : List Motion = more ++ Read place line ∷ before in
    let fork : Waiting = waiting_of place number line in
    let here = suffix compat bounds all later (Went other ∷ middle) t in
    let seen = is_seen compat bounds here.1.0 more before place line f.stamp f.call here.1.1 f.of_call in
    let at : slot_of place ≡ forked ms f.stamp.number earlier =
    forks_go_early seen.old seen.new f.stamp (read_as compat f.stamp line) f.call f.child (slot_of place) (sights_before compat before f.stamp)
    seen.stands seen.next f.of_call.begins f.of_call.is f.forks
    ∙ ap (λ (o : Option Slot). fork_slot f.stamp o) f.was ∙ ap (λ (m : ℕ). forked m f.stamp.number earlier) f.entered in
    gone_by (is_lt (place_cmp fork other)) (Contains (went middle) fork)
    (comes_first fork other (forked ms f.stamp.number earlier) at (is_less_slot ms f.stamp.number earlier other follows))
    (All-contains (λ (w : Waiting). (is_lt (place_cmp w other) ≡ false) ⊎ Contains (went middle) w) (came middle) fork
    (lesser_go_first compat bounds all later middle other t) has)
