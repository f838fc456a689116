-- The clock by what was seen.
use Rattle.std.proofs.Common.{◌≡◌, ◌≤◌, ◌+◌, ◌==◌, ◌∙◌, arith, sym, refl, ap, ℕ, Bool, true, false, List, [], ◌∷◌, ◌++◌, Option, None, Some, max, subst, if◌then◌else◌}
use Rattle.std.proofs.lemmas.Bool.Decides.{nat_tests}
use Rattle.std.proofs.lemmas.Option.{same_Some}
use Rattle.order_text.specs.Stamp.{Stamp}
use Rattle.order_calls.specs.declared.call.Call.{Call}
use Rattle.order_calls.specs.declared.call.Takes.{Takes}
use Rattle.order_calls.specs.declared.call.Takes.TheVariants as takes
use Rattle.order_calls.specs.declared.deed.Deed.{Deed}
use Rattle.order_calls.specs.Deeds.{Said, is_regular, is_file_in}
use Rattle.order_calls.specs.Known.{Known, StandsFor as Stands}
use Rattle.order_calls.specs.Lines.{Files, saying, deed_of, call_of, HearsIt}
use Rattle.order_calls.proofs.FileLemmas.{heard}
use Rattle.order_calls.proofs.CallLemmas.{forks_take_nothing}
use Rattle.order_place.specs.declared.clock.Clock.{Clock}
use Rattle.order_place.specs.Clocks.{others_at, time_after, clock_after}
use Rattle.order_place.specs.declared.slot.Slot.{Slot}
use Rattle.order_place.specs.Places.{Seen, SeesNext, call_by, is_event, call_at, event_at, own_time, not_before, call_number, call_slot, first_slot, slot_or, event_slot, calls_of, held_at, held_after}
use Rattle.order_place.specs.Laws.{GoesAfter, fork_slot}
use Rattle.order_place.specs.Sights.{Sight, Saw, Wrote, Started, others_in, clock_in, event_in, call_in, said_in, call_after, begun_or, StandsFor}
use Rattle.order_place.proofs.PlaceLemmas.{first_same}

-- after a line, the times of the others
pub others_step : (clock : Clock) (ms serial other : ℕ) → clock.second ≤ clock.greatest
    → others_at (clock_after clock ms serial) other ≡ (if other == serial then others_at clock other else max (others_at clock other) ms)
others_step clock ms serial other below = grind (arith, nat_tests, below)

pub second_step : (clock : Clock) (ms serial : ℕ) → clock.second ≤ clock.greatest
    → (clock_after clock ms serial).second ≤ (clock_after clock ms serial).greatest
second_step clock ms serial below = grind (arith, nat_tests, below)

pub time_step : (clock : Clock) (ms serial : ℕ) → (clock_after clock ms serial).time ≡ time_after clock.time (others_at clock serial) ms
time_step clock ms serial = grind (arith, nat_tests)

kept_back : (time ms : ℕ) (before : Option Slot) → ms ≤ time → ms ≤ not_before time before
kept_back time ms None le = le
kept_back time ms (Some before) le = omega (arith, le)

own_entered : (clock ms : ℕ) (t : Takes) → ms ≤ own_time clock ms t
own_entered clock ms takes.Nothing = omega arith
own_entered clock ms takes.File = omega arith
own_entered clock ms takes.Awaited = omega arith

first_entered : (seen : Seen) (event : ℕ × ℕ) (call : Option Call) → event.0 ≤ (first_slot seen event call).time
first_entered seen event None = omega arith
first_entered seen event (Some call) = kept_back (own_time seen.clock.time event.0 call.takes) event.0 (call_at seen call.pid) (own_entered seen.clock.time event.0 call.takes)

entered_by : (ms : ℕ) (first : Slot) (held : Option Slot) → ms ≤ first.time → ((slot : Slot) → held ≡ Some slot → ms ≤ slot.time) → ms ≤ (slot_or held first).time
entered_by ms first None le held = le
entered_by ms first (Some slot) le held = held slot refl

-- the call of a line that begins its event holds back calls after it
begun_calls : (old : Seen) (held : Option Slot) (event : ℕ × ℕ) (most : ℕ) (slot : Slot) (call : Option Call) (pid : ℕ) → (held ≡ None → slot ≡ first_slot old event call)
    → calls_of old held event most call pid ≡ begun_or held call (held_at slot.time event.1 most) pid (call_at old pid)
begun_calls old (Some at) event most slot call pid first = refl
begun_calls old None event most slot call pid first =
    ap (λ (t : Slot). held_after call (held_at t.time event.1 most) pid (call_at old pid)) (sym (first refl))

pub by_test : {P : Type 0} (b : Bool) → (b ≡ true → P) → (b ≡ false → P) → P
by_test true f g = f refl
by_test false f g = g refl

-- a line counts no earlier than its own time
pub entered : (seen : Seen) (event : ℕ × ℕ) (call : Option Call) → ((slot : Slot) → event_at seen event ≡ Some slot → event.0 ≤ slot.time)
    → event.0 ≤ (event_slot seen event call).time
entered seen event call held = entered_by event.0 (first_slot seen event call) (event_at seen event) (first_entered seen event call) held

-- whichever event is left out, the clock is near the others
pub shared : (sights : List Sight) (serial : ℕ) → clock_in sights ≤ others_in sights serial + 20000
shared [] serial = omega arith
shared (Wrote event ∷ before) serial = shared before serial
shared (Started ∷ before) serial = omega arith
shared (Saw s line slot ∷ before) serial =
    let more = shared before serial in
    grind (arith, nat_tests, more)

time_is : (old : Seen) (sights : List Sight) (s : Stamp) → StandsFor old sights
    → (clock_after old.clock s.ms s.number).time ≡ time_after (clock_in sights) (others_in sights s.number) s.ms
time_is old sights s stands =
    time_step old.clock s.ms s.number
    ∙ ap (λ (t : ℕ). time_after t (others_at old.clock s.number) s.ms) stands.clock ∙ ap (λ (o : ℕ). time_after (clock_in sights) o s.ms) (stands.others s.number)

entry_by : (same : Bool) (ms : ℕ) (slot now : Slot) (before : Option Slot) → (same ≡ true → ms ≤ now.time) → (before ≡ Some slot → ms ≤ slot.time)
    → (if same then Some now else before) ≡ Some slot → ms ≤ slot.time
entry_by true ms slot now before here there at = subst (λ (t : Slot). ms ≤ t.time) (same_Some _ _ at) (here refl)
entry_by false ms slot now before here there at = there at

-- the call of a line is by what was seen before it
pub call_same : (old : Seen) (line : List ℕ) (sights : List Sight) → StandsFor old sights → call_by old line ≡ call_after sights line
call_same old line sights stands = ap (λ (files : Files). call_of files line) (λ i p parent n. is_regular parent (stands.files.held p n i))

hears_on : (old new : Known) (event : ℕ × ℕ) (said : Option Deed) (before : List Said) → HearsIt old new event said → Stands old before
    → Stands new (saying event said ++ before)
hears_on old new event None before same stands = subst (λ (k : Known). Stands k before) (sym same) stands
hears_on old new event (Some said) before hears stands = heard old new event said before hears stands

pub sees_on : (old new : Seen) (s : Stamp) (line : List ℕ) (slot : Slot) (sights : List Sight)
    → StandsFor old sights → SeesNext old new s line slot → StandsFor new (Saw s line slot ∷ sights)
sees_on old new s line slot sights stands next =
    let sees = next.sees in
    let call : Option Call = call_by old line in
    let event : ℕ × ℕ = (s.ms, s.number) in
    record {
      clock = ap (λ (c : Clock). c.time) sees.clock ∙ time_is old sights s stands;
      others = λ serial. ap (λ (c : Clock). others_at c serial) sees.clock ∙ others_step old.clock s.ms s.number serial stands.second
          ∙ ap (λ (o : ℕ). if serial == s.number then o else max o s.ms) (stands.others serial);
      second = subst (λ (c : Clock). c.second ≤ c.greatest) (sym sees.clock) (second_step old.clock s.ms s.number stands.second);
      calls = λ pid. sees.calls pid
          ∙ begun_calls old (event_at old event) event (clock_after old.clock s.ms s.number).time slot call pid
          (λ none. sees.slot ∙ ap (λ (o : Option Slot). slot_or o (first_slot old event call)) none)
          ∙ ap (λ (o : Option Slot). begun_or o call (held_at slot.time s.number (clock_after old.clock s.ms s.number).time) pid (call_at old pid)) (stands.events event)
          ∙ ap (λ (t : ℕ). begun_or (event_in sights event) call (held_at slot.time s.number t) pid (call_at old pid)) (time_is old sights s stands)
          ∙ ap (λ (o : Option Slot). begun_or (event_in sights event) call (held_at slot.time s.number (clock_in (Saw s line slot ∷ sights))) pid o) (stands.calls pid)
          ∙ ap (λ (c : Option Call). begun_or (event_in sights event) c (held_at slot.time s.number (clock_in (Saw s line slot ∷ sights))) pid (call_in sights pid))
          (call_same old line sights stands);
      events = λ other. sees.events other
          ∙ ap (λ (t : Slot). if is_event event other then Some t else event_at old other) (sym sees.slot)
          ∙ ap (λ (o : Option Slot). if is_event event other then Some slot else o) (stands.events other);
      files = hears_on old.files new.files event (deed_of line) (said_in sights) next.hears stands.files;
      entry = λ other at is. entry_by (is_event event other) other.0 at (event_slot old event call) (event_at old other)
          (λ same. subst (λ (t : ℕ). t ≤ (event_slot old event call).time) (first_same event other same)
          (entered old event call (stands.entry event)))
          (stands.entry other at) (sym (sees.events other) ∙ is);
    }

-- ---- laws

-- where a call counts that would count at this time by itself
abbrev slot_by : ℕ → ℕ → Option ℕ → Option Slot → Slot
slot_by own serial child before =
    record { time = not_before own before; goes_by = call_number (not_before own before) serial child before }

is_number : (a b : ℕ) → a ≡ b → (a == b) ≡ true
is_number a b same = grind (arith, nat_tests, same)

-- the slot of a call that begins its event
begins_at : (old : Seen) (s : Stamp) (line : List ℕ) (call : Call) (slot : Slot) (sights : List Sight) → StandsFor old sights
    → slot ≡ event_slot old (s.ms, s.number) (call_by old line) → event_in sights (s.ms, s.number) ≡ None → call_after sights line ≡ Some call
    → slot ≡ call_slot old (s.ms, s.number) call
begins_at old s line call slot sights stands is none some =
    is ∙ ap (λ (o : Option Slot). slot_or o (first_slot old (s.ms, s.number) (call_by old line))) (stands.events (s.ms, s.number) ∙ none)
    ∙ ap (λ (c : Option Call). first_slot old (s.ms, s.number) c) (call_same old line sights stands ∙ some)

-- a call is no earlier than the one before, by its time and by its number
after_before : (time serial : ℕ) (child : Option ℕ) (before : Slot)
    → GoesAfter before (record { time = max time before.time; goes_by = call_number (max time before.time) serial child (Some before) }) serial
after_before time serial None before = record { time = omega arith; number = λ same. omega arith }
after_before time serial (Some child) before = record {
  time = omega arith;
  number = λ same. rw (is_number (max time before.time) before.time same) (omega arith);
}

pub keeps_order : (old new : Seen) (s : Stamp) (line : List ℕ) (call : Call) (slot : Slot) (sights : List Sight) (before : Slot)
    → StandsFor old sights → SeesNext old new s line slot → event_in sights (s.ms, s.number) ≡ None
    → call_after sights line ≡ Some call → call_in sights call.pid ≡ Some before → GoesAfter before slot s.number
keeps_order old new s line call slot sights before stands next none is at =
    let own = own_time old.clock.time s.ms call.takes in
    subst (λ (t : Slot). GoesAfter before t s.number)
    (sym (begins_at old s line call slot sights stands next.sees.slot none is
    ∙ ap (λ (o : Option Slot). slot_by own s.number call.child o) (stands.calls call.pid ∙ at)))
    (after_before own s.number call.child before)

pub forks_go_early : (old new : Seen) (s : Stamp) (line : List ℕ) (call : Call) (child : ℕ) (slot : Slot) (sights : List Sight)
    → StandsFor old sights → SeesNext old new s line slot → event_in sights (s.ms, s.number) ≡ None
    → call_after sights line ≡ Some call → call.child ≡ Some child → slot ≡ fork_slot s (call_in sights call.pid)
forks_go_early old new s line call child slot sights stands next none is forks =
    begins_at old s line call slot sights stands next.sees.slot none is
    ∙ ap (λ (t : Takes). slot_by (own_time old.clock.time s.ms t) s.number call.child (call_at old call.pid)) (forks_take_nothing (is_file_in (said_in sights)) line call child is forks)
    ∙ ap (λ (c : Option ℕ). slot_by s.ms s.number c (call_at old call.pid)) forks
    ∙ ap (λ (o : Option Slot). slot_by s.ms s.number (Some child) o) (stands.calls call.pid)

pub together : (old new : Seen) (s : Stamp) (line : List ℕ) (slot : Slot) (sights : List Sight) (before : Slot)
    → StandsFor old sights → SeesNext old new s line slot → event_in sights (s.ms, s.number) ≡ Some before → slot ≡ before
together old new s line slot sights before stands next at =
    next.sees.slot ∙ ap (λ (o : Option Slot). slot_or o (first_slot old (s.ms, s.number) (call_by old line))) (stands.events (s.ms, s.number) ∙ at)

pub after_entry : (old new : Seen) (s : Stamp) (line : List ℕ) (slot : Slot) (sights : List Sight)
    → StandsFor old sights → SeesNext old new s line slot → s.ms ≤ slot.time
after_entry old new s line slot sights stands next =
    subst (λ (t : Slot). s.ms ≤ t.time) (sym next.sees.slot)
    (entered old (s.ms, s.number) (call_by old line) (λ at is. stands.entry (s.ms, s.number) at is))

file_soon : (clock ms : ℕ) (t : Takes) → t ≡ takes.File → own_time clock ms t ≤ ms + 4
file_soon clock ms takes.Nothing e = absurd (cc e)
file_soon clock ms takes.File e = omega arith
file_soon clock ms takes.Awaited e = absurd (cc e)

kept_below : (time most : ℕ) (before : Option Slot) → time ≤ most → not_before time before ≤ not_before most before
kept_below time most None le = le
kept_below time most (Some before) le = omega (arith, le)

pub files_soon : (old new : Seen) (s : Stamp) (line : List ℕ) (call : Call) (slot : Slot) (sights : List Sight)
    → StandsFor old sights → SeesNext old new s line slot → event_in sights (s.ms, s.number) ≡ None
    → call_after sights line ≡ Some call → call.takes ≡ takes.File → slot.time ≤ not_before (s.ms + 4) (call_in sights call.pid)
files_soon old new s line call slot sights stands next none is file =
    let own = own_time old.clock.time s.ms call.takes in
    subst (λ (t : Slot). t.time ≤ not_before (s.ms + 4) (call_in sights call.pid))
    (sym (begins_at old s line call slot sights stands next.sees.slot none is
    ∙ ap (λ (o : Option Slot). slot_by own s.number call.child o) (stands.calls call.pid)))
    (kept_below own (s.ms + 4) (call_in sights call.pid) (file_soon old.clock.time s.ms call.takes file))
