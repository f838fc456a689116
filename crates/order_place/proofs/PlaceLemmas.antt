-- What is known of processes and events once a line is seen.
use Rattle.std.proofs.Common.{◌≡◌, ◌∙◌, arith, sym, refl, ap, subst, ℕ, Bool, true, false, List, Option, None, Some, if◌then◌else◌}
use Rattle.std.specs.Map.{lookup}
use Rattle.std.proofs.lemmas.Bool.Decides.{nat_tests}
use Rattle.order_calls.specs.declared.call.Call.{Call}
use Rattle.order_calls.specs.Known.{Known}
use Rattle.order_calls.specs.Lines.{HearsIt, HearsLine, deed_of}
use Rattle.order_text.specs.Stamp.{Stamp}
use Rattle.order_place.specs.declared.clock.Clock.{Clock}
use Rattle.order_place.specs.Clocks.{clock_after}
use Rattle.order_place.specs.declared.slot.Slot.{Slot}
use Rattle.order_place.specs.Places.{Seen, is_pid, later_of, HoldsBack, is_event, call_at, event_at, first_slot, event_slot, calls_by, calls_of, HoldsEvent, Sees, SeesNext, Forgets, slot_or}

one_pid : (a b : ℕ) → is_pid a b ≡ true → a ≡ b
one_pid a b same = grind (arith, nat_tests, same)

held_back_by : (b : Bool) (old : Seen) (held pid : ℕ) (slot put : Slot) (after mine : Option Slot) → is_pid held pid ≡ b → put ≡ later_of slot (call_at old held)
    → mine ≡ call_at old pid → after ≡ (if b then Some put else mine)
    → after ≡ (if b then Some (later_of slot (call_at old pid)) else call_at old pid)
held_back_by true old held pid slot put after mine is later same moved =
    moved ∙ ap Some (later ∙ ap (λ (p : ℕ). later_of slot (call_at old p)) (one_pid held pid is))
held_back_by false old held pid slot put after mine is later same moved = moved ∙ same

-- a process's calls are held back to a slot
pub held_back : (old inside : Seen) (calls2 : List (ℕ × Slot)) (held : ℕ) (slot put : Slot) → inside ≡ old → put ≡ later_of slot (call_at old held)
    → ((pid : ℕ) → lookup (is_pid pid) calls2 ≡ (if is_pid held pid then Some put else lookup (is_pid pid) inside.calls))
    → HoldsBack old (record inside { calls = calls2 }) (Some held) slot
held_back old inside calls2 held slot put same later moved = record {
  each = λ pid. held_back_by (is_pid held pid) old held pid slot put (lookup (is_pid pid) calls2) (lookup (is_pid pid) inside.calls) refl later
      (ap (λ (s : Seen). call_at s pid) same) (moved pid);
}

pub forgotten : (old : Seen) (inside : Seen) (events2 : List ((ℕ × ℕ) × Slot)) (event : ℕ × ℕ) → inside ≡ old
    → ((other : ℕ × ℕ) → lookup (is_event other) events2 ≡ (if is_event event other then None else lookup (is_event other) inside.events))
    → Forgets old (record inside { events = events2 }) event
forgotten old inside events2 event same moved = record {
  clock = ap (λ (s : Seen). s.clock) same;
  files = ap (λ (s : Seen). s.files) same;
  calls = λ pid. ap (λ (s : Seen). call_at s pid) same;
  events = λ other. moved other ∙ ap (λ (s : Seen). if is_event event other then None else event_at s other) same;
}

-- an event that is held stays at its slot
kept_if : (b : Bool) (here there : Option Slot) → (b ≡ true → here ≡ there) → here ≡ (if b then there else here)
kept_if true here there same = same refl
kept_if false here there same = refl

pub first_same : (a b : ℕ × ℕ) → is_event a b ≡ true → a.0 ≡ b.0
first_same a b same = grind (arith, nat_tests, same)

second_same : (a b : ℕ × ℕ) → is_event a b ≡ true → a.1 ≡ b.1
second_same a b same = grind (arith, nat_tests, same)

one_event : (a b : ℕ × ℕ) → is_event a b ≡ true → a ≡ b
one_event a b same = λ i. (first_same a b same i, second_same a b same i)

pub held : (old : Seen) (event : ℕ × ℕ) (most : ℕ) (call : Option Call) (slot : Slot) → event_at old event ≡ Some slot → HoldsEvent old old event most call
held old event most call slot known = record {
  clock = refl;
  files = refl;
  calls = λ pid. ap (λ (o : Option Slot). calls_of old o event most call pid) (sym known);
  events = λ other. kept_if (is_event event other) (event_at old other) (Some (event_slot old event call))
      (λ same. ap (λ (e : ℕ × ℕ). event_at old e) (sym (one_event event other same)) ∙ known
      ∙ ap (λ (o : Option Slot). Some (slot_or o (first_slot old event call))) (sym known));
}

pub begun : (old mid inside : Seen) (events2 : List ((ℕ × ℕ) × Slot)) (event : ℕ × ℕ) (most : ℕ) (call : Option Call) (slot : Slot) → event_at old event ≡ None → slot ≡ first_slot old event call
    → inside ≡ mid → mid ≡ record old { calls = mid.calls } → ((pid : ℕ) → call_at mid pid ≡ calls_by old call event most pid)
    → ((other : ℕ × ℕ) → lookup (is_event other) events2 ≡ (if is_event event other then Some slot else event_at inside other))
    → HoldsEvent old (record inside { events = events2 }) event most call
begun old mid inside events2 event most call slot new is now same calls moved = record {
  clock = ap (λ (s : Seen). s.clock) (now ∙ same);
  files = ap (λ (s : Seen). s.files) (now ∙ same);
  calls = λ pid. ap (λ (s : Seen). call_at s pid) now ∙ calls pid ∙ ap (λ (o : Option Slot). calls_of old o event most call pid) (sym new);
  events = λ other. moved other
      ∙ ap (λ (s : Seen). if is_event event other then Some slot else event_at s other) (now ∙ same)
      ∙ ap (λ (t : Slot). if is_event event other then Some t else event_at old other) (is ∙ ap (λ (o : Option Slot). slot_or o (first_slot old event call)) (sym new));
}

-- ---- a line is seen

seen_inside : (inside : Seen) (known : Known) (mid inside2 : Seen) (clock : Clock) (s : Stamp) (line : List ℕ) (call : Option Call) (slot : Slot)
    → HearsLine inside.files known line (s.ms, s.number) call → clock ≡ clock_after inside.clock s.ms s.number
    → HoldsEvent (record inside { files = known }) mid (s.ms, s.number) clock.time call → slot ≡ event_slot inside (s.ms, s.number) call → inside2 ≡ mid
    → SeesNext inside (record inside2 { clock = clock }) s line slot
seen_inside inside known mid inside2 clock s line call slot heard ticks holds is same = record {
  sees = subst (λ (c : Option Call). Sees inside (record inside2 { clock = clock }) s c slot) heard.is (record {
    slot = is;
    clock = ticks;
    calls = λ pid. ap (λ (k : Seen). call_at k pid) same ∙ holds.calls pid
        ∙ ap (λ (c : Clock). calls_of inside (event_at inside (s.ms, s.number)) (s.ms, s.number) c.time call pid) ticks;
    events = λ other. ap (λ (k : Seen). event_at k other) same ∙ holds.events other;
  });
  hears = subst (λ (k : Known). HearsIt inside.files k (s.ms, s.number) (deed_of line)) (sym (ap (λ (k : Seen). k.files) same ∙ holds.files)) heard.hears;
}

pub seen_next : (old inside : Seen) (known : Known) (mid inside2 : Seen) (clock : Clock) (s : Stamp) (line : List ℕ) (call : Option Call) (slot : Slot)
    → inside ≡ old → HearsLine inside.files known line (s.ms, s.number) call → clock ≡ clock_after inside.clock s.ms s.number
    → HoldsEvent (record inside { files = known }) mid (s.ms, s.number) clock.time call → slot ≡ event_slot inside (s.ms, s.number) call → inside2 ≡ mid
    → SeesNext old (record inside2 { clock = clock }) s line slot
seen_next old inside known mid inside2 clock s line call slot was heard ticks holds is same =
    subst (λ (o : Seen). SeesNext o (record inside2 { clock = clock }) s line slot) was
    (seen_inside inside known mid inside2 clock s line call slot heard ticks holds is same)
