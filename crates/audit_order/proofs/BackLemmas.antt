-- A call holds back the calls that are read later.
use Rattle.std.proofs.Common.{◌≡◌, ◌≤◌, ◌<◌, ◌==◌, ◌∙◌, ◌⊎◌, inl, inr, sym, ap, refl, subst, arith, ℕ, Bool, true, false, List, [], ◌∷◌, ◌++◌, Option, None, Some, max, min, nat_lt, nat_cmp, if◌then◌else◌}
use Rattle.std.specs.declared.cmp.Ordering.TheVariants.{Equal}
use Rattle.std.specs.Ordering.{is_eq}
use Rattle.std.specs.Cmp.{nat_cmp_is}
use Rattle.std.proofs.lemmas.Bool.Decides.{nat_tests}
use Rattle.std.proofs.lemmas.Option.{same_Some}
use Rattle.order_text.specs.Stamp.{Stamp, stamp_of}
use Rattle.order_calls.specs.declared.call.Call.{Call}
use Rattle.order_place.specs.declared.places.Place.{Place}
use Rattle.order_place.specs.declared.slot.Slot.{Slot}
use Rattle.order_place.specs.Places.{is_pid, later_of, held_by, held_at, held_after, node_of, is_boot, read_as}
use Rattle.order_place.specs.Sights.{Sight, Saw, Wrote, Started, clock_in, event_in, call_in, call_after, begun_or}
use Rattle.order_place.specs.Nodes.{AllSeen, is_node, sights_of, seen_by, slot_of}
use Rattle.order_place.specs.Laws.{GoesAfter}
use Rattle.order_place.proofs.ClockLemmas.{by_test, keeps_order}
use Rattle.audit_order.specs.declared.bounds.Bounds.{Bounds}
use Rattle.audit_order.specs.Turns.{Motion, Event, Read, Came, Went, Ended, InTurn, is_one}
use Rattle.audit_order.specs.Turns as turns
use Rattle.audit_order.specs.Own.{read_sights, left_sights, sights_in, sights_before, BeginsCall, IsNoStart, RunsOn, HoldsBack, IsCallOf, LaterCallsCountLater}
use Rattle.audit_order.proofs.OwnLemmas.{IsSeen, is_seen}

-- a slot isn't earlier than another one
record IsNoEarlier (s e : Slot) : Type 0 where
  pub time : s.time ≤ e.time
  pub number : e.time ≡ s.time → s.goes_by ≤ e.goes_by

-- there is a slot, and it isn't earlier than this one
abbrev AtLeast : Slot → Option Slot → Type 0
AtLeast s None = ⊥
AtLeast s (Some e) = IsNoEarlier s e

same_time : (a b : ℕ) → (a == b) ≡ true → a ≡ b
same_time a b is = grind (arith, nat_tests, is)

less_time : (a b : ℕ) → nat_lt a b ≡ true → a < b
less_time a b is = grind (arith, nat_tests, is)

more_time : (a b : ℕ) → (a == b) ≡ false → nat_lt a b ≡ false → b < a
more_time a b isnt not = grind (arith, nat_tests, isnt, not)

itself : (s : Slot) → IsNoEarlier s s
itself s = record { time = omega arith; number = λ same. omega arith }

keeps_by : (b c : Bool) (s x e : Slot) → (x.time == e.time) ≡ b → nat_lt x.time e.time ≡ c → IsNoEarlier s e
    → IsNoEarlier s (if b then record { time = x.time; goes_by = max x.goes_by e.goes_by } else if c then e else x)
keeps_by true c s x e is less k =
    let at = same_time x.time e.time is in
    record {
      time = let le = k.time in omega (arith, at, le);
      number = λ same. (let le = k.number (sym at ∙ same) in omega (arith, le));
    }
keeps_by false true s x e is less k = k
keeps_by false false s x e is less k =
    let at = more_time x.time e.time is less in
    let le = k.time in
    record { time = omega (arith, at, le); number = λ same. absurd (omega (arith, at, le, same)) }

later_keeps : (s x e : Slot) → IsNoEarlier s e → IsNoEarlier s (later_of x (Some e))
later_keeps s x e k = keeps_by (x.time == e.time) (nat_lt x.time e.time) s x e refl refl k

new_by : (b c : Bool) (x e : Slot) → (x.time == e.time) ≡ b → nat_lt x.time e.time ≡ c
    → IsNoEarlier x (if b then record { time = x.time; goes_by = max x.goes_by e.goes_by } else if c then e else x)
new_by true c x e is less = record { time = omega arith; number = λ same. omega arith }
new_by false true x e is less =
    let at = less_time x.time e.time less in
    record { time = omega (arith, at); number = λ same. absurd (omega (arith, at, same)) }
new_by false false x e is less = itself x

later_new : (x : Slot) (before : Option Slot) → IsNoEarlier x (later_of x before)
later_new x None = itself x
later_new x (Some e) = new_by (x.time == e.time) (nat_lt x.time e.time) x e refl refl

-- ---- what is held back stays so

held_by_keeps : (b : Bool) (x s : Slot) (before : Option Slot) → AtLeast s before → AtLeast s (if b then Some (later_of x before) else before)
held_by_keeps true x s None k = absurd k
held_by_keeps true x s (Some e) k = later_keeps s x e k
held_by_keeps false x s before k = k

held_keeps : (held : Option ℕ) (x : Slot) (pid : ℕ) (s : Slot) (before : Option Slot) → AtLeast s before → AtLeast s (held_by held x pid before)
held_keeps None x pid s before k = k
held_keeps (Some p) x pid s before k = held_by_keeps (is_pid p pid) x s before k

call_keeps : (call : Option Call) (x : Slot) (pid : ℕ) (s : Slot) (before : Option Slot) → AtLeast s before → AtLeast s (held_after call x pid before)
call_keeps None x pid s before k = k
call_keeps (Some call) x pid s before k =
    held_keeps call.child x pid s (held_by (Some call.pid) x pid before) (held_keeps (Some call.pid) x pid s before k)

line_keeps : (event : Option Slot) (call : Option Call) (x : Slot) (pid : ℕ) (s : Slot) (before : Option Slot) → AtLeast s before
    → AtLeast s (begun_or event call x pid before)
line_keeps None call x pid s before k = call_keeps call x pid s before k
line_keeps (Some event) call x pid s before k = k

saw_keeps : (t : Stamp) (line : List ℕ) (slot : Slot) (sights : List Sight) (pid : ℕ) (s : Slot) → AtLeast s (call_in sights pid)
    → AtLeast s (call_in (Saw t line slot ∷ sights) pid)
saw_keeps t line slot sights pid s k =
    line_keeps (event_in sights (t.ms, t.number)) (call_after sights line) (held_at slot.time t.number (clock_in (Saw t line slot ∷ sights))) pid s (call_in sights pid) k

-- of one more sight of a node, what was seen of a node
own : (of name : List ℕ) (sight : Sight) (before : List (List ℕ × Sight)) → is_node of name ≡ true → sights_of name ((of, sight) ∷ before) ≡ sight ∷ sights_of name before
own of name sight before same = rw same refl

apart : (of name : List ℕ) (sight : Sight) (before : List (List ℕ × Sight)) → is_node of name ≡ false → sights_of name ((of, sight) ∷ before) ≡ sights_of name before
apart of name sight before isnt = rw isnt refl

seen_apart : (boots : Bool) (sight : Sight) (of name : List ℕ) (before : List (List ℕ × Sight)) → is_node of name ≡ false
    → sights_of name (seen_by boots of sight ++ before) ≡ sights_of name before
seen_apart true sight of name before isnt = apart of name sight ((of, Started) ∷ before) isnt ∙ apart of name Started before isnt
seen_apart false sight of name before isnt = apart of name sight before isnt

-- the calls of a process of this node are held back to this slot
abbrev Back : List ℕ → ℕ → Slot → List (List ℕ × Sight) → Type 0
Back node pid s sights = AtLeast s (call_in (sights_of node sights) pid)

as_before : (node : List ℕ) (pid : ℕ) (s : Slot) (before after : List (List ℕ × Sight)) → sights_of node after ≡ sights_of node before
    → Back node pid s before → Back node pid s after
as_before node pid s before after same k = subst (λ (l : List Sight). AtLeast s (call_in l pid)) (sym same) k

sight_keeps : (boots : Bool) (node : List ℕ) (pid : ℕ) (s : Slot) (of : List ℕ) (t : Stamp) (line : List ℕ) (slot : Slot) (before : List (List ℕ × Sight))
    → (is_node of node ≡ false) ⊎ (boots ≡ false) → Back node pid s before → Back node pid s (seen_by boots of (Saw t line slot) ++ before)
sight_keeps boots node pid s of t line slot before (inl isnt) k =
    as_before node pid s before (seen_by boots of (Saw t line slot) ++ before) (seen_apart boots (Saw t line slot) of node before isnt) k
sight_keeps true node pid s of t line slot before (inr runs) k = absurd (cc runs)
sight_keeps false node pid s of t line slot before (inr runs) k =
    by_test (is_node of node)
    (λ same. subst (λ (l : List Sight). AtLeast s (call_in l pid)) (sym (own of node (Saw t line slot) before same)) (saw_keeps t line slot (sights_of node before) pid s k))
    (λ isnt. as_before node pid s before ((of, Saw t line slot) ∷ before) (apart of node (Saw t line slot) before isnt) k)

read_keeps : (found : Option Stamp) (compat : Bool) (node : List ℕ) (pid : ℕ) (s : Slot) (line : List ℕ) (place : Place) (before : List (List ℕ × Sight))
    → IsNoStart node found → Back node pid s before → Back node pid s (read_sights compat found line place ++ before)
read_keeps None compat node pid s line place before runs k = k
read_keeps (Some t) compat node pid s line place before runs k =
    sight_keeps (is_boot t.front) node pid s (node_of t.front) t (read_as compat t line) (slot_of place) before runs k

left_keeps : (b : Bool) (node : List ℕ) (pid : ℕ) (s : Slot) (event : Event) (before : List (List ℕ × Sight)) → Back node pid s before
    → Back node pid s (left_sights b event ++ before)
left_keeps true node pid s event before k = k
left_keeps false node pid s event before k =
    by_test (is_node event.node node)
    (λ same. subst (λ (l : List Sight). AtLeast s (call_in l pid)) (sym (own event.node node (Wrote (event.ms, event.serial)) before same)) k)
    (λ isnt. as_before node pid s before ((event.node, Wrote (event.ms, event.serial)) ∷ before) (apart event.node node (Wrote (event.ms, event.serial)) before isnt) k)

all_keep : (compat : Bool) (node : List ℕ) (pid : ℕ) (s : Slot) (more rest : List Motion) → RunsOn node more → Back node pid s (sights_in compat rest)
    → Back node pid s (sights_in compat (more ++ rest))
all_keep compat node pid s [] rest runs k = k
all_keep compat node pid s (Read place line ∷ more) rest runs k =
    read_keeps (stamp_of line) compat node pid s line place (sights_in compat (more ++ rest)) runs.0 (all_keep compat node pid s more rest runs.1 k)
all_keep compat node pid s (Came item ∷ more) rest runs k = all_keep compat node pid s more rest runs k
all_keep compat node pid s (Went item ∷ more) rest runs k =
    left_keeps (is_one (turns.event_in (more ++ rest)) item) node pid s (turns.event_in (more ++ rest)) (sights_in compat (more ++ rest))
    (all_keep compat node pid s more rest runs k)
all_keep compat node pid s (Ended ∷ more) rest runs k = all_keep compat node pid s more rest runs k

-- ---- a call holds back

cmp_itself : (n : ℕ) → nat_cmp n n ≡ Equal
cmp_itself n = sym (nat_cmp_is n n Equal refl)

pid_itself : (n : ℕ) → is_pid n n ≡ true
pid_itself n = ap is_eq (cmp_itself n)

node_itself : (name : List ℕ) → is_node name name ≡ true
node_itself [] = refl
node_itself (b ∷ name) = rw (cmp_itself b) (node_itself name)

held_here : (held : Option ℕ) (x : Slot) (pid : ℕ) (before : Option Slot) → held ≡ Some pid → AtLeast x (held_by held x pid before)
held_here held x pid before is =
    subst (λ (o : Option ℕ). AtLeast x (held_by o x pid before)) (sym is)
    (subst (λ (b : Bool). AtLeast x (if b then Some (later_of x before) else before)) (sym (pid_itself pid)) (later_new x before))

call_holds : (call : Call) (x : Slot) (pid : ℕ) (before : Option Slot) → (call.pid ≡ pid) ⊎ (call.child ≡ Some pid) → AtLeast x (held_after (Some call) x pid before)
call_holds call x pid before (inl same) =
    held_keeps call.child x pid x (held_by (Some call.pid) x pid before) (held_here (Some call.pid) x pid before (ap Some same))
call_holds call x pid before (inr same) = held_here call.child x pid (held_by (Some call.pid) x pid before) same

in_time : (time serial clock : ℕ) → time ≤ clock → held_at time serial clock ≡ record { time = time; goes_by = serial }
in_time time serial clock le =
    let same : min time clock ≡ time = omega (arith, le) in
    λ i. record { time = same i; goes_by = serial }

saw_holds : (compat : Bool) (before : List Motion) (place : Place) (line : List ℕ) (node : List ℕ) (pid serial : ℕ) (h : HoldsBack compat before place line node pid serial)
    → AtLeast (record { time = place.time; goes_by = serial })
    (call_in (Saw h.stamp (read_as compat h.stamp line) (slot_of place) ∷ sights_before compat before h.stamp) pid)
saw_holds compat before place line node pid serial h =
    let s = h.stamp in
    let read : List ℕ = read_as compat s line in
    let seen : List Sight = sights_before compat before s in
    let clock : ℕ = clock_in (Saw s read (slot_of place) ∷ seen) in
    let x : Slot = held_at place.time s.number clock in
    let is : x ≡ record { time = place.time; goes_by = serial } =
    in_time place.time s.number clock h.in_time ∙ (λ i. record { time = place.time; goes_by = h.numbered i }) in
    subst (λ (e : Slot). AtLeast e (begun_or (event_in seen (s.ms, s.number)) (call_after seen read) x pid (call_in seen pid))) is
    (subst (λ (o : Option Slot). AtLeast x (begun_or o (call_after seen read) x pid (call_in seen pid))) (sym h.of_call.begins)
    (subst (λ (c : Option Call). AtLeast x (held_after c x pid (call_in seen pid))) (sym h.of_call.is)
    (call_holds h.call x pid (call_in seen pid) h.holds)))

read_holds : (compat : Bool) (before : List Motion) (place : Place) (line : List ℕ) (node : List ℕ) (pid serial : ℕ) → HoldsBack compat before place line node pid serial
    → Back node pid (record { time = place.time; goes_by = serial }) (sights_in compat (Read place line ∷ before))
read_holds compat before place line node pid serial h =
    let s = h.stamp in
    let e : Slot = record { time = place.time; goes_by = serial } in
    let sight : Sight = Saw s (read_as compat s line) (slot_of place) in
    subst (λ (n : List ℕ). Back n pid e (sights_in compat (Read place line ∷ before))) h.of_node
    (subst (λ (f : Option Stamp). Back (node_of s.front) pid e (read_sights compat f line place ++ sights_in compat before)) (sym h.of_call.bears)
    (subst (λ (b : Bool). Back (node_of s.front) pid e (seen_by b (node_of s.front) sight ++ sights_in compat before)) (sym h.of_call.runs)
    (subst (λ (l : List Sight). AtLeast e (call_in l pid)) (sym (own (node_of s.front) (node_of s.front) sight (sights_in compat before) (node_itself (node_of s.front))))
    (saw_holds compat before place line node pid serial h))))

-- ---- a later call

-- what goes after the later of two slots goes after the other
after_earlier : (s e slot : Slot) (serial : ℕ) → IsNoEarlier s e → GoesAfter e slot serial → GoesAfter s slot serial
after_earlier s e slot serial k g =
    let first = k.time in
    let second = g.time in
    record {
      time = omega (arith, first, second);
      number = λ same.
          let at : e.time ≡ s.time = omega (arith, first, second, same) in
          let low = k.number at in
          let high = g.number (same ∙ sym at) in
          omega (arith, low, high);
    }

with_floor : (s slot : Slot) (serial : ℕ) (o : Option Slot) → AtLeast s o → ((e : Slot) → o ≡ Some e → GoesAfter e slot serial) → GoesAfter s slot serial
with_floor s slot serial None k f = absurd k
with_floor s slot serial (Some e) k f = after_earlier s e slot serial k (f e refl)

pub later_calls_count_later : LaterCallsCountLater
later_calls_count_later compat bounds all later more before first first_line second second_line node pid serial number t h c runs =
    let middle : List Motion = more ++ Read first first_line ∷ before in
    let s = c.stamp in
    let seen = is_seen compat bounds all later middle second second_line s c.call t c.of_call in
    let back = all_keep compat node pid (record { time = first.time; goes_by = serial }) more (Read first first_line ∷ before) runs
    (read_holds compat before first first_line node pid serial h) in
    let here = subst (λ (n : List ℕ). Back n pid (record { time = first.time; goes_by = serial }) (sights_in compat middle)) (sym c.of_node) back in
    with_floor (record { time = first.time; goes_by = serial }) (slot_of second) number (call_in (sights_before compat middle s) pid) here
    (λ e at. subst (λ (n : ℕ). GoesAfter e (slot_of second) n) c.numbered
    (keeps_order seen.old seen.new s (read_as compat s second_line) c.call (slot_of second) (sights_before compat middle s) e
    seen.stands seen.next c.of_call.begins c.of_call.is (ap (λ (p : ℕ). call_in (sights_before compat middle s) p) c.of_process ∙ at)))
