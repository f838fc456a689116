-- What is remembered of descriptors goes on with each act. Every list of acts has the newest first.
use Rattle.std.proofs.Common.{◌≡◌, ◌∙◌, ◌≤◌, ◌⊎◌, inl, inr, refl, sym, ap, subst, ℕ, suc, Bool, true, false, List, [], ◌∷◌, ◌++◌, reverse, Option, Some, None, arith}
use Rattle.std.specs.Prelude.{◌==◌, ◌||◌, ◌&&◌, ◌+◌, not, if◌then◌else◌, is_some}
use Rattle.std.specs.List.{list_any}
use Rattle.std.proofs.lemmas.Bool.Decides.{nat_tests}
use Rattle.std.proofs.lemmas.List.{reverse-append}
use Rattle.acts.specs.declared.act.Act.{Act}
use Rattle.acts.specs.declared.act.Act.TheVariants.{See, Fork, End, Exec, Set, SetBoth, Copy, Close, Mark, Address, Birth, Move}
use Rattle.acts.specs.declared.held.Held.{Held}
use Rattle.acts.specs.Holding.{holds, is_at, unless_marked}
use Rattle.acts.specs.Lives.{live, beginnings, begins, begins_by_see, is_child}
use Rattle.fd_table.specs.Table.{Table as Fds, HoldsAs, held_at}
use Rattle.stored.specs.Batch.{WasHeld}
use Rattle.flow_events.specs.Since.{Memory, AddsHeld, ArePids, AreFiles, ArePuts, AreSockets, AreSlots, DiffersInSlots, HasEach, HasThose, IsSince, LivesOn, StillHas, any_may_put, any_touches, has_slot, may_put, touches}

-- ---- lives

more_by : (b : Bool) (m n : ℕ) → m ≤ n → m ≤ (if b then n + 1 else n)
more_by true m n le = omega (arith, le)
more_by false m n le = le

-- no beginning is undone
pub begun_more : (now before : List Act) (p : ℕ) → beginnings before p ≤ beginnings (now ++ before) p
begun_more [] before p = omega arith
begun_more (act ∷ now) before p = more_by (begins (now ++ before) act p) (beginnings before p) (beginnings (now ++ before) p) (begun_more now before p)

true-false : {A : Type 0} → true ≡ false → A
true-false e = absurd cc

seen_by : (a l : Bool) → (a && not l) ≡ false → (if a then true else l) ≡ true → l ≡ true
seen_by true true new is = refl
seen_by true false new is = true-false new
seen_by false l new is = is

forked_by : (a w l : Bool) → (a && not (l && w)) ≡ false → (if a then true else l) ≡ true → l ≡ true
forked_by true w true new is = refl
forked_by true w false new is = true-false new
forked_by false w l new is = is

not_ended : (a l : Bool) → (if a then false else l) ≡ true → (a ≡ false) × (l ≡ true)
not_ended true l is = true-false (sym is)
not_ended false l is = (refl, is)

-- a pid that is live after an act which doesn't begin its life was live before it
live_back : (act : Act) (before : List Act) (p : ℕ) → begins before act p ≡ false → live (act ∷ before) p ≡ true → live before p ≡ true
live_back (See pid ppid exe) before p new is = seen_by (p == pid) (live before p) new is
live_back (Fork pid child) before p new is = forked_by (is_child pid child p) _ (live before p) new is
live_back (End pid) before p new is = (not_ended (p == pid) (live before p) is).1
live_back (Exec pid) before p new is = is
live_back (Set pid fd what cloexec) before p new is = is
live_back (SetBoth pid first second cloexec) before p new is = is
live_back (Copy pid from to cloexec) before p new is = is
live_back (Close pid fd) before p new is = is
live_back (Mark pid fd cloexec) before p new is = is
live_back (Address pid fd bytes) before p new is = is
live_back (Birth file) before p new is = is
live_back (Move pid inward how what) before p new is = is

none_begun : (b : Bool) (m n : ℕ) → m ≤ n → (if b then n + 1 else n) ≡ m → (b ≡ false) × (n ≡ m)
none_begun true m n le is = absurd (omega (arith, le, is))
none_begun false m n le is = (refl, is)

-- a life that goes on after an act went on before it, and the act doesn't begin it
pub lives_back : (act : Act) (now before : List Act) (p : ℕ) → LivesOn before (act ∷ now) p → (begins (now ++ before) act p ≡ false) × LivesOn before now p
lives_back act now before p on =
    let h = none_begun (begins (now ++ before) act p) (beginnings before p) (beginnings (now ++ before) p) (begun_more now before p) on.same in
    (h.0, record { same = h.1; live_is = live_back act (now ++ before) p h.0 on.live_is })

lived_before : (fresh now before : List Act) (p : ℕ) → LivesOn before (fresh ++ now) p → LivesOn before now p
lived_before [] now before p on = on
lived_before (act ∷ fresh) now before p on = lived_before fresh now before p (lives_back act (fresh ++ now) before p on).1

-- ---- descriptors

turned : (a b : ℕ) → (a == b) ≡ false → (b == a) ≡ false
turned a b is = grind (arith, nat_tests)

touched_or : (b : Bool) (x y : Option Held) (h : Held) → y ≡ Some h → ((b && true) ≡ true) ⊎ ((if b then x else y) ≡ Some h)
touched_or true x y h is = inl refl
touched_or false x y h is = inr is

exec_by : (c : Bool) (h : Held) → (c ≡ true) ⊎ ((if c then None else Some h) ≡ Some h)
exec_by true h = inl refl
exec_by false h = inr refl

exec_or : (b : Bool) (o : Option Held) (h : Held) → o ≡ Some h → ((b && h.cloexec) ≡ true) ⊎ ((if b then unless_marked o else o) ≡ Some h)
exec_or true o h is = elim (exec_by h.cloexec h) [
  | inl c ↦ inl c
  | inr e ↦ inr (ap unless_marked is ∙ e)
]
exec_or false o h is = inr is

else_held : (b : Bool) (x y : Option Held) (h : Held) → b ≡ false → y ≡ Some h → (if b then x else y) ≡ Some h
else_held true x y h off is = true-false off
else_held false x y h off is = is

-- what is held stays, or the act touches it, if the life goes on
kept_or_touched : (act : Act) (before : List Act) (p n : ℕ) (h : Held) → begins before act p ≡ false → live (act ∷ before) p ≡ true → holds before p n ≡ Some h
    → (touches act p n (Some h) ≡ true) ⊎ (holds (act ∷ before) p n ≡ Some h)
kept_or_touched (See pid ppid exe) before p n h new is held = inr (else_held (begins_by_see before pid p) _ (holds before p n) h new held)
kept_or_touched (Fork pid child) before p n h new is held = inr (else_held (begins before (Fork pid child) p) _ (holds before p n) h new held)
kept_or_touched (End pid) before p n h new is held = inr (else_held (pid == p) _ (holds before p n) h (turned p pid (not_ended (p == pid) (live before p) is).0) held)
kept_or_touched (Exec pid) before p n h new is held = exec_or (pid == p) (holds before p n) h held
kept_or_touched (Set pid fd what cloexec) before p n h new is held = touched_or (is_at pid fd p n) _ (holds before p n) h held
kept_or_touched (SetBoth pid first second cloexec) before p n h new is held = touched_or (is_at pid first p n || is_at pid second p n) _ (holds before p n) h held
kept_or_touched (Copy pid from to cloexec) before p n h new is held = touched_or (is_at pid to p n) _ (holds before p n) h held
kept_or_touched (Close pid fd) before p n h new is held = touched_or (is_at pid fd p n) _ (holds before p n) h held
kept_or_touched (Mark pid fd cloexec) before p n h new is held = touched_or (is_at pid fd p n) _ (holds before p n) h held
kept_or_touched (Address pid fd bytes) before p n h new is held = touched_or (is_at pid fd p n) _ (holds before p n) h held
kept_or_touched (Birth file) before p n h new is held = inr held
kept_or_touched (Move pid inward how what) before p n h new is held = inr held

or_right : (a b : Bool) → b ≡ true → (a || b) ≡ true
or_right true b is = refl
or_right false b is = is

or_left : (a b : Bool) → a ≡ true → (a || b) ≡ true
or_left true b is = refl
or_left false b is = true-false (sym is)

-- and so it is with the acts of an event
event_touched : (fresh now before : List Act) (p n : ℕ) (h : Held) → LivesOn before (fresh ++ now) p → holds (now ++ before) p n ≡ Some h
    → (any_touches fresh p n (Some h) ≡ true) ⊎ (holds ((fresh ++ now) ++ before) p n ≡ Some h)
event_touched [] now before p n h on held = inr held
event_touched (act ∷ fresh) now before p n h on held =
    let back = lives_back act (fresh ++ now) before p on in
    elim (event_touched fresh now before p n h back.1 held) [
      | inl touched ↦ inl (or_right (touches act p n (Some h)) _ touched)
      | inr same ↦ elim (kept_or_touched act ((fresh ++ now) ++ before) p n h back.0 on.live_is same) [
        | inl touched ↦ inl (or_left (touches act p n (Some h)) _ touched)
        | inr still ↦ inr still
      ]
    ]

-- ---- what is remembered

held_later : (fresh now before : List Act) (p n : ℕ) → WasHeld now before p n → WasHeld (fresh ++ now) before p n
held_later [] now before p n was = was
held_later (act ∷ fresh) now before p n was =
    let h = held_later fresh now before p n was in
    (suc h.0, (let le = h.1 in omega (arith, le)), h.2)

none_or : (o : Option Held) → (o ≡ None) ⊎ ((h : Held) × (o ≡ Some h))
none_or None = inl refl
none_or (Some h) = inr (h, refl)

none-some : {A : Type 0} (h : Held) → None ≡ Some h → A
none-some h e = absurd cc

any_last : (f : Act → Bool) (acts : List Act) (act : Act) → list_any f (acts ++ act ∷ []) ≡ (f act || list_any f acts)
any_last f [] act = refl
any_last f (a ∷ acts) act = ap (λ (b : Bool). f a || b) (any_last f acts act) ∙ swapped (f a) (f act) (list_any f acts)
  where
    swapped : (a b c : Bool) → (a || (b || c)) ≡ (b || (a || c))
    swapped true true c = refl
    swapped true false c = refl
    swapped false b c = refl

any_reversed : (f : Act → Bool) (acts : List Act) → list_any f (reverse acts) ≡ list_any f acts
any_reversed f [] = refl
any_reversed f (act ∷ acts) = ap (list_any f) (reverse-append (act ∷ []) acts) ∙ any_last f (reverse acts) act ∙ ap (λ (b : Bool). f act || b) (any_reversed f acts)

any_turned : (acts fresh : List Act) (p n : ℕ) (held : Option Held) → fresh ≡ reverse acts → any_touches fresh p n held ≡ true → any_touches acts p n held ≡ true
any_turned acts fresh p n held is any = sym (any_reversed (λ act. touches act p n held) acts) ∙ ap (λ (l : List Act). any_touches l p n held) (sym is) ∙ any

-- with the acts of an event the descriptors are still those, if all are among them that the acts touch
pub slots_next : (slots : List (ℕ × ℕ)) (fds : Fds) (acts before now fresh : List Act) → HoldsAs fds (now ++ before) → fresh ≡ reverse acts → HasThose fds slots (any_touches acts)
    → AreSlots slots before now → AreSlots slots before (fresh ++ now)
slots_next slots fds acts before now fresh holds_are is touched are = record {
  were = λ p n there. held_later fresh now before p n (are.were p n there);
  lost = λ p n on was gone. elim (none_or (holds (now ++ before) p n)) [
    | inl none ↦ are.lost p n (lived_before fresh now before p on) was none
    | inr some ↦ elim (event_touched fresh now before p n some.0 on some.1) [
      | inl any ↦ touched p n (ap (any_touches acts p n) (holds_are.each p n ∙ some.1) ∙ any_turned acts fresh p n (Some some.0) is any)
      | inr still ↦ none-some some.0 (sym gone ∙ still)
    ]
  ];
}

-- ---- where something was put

not_at : (b : Bool) (x y : Option Held) (h : Held) → b ≡ false → (if b then x else y) ≡ Some h → y ≡ Some h
not_at true x y h off is = true-false off
not_at false x y h off is = is

unless_closed : (b : Bool) (y : Option Held) (h : Held) → (if b then None else y) ≡ Some h → y ≡ Some h
unless_closed true y h is = none-some h is
unless_closed false y h is = is

unless_by : (c : Bool) (h g : Held) → (if c then None else Some h) ≡ Some g → Some h ≡ Some g
unless_by true h g is = none-some g is
unless_by false h g is = is

unless_is : (o : Option Held) (h : Held) → unless_marked o ≡ Some h → o ≡ Some h
unless_is None h is = none-some h is
unless_is (Some g) h is = unless_by g.cloexec g h is

unless_run : (b : Bool) (o : Option Held) (h : Held) → (if b then unless_marked o else o) ≡ Some h → o ≡ Some h
unless_run true o h is = unless_is o h is
unless_run false o h is = is

-- what is held after an act that puts nothing there was held before it, if the life goes on
held_before : (act : Act) (before : List Act) (p n : ℕ) (h : Held) → begins before act p ≡ false → live (act ∷ before) p ≡ true → may_put act p n ≡ false → holds (act ∷ before) p n ≡ Some h
    → holds before p n ≡ Some h
held_before (See pid ppid exe) before p n h new is off held = not_at (begins_by_see before pid p) _ (holds before p n) h new held
held_before (Fork pid child) before p n h new is off held = not_at (begins before (Fork pid child) p) _ (holds before p n) h new held
held_before (End pid) before p n h new is off held = unless_closed (pid == p) (holds before p n) h held
held_before (Exec pid) before p n h new is off held = unless_run (pid == p) (holds before p n) h held
held_before (Set pid fd what cloexec) before p n h new is off held = not_at (is_at pid fd p n) _ (holds before p n) h off held
held_before (SetBoth pid first second cloexec) before p n h new is off held = not_at (is_at pid first p n || is_at pid second p n) _ (holds before p n) h off held
held_before (Copy pid from to cloexec) before p n h new is off held = not_at (is_at pid to p n) _ (holds before p n) h off held
held_before (Close pid fd) before p n h new is off held = unless_closed (is_at pid fd p n) (holds before p n) h held
held_before (Mark pid fd cloexec) before p n h new is off held = not_at (is_at pid fd p n) _ (holds before p n) h off held
held_before (Address pid fd bytes) before p n h new is off held = not_at (is_at pid fd p n) _ (holds before p n) h off held
held_before (Birth file) before p n h new is off held = held
held_before (Move pid inward how what) before p n h new is off held = held

-- at the mark each descriptor holds what it held, whatever is among these
pub puts_at_mark : (puts : List (ℕ × ℕ)) (before : List Act) → ArePuts puts before []
puts_at_mark puts before = record { others = λ p n h on off held. held }

neither : (a b : Bool) → (a || b) ≡ false → (a ≡ false) × (b ≡ false)
neither true b is = true-false is
neither false b is = (refl, is)

-- and so it is with the acts of an event
event_held : (fresh now before : List Act) (p n : ℕ) (h : Held) → LivesOn before (fresh ++ now) p → any_may_put fresh p n ≡ false → holds ((fresh ++ now) ++ before) p n ≡ Some h → holds (now ++ before) p n ≡ Some h
event_held [] now before p n h on off held = held
event_held (act ∷ fresh) now before p n h on off held =
    let back = lives_back act (fresh ++ now) before p on in
    let none = neither (may_put act p n) (any_may_put fresh p n) off in
    event_held fresh now before p n h back.1 none.1 (held_before act ((fresh ++ now) ++ before) p n h back.0 on.live_is none.0 held)

put_turned : (acts fresh : List Act) (p n : ℕ) → fresh ≡ reverse acts → any_may_put fresh p n ≡ any_may_put acts p n
put_turned acts fresh p n is = ap (λ (l : List Act). any_may_put l p n) is ∙ any_reversed (λ act. may_put act p n) acts

not_put : (a b : Bool) → (a ≡ true → b ≡ true) → b ≡ false → a ≡ false
not_put true b to off = true-false (sym (to refl) ∙ off)
not_put false b to off = refl

-- with the acts of an event the descriptors are still those at which something was put, if all are among them at which the
-- acts may put something
pub puts_next : (slots : List (ℕ × ℕ)) (acts before now fresh : List Act) → fresh ≡ reverse acts → HasEach slots (any_may_put acts) → ArePuts slots before now → ArePuts slots before (fresh ++ now)
puts_next slots acts before now fresh is put are = record {
  others = λ p n h on off held.
      are.others p n h (lived_before fresh now before p on) off
      (event_held fresh now before p n h on (put_turned acts fresh p n is ∙ not_put (any_may_put acts p n) (has_slot slots p n) (put p n) off) held);
}

either : {P : Type 0} (a b : Bool) → (a || b) ≡ true → (a ≡ true → P) → (b ≡ true → P) → P
either true b is f g = f refl
either false b is f g = g is

-- descriptors that hold something may be noted at any moment, and any at which something may be put
pub slots_noted : (fds : Fds) (old new : Memory) (before now : List Act) → AddsHeld fds old.slots new.slots → StillHas old.puts new.puts → DiffersInSlots old new → HoldsAs fds (now ++ before) → IsSince old before now → IsSince new before now
slots_noted fds old new before now adds stay rest holds_are since = record {
  known_is = ap (λ (m : Memory). m.known) rest ∙ since.known_is;
  pids_are = subst (λ (m : Memory). ArePids m before now) (sym rest) (record { each = since.pids_are.each });
  files_are = subst (λ (m : Memory). AreFiles m before now) (sym rest) (record { each = since.files_are.each });
  sockets_are = subst (λ (m : Memory). AreSockets m before now) (sym rest) (record { others = since.sockets_are.others; named = since.sockets_are.named; there = since.sockets_are.there });
  slots_are = record {
    were = λ p n there. either (has_slot old.slots p n) (is_some (held_at fds p n)) (adds.held p n there)
        (λ was. since.slots_are.were p n was)
        (λ some. (0, omega arith, ap is_some (sym (holds_are.each p n)) ∙ some));
    lost = λ p n on was gone. adds.stay p n (since.slots_are.lost p n on was gone);
  };
  puts_are = record { others = λ p n h on off held. since.puts_are.others p n h on (not_put (has_slot old.puts p n) (has_slot new.puts p n) (stay p n) off) held };
}
