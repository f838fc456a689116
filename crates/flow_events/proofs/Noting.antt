-- Descriptors are noted one after the other.
use Rattle.std.proofs.Common.{◌≡◌, ◌∙◌, ◌<◌, refl, sym, ap, subst, ℕ, Bool, true, false, List, [], ◌∷◌, ◌++◌, length, take, get_or, Option, Some, None, arith}
use Rattle.std.specs.Prelude.{◌==◌, ◌||◌, ◌&&◌, ◌+◌, is_some, nat_eq, Result, Ok, Err, OnOk, OnErr}
use Rattle.std.specs.List.{list_any}
use Rattle.std.proofs.lemmas.Bool.Decides.{nat_tests}
use Rattle.std.proofs.lemmas.Grind.{common_steps}
use Rattle.std.proofs.lemmas.List.{take_more}
use Rattle.acts.specs.declared.act.Act.{Act}
use Rattle.acts.specs.declared.held.Held.{Held}
use Rattle.acts.specs.Holding.{is_at}
use Rattle.fd_table.specs.Table.{Table as Fds, held_at, is_marked, object_in}
use Rattle.flow_events.specs.Since.{AddsHeld, HasEach, HasThose, StillHas, any_may_put, any_touches, has_slot, may_put, touches}

true-false : {A : Type 0} → true ≡ false → A
true-false e = absurd cc

or_right : (a b : Bool) → b ≡ true → (a || b) ≡ true
or_right true b is = refl
or_right false b is = is

or_left : (a b : Bool) → a ≡ true → (a || b) ≡ true
or_left true b is = refl
or_left false b is = true-false (sym is)

and_left : (a b : Bool) → (a && b) ≡ true → a ≡ true
and_left true b is = refl
and_left false b is = true-false (sym is)

and_right : (a b : Bool) → (a && b) ≡ true → b ≡ true
and_right true b is = is
and_right false b is = true-false (sym is)

either : {P : Type 0} (a b : Bool) → (a || b) ≡ true → (a ≡ true → P) → (b ≡ true → P) → P
either true b is f g = f refl
either false b is f g = g is

pub none_added : (fds : Fds) (slots : List (ℕ × ℕ)) → AddsHeld fds slots slots
none_added fds slots = record { stay = λ p n is. is; held = λ p n is. or_left (has_slot slots p n) _ is }

pub adds_again : (fds : Fds) (old mid new : List (ℕ × ℕ)) → AddsHeld fds old mid → AddsHeld fds mid new → AddsHeld fds old new
adds_again fds old mid new one two = record {
  stay = λ p n is. two.stay p n (one.stay p n is);
  held = λ p n is. either (has_slot mid p n) (is_some (held_at fds p n)) (two.held p n is) (one.held p n) (or_right (has_slot old p n) _);
}

same_number : (a b : ℕ) → (a == b) ≡ true → a ≡ b
same_number a b is = grind (arith, nat_tests)

-- where a descriptor is that holds this
at_held : (fds : Fds) (pid fd p n : ℕ) → is_at pid fd p n ≡ true → is_some (held_at fds pid fd) ≡ is_some (held_at fds p n)
at_held fds pid fd p n is = ap (λ (q : ℕ). is_some (held_at fds q fd)) (same_number pid p (and_left (pid == p) (fd == n) is)) ∙ ap (λ (m : ℕ). is_some (held_at fds p m)) (same_number fd n (and_right (pid == p) (fd == n) is))

pub some_object : (o : Option Held) → is_some (object_in o) ≡ is_some o
some_object None = refl
some_object (Some h) = refl

pub put_adds : (fds : Fds) (old new : List (ℕ × ℕ)) (pid fd : ℕ) → is_some (held_at fds pid fd) ≡ true → ((p n : ℕ) → has_slot new p n ≡ (is_at pid fd p n || has_slot old p n)) → AddsHeld fds old new
put_adds fds old new pid fd some puts = record {
  stay = λ p n is. puts p n ∙ or_right (is_at pid fd p n) _ is;
  held = λ p n is. either (is_at pid fd p n) (has_slot old p n) (sym (puts p n) ∙ is)
      (λ here. or_right (has_slot old p n) _ (sym (at_held fds pid fd p n here) ∙ some))
      (or_left (has_slot old p n) _);
}

pub put_adds_ever : {A E : Type 0} (r : Result A E) (fds : Fds) (old new : List (ℕ × ℕ)) (pid fd : ℕ) → is_some (held_at fds pid fd) ≡ true → OnOk r ((p n : ℕ) → has_slot new p n ≡ (is_at pid fd p n || has_slot old p n)) → OnErr r (new ≡ old) → AddsHeld fds old new
put_adds_ever (Ok x) fds old new pid fd some ok err = put_adds fds old new pid fd some ok
put_adds_ever (Err e) fds old new pid fd some ok err = subst (AddsHeld fds old) (sym err) (none_added fds old)

pub put_noted : (fds : Fds) (old new : List (ℕ × ℕ)) (pid fd : ℕ) → ((p n : ℕ) → has_slot new p n ≡ (is_at pid fd p n || has_slot old p n)) → HasThose fds new (λ p n held. is_at pid fd p n && is_some held)
put_noted fds old new pid fd puts p n is = puts p n ∙ or_left (is_at pid fd p n) _ (and_left (is_at pid fd p n) _ is)

pub none_noted : (fds : Fds) (slots : List (ℕ × ℕ)) (pid fd : ℕ) → is_some (held_at fds pid fd) ≡ false → HasThose fds slots (λ p n held. is_at pid fd p n && is_some held)
none_noted fds slots pid fd none p n is =
    true-false (sym (and_right (is_at pid fd p n) _ is) ∙ sym (at_held fds pid fd p n (and_left (is_at pid fd p n) _ is)) ∙ none)

pub both_noted : (fds : Fds) (mid new : List (ℕ × ℕ)) (pid first second : ℕ) → HasThose fds mid (λ p n held. is_at pid first p n && is_some held) → AddsHeld fds mid new → HasThose fds new (λ p n held. is_at pid second p n && is_some held)
    → HasThose fds new (λ p n held. (is_at pid first p n || is_at pid second p n) && is_some held)
both_noted fds mid new pid first second one adds two p n is =
    let some = and_right (is_at pid first p n || is_at pid second p n) _ is in
    either (is_at pid first p n) (is_at pid second p n) (and_left (is_at pid first p n || is_at pid second p n) _ is)
    (λ here. adds.stay p n (one p n (both (is_at pid first p n) _ here some)))
    (λ here. two p n (both (is_at pid second p n) _ here some))
  where
    both : (a b : Bool) → a ≡ true → b ≡ true → (a && b) ≡ true
    both true b is some = some
    both false b is some = true-false (sym is)

-- ---- a list of descriptors

-- those of a list are noted that hold something
abbrev pub HasListed : Fds → List (ℕ × ℕ) → ℕ → List ℕ → Type 0
HasListed fds slots pid list = (p n : ℕ) → (pid == p) ≡ true → list_any (nat_eq n) list ≡ true → is_some (held_at fds p n) ≡ true → has_slot slots p n ≡ true

any_last : (f : ℕ → Bool) (xs : List ℕ) (x : ℕ) → list_any f (xs ++ x ∷ []) ≡ (list_any f xs || f x)
any_last f [] x = grind (arith, common_steps)
any_last f (y ∷ xs) x = ap (λ (b : Bool). f y || b) (any_last f xs x) ∙ joined (f y) (list_any f xs) (f x)
  where
    joined : (a b c : Bool) → (a || (b || c)) ≡ ((a || b) || c)
    joined true b c = refl
    joined false b c = refl

and_both : (a b c : Bool) → a ≡ true → b ≡ true → c ≡ true → ((a && b) && c) ≡ true
and_both true true c one two three = three
and_both true false c one two three = true-false (sym two)
and_both false b c one two three = true-false (sym one)

swapped : (n fd : ℕ) → nat_eq n fd ≡ true → (fd == n) ≡ true
swapped n fd is = grind (arith, nat_tests)

pub listed_next : (fds : Fds) (old new : List (ℕ × ℕ)) (pid : ℕ) (list : List ℕ) (i : ℕ) → i < length list → HasListed fds old pid (take i list) → AddsHeld fds old new → HasThose fds new (λ p n held. is_at pid (get_or list i 0) p n && is_some held)
    → HasListed fds new pid (take (i + 1) list)
listed_next fds old new pid list i inside has adds noted p n of any some =
    let fd : ℕ = get_or list i 0 in
    let now : (list_any (nat_eq n) (take i list) || nat_eq n fd) ≡ true =
    sym (any_last (nat_eq n) (take i list) fd) ∙ ap (list_any (nat_eq n)) (sym (take_more list i 0 inside)) ∙ any in
    either (list_any (nat_eq n) (take i list)) (nat_eq n fd) now
    (λ before. adds.stay p n (has p n of before some))
    (λ here. noted p n (and_both (pid == p) (fd == n) (is_some (held_at fds p n)) of (swapped n fd here) some))

marked_some : (o : Option Held) → is_marked o ≡ true → is_some o ≡ true
marked_some None is = true-false (sym is)
marked_some (Some h) is = refl

pub listed_marked : (fds : Fds) (slots : List (ℕ × ℕ)) (pid : ℕ) (list : List ℕ) → ((n : ℕ) → list_any (nat_eq n) list ≡ is_marked (held_at fds pid n)) → HasListed fds slots pid list → HasThose fds slots (λ p n held. pid == p && is_marked held)
listed_marked fds slots pid list marks has p n is =
    let here = and_left (pid == p) _ is in
    let mark = and_right (pid == p) _ is in
    has p n here (marks n ∙ ap (λ (q : ℕ). is_marked (held_at fds q n)) (same_number pid p here) ∙ mark) (marked_some (held_at fds p n) mark)

-- ---- a list of acts

any_act : (f : Act → Bool) (xs : List Act) (x : Act) → list_any f (xs ++ x ∷ []) ≡ (list_any f xs || f x)
any_act f [] x = grind (arith, common_steps)
any_act f (y ∷ xs) x = ap (λ (b : Bool). f y || b) (any_act f xs x) ∙ joined (f y) (list_any f xs) (f x)
  where
    joined : (a b c : Bool) → (a || (b || c)) ≡ ((a || b) || c)
    joined true b c = refl
    joined false b c = refl

pub acts_next : (fds : Fds) (old new : List (ℕ × ℕ)) (acts : List Act) (i : ℕ) (act : Act) → i < length acts → act ≡ get_or acts i act → HasThose fds old (any_touches (take i acts)) → AddsHeld fds old new → HasThose fds new (touches act) → HasThose fds new (any_touches (take (i + 1) acts))
acts_next fds old new acts i act inside is has adds noted p n any =
    let f : Act → Bool = λ a. touches a p n (held_at fds p n) in
    let now : (list_any f (take i acts) || f act) ≡ true =
    sym (any_act f (take i acts) act) ∙ ap (λ (x : Act). list_any f (take i acts ++ x ∷ [])) is ∙ ap (list_any f) (sym (take_more acts i act inside)) ∙ any in
    either (list_any f (take i acts)) (f act) now (λ before. adds.stay p n (has p n before)) (noted p n)

-- ---- where something is put

pub still_again : (old mid new : List (ℕ × ℕ)) → StillHas old mid → StillHas mid new → StillHas old new
still_again old mid new one two p n is = two p n (one p n is)

pub puts_listed : (old new : List (ℕ × ℕ)) (acts : List Act) (i : ℕ) (act : Act) → i < length acts → act ≡ get_or acts i act → HasEach old (any_may_put (take i acts)) → StillHas old new → HasEach new (may_put act) → HasEach new (any_may_put (take (i + 1) acts))
puts_listed old new acts i act inside is has stay noted p n any =
    let f : Act → Bool = λ a. may_put a p n in
    let now : (list_any f (take i acts) || f act) ≡ true =
    sym (any_act f (take i acts) act) ∙ ap (λ (x : Act). list_any f (take i acts ++ x ∷ [])) is ∙ ap (list_any f) (sym (take_more acts i act inside)) ∙ any in
    either (list_any f (take i acts)) (f act) now (λ before. stay p n (has p n before)) (noted p n)
