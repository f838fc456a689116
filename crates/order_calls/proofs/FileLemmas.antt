-- What is known of descriptors once a line is heard.
use Rattle.std.proofs.Common.{◌≡◌, ◌∙◌, ◌&&◌, arith, sym, refl, ap, ℕ, Bool, true, false, List, ◌∷◌, Option, None, Some, if◌then◌else◌}
use Rattle.std.specs.Prelude.{unwrap_or}
use Rattle.std.specs.Map.{lookup}
use Rattle.std.proofs.lemmas.Bool.Decides.{nat_tests}
use Rattle.order_calls.specs.declared.deed.Deed.{Deed}
use Rattle.order_calls.specs.declared.deed.Deed.TheVariants as deed
use Rattle.order_calls.specs.declared.held.Thing.{Thing}
use Rattle.order_calls.specs.declared.held.Thing.TheVariants as thing
use Rattle.order_calls.specs.Deeds.{Event, Said, Holding, is_same, is_at, is_event, opened_after, told, named, copy_of, given, born, closed_in, held_after, opened_in, held_in}
use Rattle.order_calls.specs.Known.{Fds, no_fds, Known, thing_of, fds_at, held_at, opened_at, Keeps, Becomes, Hears, StandsFor}

pub one_same : (a b : ℕ) → is_same a b ≡ true → a ≡ b
one_same a b same = grind (arith, nat_tests, same)

-- what is taken out leaves the others
pub taken : (old inside : Known) (held2 : List (ℕ × Fds)) (pid : ℕ) → inside ≡ old
    → ((p : ℕ) → is_same pid p ≡ false → lookup (is_same p) held2 ≡ lookup (is_same p) inside.held)
    → (p : ℕ) → is_same pid p ≡ false → fds_at (record inside { held = held2 }) p ≡ fds_at old p
taken old inside held2 pid same moved p isnt =
    ap (λ (o : Option Fds). unwrap_or o no_fds) (moved p isnt) ∙ ap (λ (k : Known). fds_at k p) same

put_here : (b : Bool) (fds : Fds) (before after : Option Fds) → b ≡ true → after ≡ (if b then Some fds else before) → unwrap_or after no_fds ≡ fds
put_here true fds before after e is = ap (λ (o : Option Fds). unwrap_or o no_fds) is
put_here false fds before after e is = absurd (cc e)

put_there : (b : Bool) (fds : Fds) (before after : Option Fds) → b ≡ false → after ≡ (if b then Some fds else before) → after ≡ before
put_there true fds before after e is = absurd (cc e)
put_there false fds before after e is = is

pub kept : (old inside : Known) (held2 : List (ℕ × Fds)) (pid : ℕ) (fds : Fds) → inside ≡ old
    → ((p : ℕ) → lookup (is_same p) held2 ≡ (if is_same pid p then Some fds else lookup (is_same p) inside.held))
    → Keeps old (record inside { held = held2 }) pid fds
kept old inside held2 pid fds same moved = record {
  here = λ p is. put_here (is_same pid p) fds (lookup (is_same p) inside.held) (lookup (is_same p) held2) is (moved p);
  others = λ p isnt. ap (λ (o : Option Fds). unwrap_or o no_fds) (put_there (is_same pid p) fds (lookup (is_same p) inside.held) (lookup (is_same p) held2) isnt (moved p))
      ∙ ap (λ (k : Known). fds_at k p) same;
  opens = ap (λ (k : Known). k.opens) same;
}

by_test : {P : Type 0} (b : Bool) → (b ≡ true → P) → (b ≡ false → P) → P
by_test true f g = f refl
by_test false f g = g refl

-- what one process holds changed
becomes : (old mid new : Known) (pid : ℕ) (now : Fds) (held : Holding)
    → ((p : ℕ) → is_same pid p ≡ false → fds_at mid p ≡ fds_at old p) → mid.opens ≡ old.opens → Keeps mid new pid now
    → ((p n : ℕ) → is_same pid p ≡ true → thing_of now n ≡ held p n)
    → ((p n : ℕ) → is_same pid p ≡ false → held_at old p n ≡ held p n)
    → Becomes old new held
becomes old mid new pid now held others opens keeps here there = record {
  each = λ p n. by_test (is_same pid p)
      (λ same. ap (λ (f : Fds). thing_of f n) (keeps.here p same) ∙ here p n same)
      (λ isnt. ap (λ (f : Fds). thing_of f n) (keeps.others p isnt ∙ others p isnt) ∙ there p n isnt);
  opens = keeps.opens ∙ opens;
}

set_here : (b c : Bool) (what before now : Option Thing) → b ≡ true → now ≡ (if c then what else before) → now ≡ (if b && c then what else before)
set_here true c what before now e is = is
set_here false c what before now e is = absurd (cc e)

set_there : (b c : Bool) (what before : Option Thing) → b ≡ false → before ≡ (if b && c then what else before)
set_there true c what before e = absurd (cc e)
set_there false c what before e = refl

pub has_set : (old mid new : Known) (pid fd : ℕ) (what : Thing) (was now : Fds) → was ≡ fds_at old pid
    → ((n : ℕ) → thing_of now n ≡ (if is_same fd n then Some what else thing_of was n))
    → ((p : ℕ) → is_same pid p ≡ false → fds_at mid p ≡ fds_at old p) → mid.opens ≡ old.opens → Keeps mid new pid now
    → Becomes old new (λ p n. if is_at pid fd p n then Some what else held_at old p n)
has_set old mid new pid fd what was now is sets others opens keeps =
    becomes old mid new pid now (λ p n. if is_at pid fd p n then Some what else held_at old p n) others opens keeps
    (λ p n same. set_here (is_same pid p) (is_same fd n) (Some what) (held_at old p n) (thing_of now n) same
    (sets n ∙ ap (λ (f : Fds). if is_same fd n then Some what else thing_of f n) (is ∙ ap (fds_at old) (one_same pid p same))))
    (λ p n isnt. set_there (is_same pid p) (is_same fd n) (Some what) (held_at old p n) isnt)

all_here : (b : Bool) (what before now : Option Thing) → b ≡ true → now ≡ what → now ≡ (if b then what else before)
all_here true what before now e is = is
all_here false what before now e is = absurd (cc e)

all_there : (b : Bool) (what before : Option Thing) → b ≡ false → before ≡ (if b then what else before)
all_there true what before e = absurd (cc e)
all_there false what before e = refl

pub has_run : (old mid new : Known) (pid : ℕ) (was now : Fds) → was ≡ fds_at old pid
    → ((n : ℕ) → thing_of now n ≡ (if is_same 0 n then thing_of was 0 else Some thing.Other))
    → ((p : ℕ) → is_same pid p ≡ false → fds_at mid p ≡ fds_at old p) → mid.opens ≡ old.opens → Keeps mid new pid now
    → Becomes old new (λ p n. if is_same pid p then (if is_same 0 n then held_at old pid 0 else Some thing.Other) else held_at old p n)
has_run old mid new pid was now is sets others opens keeps =
    becomes old mid new pid now (λ p n. if is_same pid p then (if is_same 0 n then held_at old pid 0 else Some thing.Other) else held_at old p n) others opens keeps
    (λ p n same. all_here (is_same pid p) (if is_same 0 n then held_at old pid 0 else Some thing.Other) (held_at old p n) (thing_of now n) same
    (sets n ∙ ap (λ (f : Fds). if is_same 0 n then thing_of f 0 else Some thing.Other) is))
    (λ p n isnt. all_there (is_same pid p) (if is_same 0 n then held_at old pid 0 else Some thing.Other) (held_at old p n) isnt)

pub has_closed : (old mid new : Known) (pid first last : ℕ) (was now : Fds) → was ≡ fds_at old pid
    → ((n : ℕ) → thing_of now n ≡ closed_in first last n (thing_of was n))
    → ((p : ℕ) → is_same pid p ≡ false → fds_at mid p ≡ fds_at old p) → mid.opens ≡ old.opens → Keeps mid new pid now
    → Becomes old new (λ p n. if is_same pid p then closed_in first last n (held_at old pid n) else held_at old p n)
has_closed old mid new pid first last was now is sets others opens keeps =
    becomes old mid new pid now (λ p n. if is_same pid p then closed_in first last n (held_at old pid n) else held_at old p n) others opens keeps
    (λ p n same. all_here (is_same pid p) (closed_in first last n (held_at old pid n)) (held_at old p n) (thing_of now n) same
    (sets n ∙ ap (λ (f : Fds). closed_in first last n (thing_of f n)) is))
    (λ p n isnt. all_there (is_same pid p) (closed_in first last n (held_at old pid n)) (held_at old p n) isnt)

-- what a child holds
abbrev child_holds : Known → ℕ → ℕ → Option ℕ → ℕ → ℕ → Option Thing
child_holds old ms pid parent child n = born ms (held_at old child n) (given ms pid parent (held_at old pid n))

pub has_forked : (old mid new : Known) (ms pid : ℕ) (parent : Option ℕ) (child : ℕ) (gift was now : Fds)
    → ((n : ℕ) → lookup (is_same n) gift.said ≡ given ms pid parent (held_at old pid n)) → was ≡ fds_at old child
    → ((n : ℕ) → thing_of now n ≡ born ms (thing_of was n) (lookup (is_same n) gift.said))
    → ((p : ℕ) → is_same child p ≡ false → fds_at mid p ≡ fds_at old p) → mid.opens ≡ old.opens → Keeps mid new child now
    → Becomes old new (λ p n. if is_same child p then child_holds old ms pid parent child n else held_at old p n)
has_forked old mid new ms pid parent child gift was now gives is begins others opens keeps =
    becomes old mid new child now (λ p n. if is_same child p then child_holds old ms pid parent child n else held_at old p n) others opens keeps
    (λ p n same. all_here (is_same child p) (child_holds old ms pid parent child n) (held_at old p n) (thing_of now n) same
    (begins n ∙ ap (λ (f : Fds). born ms (thing_of f n) (lookup (is_same n) gift.said)) is ∙ ap (born ms (held_at old child n)) (gives n)))
    (λ p n isnt. all_there (is_same child p) (child_holds old ms pid parent child n) (held_at old p n) isnt)

-- ---- what is heard

same_opens : (old new : Known) (other : Event) → new.opens ≡ old.opens → opened_at new other ≡ opened_at old other
same_opens old new other same = ap (λ (o : List (Event × (ℕ × ℕ))). lookup (is_event other) o) same

pub closed : (old new : Known) (event : Event) (pid fd : ℕ) → Becomes old new (λ p n. if is_at pid fd p n then Some thing.Other else held_at old p n)
    → Hears old new event (deed.Closes pid fd)
closed old new event pid fd b = record { opens = λ other. same_opens old new other b.opens; held = b.each }

pub ranged : (old new : Known) (event : Event) (pid first last : ℕ)
    → Becomes old new (λ p n. if is_same pid p then closed_in first last n (held_at old pid n) else held_at old p n)
    → Hears old new event (deed.ClosesRange pid first last)
ranged old new event pid first last b = record { opens = λ other. same_opens old new other b.opens; held = b.each }

pub copied : (old new : Known) (ms serial pid from to : ℕ) (found : Option Thing) (what : Thing) → found ≡ held_at old pid from → what ≡ copy_of ms found
    → Becomes old new (λ p n. if is_at pid to p n then Some what else held_at old p n)
    → Hears old new (ms, serial) (deed.Copies pid from to)
copied old new ms serial pid from to found what is copies b = record {
  opens = λ other. same_opens old new other b.opens;
  held = λ p n. b.each p n ∙ ap (λ (t : Thing). if is_at pid to p n then Some t else held_at old p n) (copies ∙ ap (copy_of ms) is);
}

pub runs : (old new : Known) (event : Event) (pid : ℕ)
    → Becomes old new (λ p n. if is_same pid p then (if is_same 0 n then held_at old pid 0 else Some thing.Other) else held_at old p n)
    → Hears old new event (deed.Runs pid)
runs old new event pid b = record { opens = λ other. same_opens old new other b.opens; held = b.each }

pub forks : (old new : Known) (ms serial pid : ℕ) (parent : Option ℕ) (child : ℕ)
    → Becomes old new (λ p n. if is_same child p then child_holds old ms pid parent child n else held_at old p n)
    → Hears old new (ms, serial) (deed.Forks pid parent child)
forks old new ms serial pid parent child b = record { opens = λ other. same_opens old new other b.opens; held = b.each }

begun_held : (b : Bool) (n : ℕ) (before after : Option Fds) → after ≡ (if b then None else before)
    → thing_of (unwrap_or after no_fds) n ≡ (if b then None else thing_of (unwrap_or before no_fds) n)
begun_held true n before after is = ap (λ (o : Option Fds). thing_of (unwrap_or o no_fds) n) is
begun_held false n before after is = ap (λ (o : Option Fds). thing_of (unwrap_or o no_fds) n) is

pub begins : (old inside : Known) (held2 : List (ℕ × Fds)) (event : Event) (pid : ℕ) → inside ≡ old
    → ((p : ℕ) → lookup (is_same p) held2 ≡ (if is_same pid p then None else lookup (is_same p) inside.held))
    → Hears old (record inside { held = held2 }) event (deed.Begins pid)
begins old inside held2 event pid same moved = record {
  opens = λ other. ap (λ (k : Known). opened_at k other) same;
  held = λ p n. begun_held (is_same pid p) n (lookup (is_same p) inside.held) (lookup (is_same p) held2) (moved p)
      ∙ ap (λ (k : Known). if is_same pid p then None else held_at k p n) same;
}

pub ends : (old inside : Known) (opens2 : List (Event × (ℕ × ℕ))) (event : Event) → inside ≡ old
    → ((other : Event) → lookup (is_event other) opens2 ≡ (if is_event event other then None else lookup (is_event other) inside.opens))
    → Hears old (record inside { opens = opens2 }) event deed.Ends
ends old inside opens2 event same moved = record {
  opens = λ other. moved other ∙ ap (λ (k : Known). if is_event event other then None else opened_at k other) same;
  held = λ p n. ap (λ (k : Known). held_at k p n) same;
}

pub opened : (old mid inside : Known) (opens2 : List (Event × (ℕ × ℕ))) (event : Event) (pid fd : ℕ) → inside ≡ mid
    → Becomes old mid (λ p n. if is_at pid fd p n then Some thing.Other else held_at old p n)
    → ((other : Event) → lookup (is_event other) opens2 ≡ (if is_event event other then Some (pid, fd) else lookup (is_event other) inside.opens))
    → Hears old (record inside { opens = opens2 }) event (deed.Opens pid fd)
opened old mid inside opens2 event pid fd same b moved = record {
  opens = λ other. moved other ∙ ap (λ (o : List (Event × (ℕ × ℕ))). if is_event event other then Some (pid, fd) else lookup (is_event other) o)
      (ap (λ (k : Known). k.opens) same ∙ b.opens);
  held = λ p n. ap (λ (k : Known). held_at k p n) same ∙ b.each p n;
}

-- what was removed is known no longer, and the descriptor that it named holds a regular file or doesn't
pub named_none : (old inside : Known) (opens2 : List (Event × (ℕ × ℕ))) (event : Event) (file : Bool) → inside ≡ old → opened_at old event ≡ None
    → ((other : Event) → lookup (is_event other) opens2 ≡ (if is_event event other then None else lookup (is_event other) inside.opens))
    → Hears old (record inside { opens = opens2 }) event (deed.Names file)
named_none old inside opens2 event file same none moved = record {
  opens = λ other. moved other ∙ ap (λ (k : Known). if is_event event other then None else opened_at k other) same;
  held = λ p n. ap (λ (k : Known). held_at k p n) same ∙ ap (λ (o : Option (ℕ × ℕ)). named o (told event.0 file) p n (held_at old p n)) (sym none);
}

pub named_some : (old inside new : Known) (opens2 : List (Event × (ℕ × ℕ))) (event : Event) (pid fd : ℕ) (file : Bool) (what : Thing)
    → inside ≡ old → opened_at old event ≡ Some (pid, fd) → what ≡ told event.0 file
    → ((other : Event) → lookup (is_event other) opens2 ≡ (if is_event event other then None else lookup (is_event other) inside.opens))
    → Becomes (record inside { opens = opens2 }) new (λ p n. if is_at pid fd p n then Some what else held_at (record inside { opens = opens2 }) p n)
    → Hears old new event (deed.Names file)
named_some old inside new opens2 event pid fd file what same some is moved b = record {
  opens = λ other. ap (λ (o : List (Event × (ℕ × ℕ))). lookup (is_event other) o) b.opens ∙ moved other
      ∙ ap (λ (k : Known). if is_event event other then None else opened_at k other) same;
  held = λ p n. b.each p n ∙ ap (λ (k : Known). if is_at pid fd p n then Some what else held_at k p n) same
      ∙ ap (λ (t : Thing). if is_at pid fd p n then Some t else held_at old p n) is
      ∙ ap (λ (o : Option (ℕ × ℕ)). named o (told event.0 file) p n (held_at old p n)) (sym some);
}

-- ---- what is known stays what was said

opened_same : (a b : Event → Option (ℕ × ℕ)) (event : Event) (said : Deed) (other : Event) → ((e : Event) → a e ≡ b e)
    → opened_after a event said other ≡ opened_after b event said other
opened_same a b event said other same = ap (λ (f : Event → Option (ℕ × ℕ)). opened_after f event said other) (λ i e. same e i)

held_same : (a b : Event → Option (ℕ × ℕ)) (f g : Holding) (event : Event) (said : Deed) (p n : ℕ)
    → ((e : Event) → a e ≡ b e) → ((q m : ℕ) → f q m ≡ g q m)
    → held_after a f event said p n ≡ held_after b g event said p n
held_same a b f g event said p n opens held =
    ap (λ (h : Event → Option (ℕ × ℕ)). held_after h f event said p n) (λ i e. opens e i)
    ∙ ap (λ (h : Holding). held_after b h event said p n) (λ i q m. held q m i)

pub heard : (old new : Known) (event : Event) (said : Deed) (before : List Said) → Hears old new event said → StandsFor old before
    → StandsFor new ((event, said) ∷ before)
heard old new event said before hears stands = record {
  opens = λ other. hears.opens other ∙ opened_same (opened_at old) (opened_in before) event said other stands.opens;
  held = λ p n. hears.held p n ∙ held_same (opened_at old) (opened_in before) (held_at old) (held_in before) event said p n stands.opens stands.held;
}

-- what is found of a process is what is kept of it
pub found : (old inside : Known) (pid n : ℕ) (fds : Fds) → inside ≡ old → Some fds ≡ lookup (is_same pid) inside.held → thing_of fds n ≡ held_at old pid n
found old inside pid n fds same is =
    ap (λ (o : Option Fds). thing_of (unwrap_or o no_fds) n) is ∙ ap (λ (k : Known). held_at k pid n) same
