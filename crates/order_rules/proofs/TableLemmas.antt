-- What is known of processes once one of them has changed.
use Rattle.std.proofs.Common.{◌≡◌, ◌∙◌, ◌&&◌, arith, sym, refl, ap, ℕ, Bool, true, false, List, [], ◌∷◌, Option, None, Some, if◌then◌else◌}
use Rattle.std.specs.Prelude.{not, unwrap_or}
use Rattle.std.specs.List.{list_any}
use Rattle.std.specs.Map.{lookup}
use Rattle.std.proofs.lemmas.Bool.Decides.{nat_tests}
use Rattle.audit_lex.specs.declared.header.EventKey.{EventKey}
use Rattle.order_rules.specs.declared.held.Held.{Held}
use Rattle.order_rules.specs.declared.under.Under.{Under}
use Rattle.order_rules.specs.Addresses.{is_any}
use Rattle.order_rules.specs.Deeds.{Deed, Said, Holding, Hosts, Places, Waits, is_same, is_one, changed, at_exec, in_range, inherited, clock_after, clock_in, under_after, held_after, hosts_after, places_after, waits_after, under_in, held_in, is_host_in, is_place_in, waits_in}
use Rattle.order_rules.specs.Known.{Fds, Known, no_fds, held_of, fds_at, held_at, is_host_at, is_place_at, waits_at, Leaves, Keeps, Becomes, AddsHost, Hears, StandsFor}

pub one_same : (a b : ℕ) → is_same a b ≡ true → a ≡ b
one_same a b same = grind (arith, nat_tests, same)

pub by_test : {P : Type 0} (b : Bool) → (b ≡ true → P) → (b ≡ false → P) → P
by_test true f g = f refl
by_test false f g = g refl

-- what is taken out leaves the others
pub taken : (old inside : Known) (processes2 : List (ℕ × Fds)) (pid : ℕ) → inside ≡ old
    → ((p : ℕ) → is_same pid p ≡ false → lookup (is_same p) processes2 ≡ lookup (is_same p) inside.processes)
    → Leaves old (record inside { processes = processes2 }) pid
taken old inside processes2 pid same moved = record {
  others = λ p isnt. ap (λ (o : Option Fds). unwrap_or o no_fds) (moved p isnt) ∙ ap (λ (k : Known). fds_at k p) same;
  under = ap (λ (k : Known). k.under) same;
  hosts = ap (λ (k : Known). k.hosts) same;
  doors = ap (λ (k : Known). k.doors) same;
}

put_here : (b : Bool) (fds : Option Fds) (before after : Option Fds) → b ≡ true → after ≡ (if b then fds else before) → after ≡ fds
put_here true fds before after e is = is
put_here false fds before after e is = absurd (cc e)

put_there : (b : Bool) (fds : Option Fds) (before after : Option Fds) → b ≡ false → after ≡ (if b then fds else before) → after ≡ before
put_there true fds before after e is = absurd (cc e)
put_there false fds before after e is = is

-- this is kept of a process, whose entry is this one or none
kept_as : (old inside : Known) (processes2 : List (ℕ × Fds)) (pid : ℕ) (entry : Option Fds) (fds : Fds) → inside ≡ old → unwrap_or entry no_fds ≡ fds
    → ((p : ℕ) → lookup (is_same p) processes2 ≡ (if is_same pid p then entry else lookup (is_same p) inside.processes))
    → Keeps old (record inside { processes = processes2 }) pid fds
kept_as old inside processes2 pid entry fds same is moved = record {
  here = λ p e. ap (λ (o : Option Fds). unwrap_or o no_fds) (put_here (is_same pid p) entry (lookup (is_same p) inside.processes) (lookup (is_same p) processes2) e (moved p)) ∙ is;
  others = λ p e. ap (λ (o : Option Fds). unwrap_or o no_fds) (put_there (is_same pid p) entry (lookup (is_same p) inside.processes) (lookup (is_same p) processes2) e (moved p))
      ∙ ap (λ (k : Known). fds_at k p) same;
  under = ap (λ (k : Known). k.under) same;
  hosts = ap (λ (k : Known). k.hosts) same;
  doors = ap (λ (k : Known). k.doors) same;
}

pub kept : (old inside : Known) (processes2 : List (ℕ × Fds)) (pid : ℕ) (fds : Fds) → inside ≡ old
    → ((p : ℕ) → lookup (is_same p) processes2 ≡ (if is_same pid p then Some fds else lookup (is_same p) inside.processes))
    → Keeps old (record inside { processes = processes2 }) pid fds
kept old inside processes2 pid fds same moved = kept_as old inside processes2 pid (Some fds) fds same refl moved

pub kept_none : (old inside : Known) (processes2 : List (ℕ × Fds)) (pid : ℕ) (fds : Fds) → inside ≡ old → fds ≡ no_fds
    → ((p : ℕ) → lookup (is_same p) processes2 ≡ (if is_same pid p then None else lookup (is_same p) inside.processes))
    → Keeps old (record inside { processes = processes2 }) pid fds
kept_none old inside processes2 pid fds same is moved = kept_as old inside processes2 pid None fds same (sym is) moved

-- what one process holds has changed
becomes : (old mid new : Known) (pid : ℕ) (now : Fds) (held : Holding)
    → ((p : ℕ) → is_same pid p ≡ false → fds_at mid p ≡ fds_at old p) → mid.under ≡ old.under → mid.hosts ≡ old.hosts → mid.doors ≡ old.doors → Keeps mid new pid now
    → ((p n : ℕ) → is_same pid p ≡ true → held_of now n ≡ held p n)
    → ((p n : ℕ) → is_same pid p ≡ false → held_at old p n ≡ held p n)
    → Becomes old new held
becomes old mid new pid now held others under hosts doors keeps here there = record {
  each = λ p n. by_test (is_same pid p)
      (λ same. ap (λ (f : Fds). held_of f n) (keeps.here p same) ∙ here p n same)
      (λ isnt. ap (λ (f : Fds). held_of f n) (keeps.others p isnt ∙ others p isnt) ∙ there p n isnt);
  under = keeps.under ∙ under;
  hosts = keeps.hosts ∙ hosts;
  doors = keeps.doors ∙ doors;
}

set_here : (b c : Bool) (what before now : Option Held) → b ≡ true → now ≡ (if c then what else before) → now ≡ (if b && c then what else before)
set_here true c what before now e is = is
set_here false c what before now e is = absurd (cc e)

set_there : (b c : Bool) (what before : Option Held) → b ≡ false → before ≡ (if b && c then what else before)
set_there true c what before e = absurd (cc e)
set_there false c what before e = refl

if_here : (b : Bool) (what before now : Option Held) → b ≡ true → now ≡ what → now ≡ (if b then what else before)
if_here true what before now e is = is
if_here false what before now e is = absurd (cc e)

if_there : (b : Bool) (what before : Option Held) → b ≡ false → before ≡ (if b then what else before)
if_there true what before e = absurd (cc e)
if_there false what before e = refl

pub has_set : (old mid new : Known) (pid fd : ℕ) (held : Option Held) (was now : Fds) → was ≡ fds_at old pid
    → ((n : ℕ) → held_of now n ≡ (if is_same fd n then held else held_of was n)) → Leaves old mid pid → Keeps mid new pid now
    → Becomes old new (changed (held_at old) pid fd held)
has_set old mid new pid fd held was now is sets leaves keeps =
    becomes old mid new pid now (changed (held_at old) pid fd held) leaves.others leaves.under leaves.hosts leaves.doors keeps
    (λ p n same. set_here (is_same pid p) (is_same fd n) held (held_at old p n) (held_of now n) same
    (sets n ∙ ap (λ (f : Fds). if is_same fd n then held else held_of f n) (is ∙ ap (fds_at old) (one_same pid p same))))
    (λ p n isnt. set_there (is_same pid p) (is_same fd n) held (held_at old p n) isnt)

pub has_run : (old mid new : Known) (pid : ℕ) (was now : Fds) → was ≡ fds_at old pid
    → ((n : ℕ) → held_of now n ≡ at_exec (held_of was n)) → Leaves old mid pid → Keeps mid new pid now
    → Becomes old new (λ p n. if is_same pid p then at_exec (held_at old p n) else held_at old p n)
has_run old mid new pid was now is sets leaves keeps =
    becomes old mid new pid now (λ p n. if is_same pid p then at_exec (held_at old p n) else held_at old p n) leaves.others leaves.under leaves.hosts leaves.doors keeps
    (λ p n same. if_here (is_same pid p) (at_exec (held_at old p n)) (held_at old p n) (held_of now n) same
    (sets n ∙ ap (λ (f : Fds). at_exec (held_of f n)) (is ∙ ap (fds_at old) (one_same pid p same))))
    (λ p n isnt. if_there (is_same pid p) (at_exec (held_at old p n)) (held_at old p n) isnt)

pub has_begun : (old new : Known) (pid child : ℕ) (fds : Fds) → ((n : ℕ) → held_of fds n ≡ inherited n (held_at old pid n)) → Keeps old new child fds
    → Becomes old new (λ p n. if is_same child p then inherited n (held_at old pid n) else held_at old p n)
has_begun old new pid child fds is keeps =
    becomes old old new child fds (λ p n. if is_same child p then inherited n (held_at old pid n) else held_at old p n) (λ p isnt. refl) refl refl refl keeps
    (λ p n same. if_here (is_same child p) (inherited n (held_at old pid n)) (held_at old p n) (held_of fds n) same (is n))
    (λ p n isnt. if_there (is_same child p) (inherited n (held_at old pid n)) (held_at old p n) isnt)

pub has_closed : (old mid new : Known) (pid first last : ℕ) (was now : Fds) → was ≡ fds_at old pid
    → ((n : ℕ) → held_of now n ≡ (if in_range first last n then None else held_of was n)) → Leaves old mid pid → Keeps mid new pid now
    → Becomes old new (λ p n. if is_same pid p && in_range first last n then None else held_at old p n)
has_closed old mid new pid first last was now is sets leaves keeps =
    becomes old mid new pid now (λ p n. if is_same pid p && in_range first last n then None else held_at old p n) leaves.others leaves.under leaves.hosts leaves.doors keeps
    (λ p n same. set_here (is_same pid p) (in_range first last n) None (held_at old p n) (held_of now n) same
    (sets n ∙ ap (λ (f : Fds). if in_range first last n then None else held_of f n) (is ∙ ap (fds_at old) (one_same pid p same))))
    (λ p n isnt. set_there (is_same pid p) (in_range first last n) None (held_at old p n) isnt)

ended_held : (b : Bool) (n : ℕ) (before after : Option Fds) → after ≡ (if b then None else before)
    → held_of (unwrap_or after no_fds) n ≡ (if b then None else held_of (unwrap_or before no_fds) n)
ended_held true n before after is = ap (λ (o : Option Fds). held_of (unwrap_or o no_fds) n) is
ended_held false n before after is = ap (λ (o : Option Fds). held_of (unwrap_or o no_fds) n) is

pub has_ended : (old inside : Known) (processes2 : List (ℕ × Fds)) (pid : ℕ) → inside ≡ old
    → ((p : ℕ) → lookup (is_same p) processes2 ≡ (if is_same pid p then None else lookup (is_same p) inside.processes))
    → Becomes old (record inside { processes = processes2 }) (λ p n. if is_same pid p then None else held_at old p n)
has_ended old inside processes2 pid same moved = record {
  each = λ p n. ended_held (is_same pid p) n (lookup (is_same p) inside.processes) (lookup (is_same p) processes2) (moved p)
      ∙ ap (λ (k : Known). if is_same pid p then None else held_at k p n) same;
  under = ap (λ (k : Known). k.under) same;
  hosts = ap (λ (k : Known). k.hosts) same;
  doors = ap (λ (k : Known). k.doors) same;
}

pub host_added : (old inside : Known) (hosts2 : List (List ℕ)) (host made : List ℕ) → inside ≡ old → is_any host ≡ false → made ≡ host
    → ((other : List ℕ) → list_any (is_one other) hosts2 ≡ (if is_one made other then true else list_any (is_one other) inside.hosts))
    → AddsHost old (record inside { hosts = hosts2 }) host
host_added old inside hosts2 host made same any is moved = record {
  hosts = λ other. moved other
      ∙ ap (λ (h : List ℕ). if is_one h other then true else list_any (is_one other) inside.hosts) is
      ∙ ap (λ (b : Bool). if not b && is_one host other then true else list_any (is_one other) inside.hosts) (sym any)
      ∙ ap (λ (k : Known). if not (is_any host) && is_one host other then true else is_host_at k other) same;
  under = ap (λ (k : Known). k.under) same;
  processes = ap (λ (k : Known). k.processes) same;
  doors = ap (λ (k : Known). k.doors) same;
}

pub host_any : (old inside : Known) (host : List ℕ) → inside ≡ old → is_any host ≡ true → AddsHost old inside host
host_any old inside host same any = record {
  hosts = λ other. ap (λ (b : Bool). if not b && is_one host other then true else is_host_at inside other) (sym any)
      ∙ ap (λ (k : Known). if not (is_any host) && is_one host other then true else is_host_at k other) same;
  under = ap (λ (k : Known). k.under) same;
  processes = ap (λ (k : Known). k.processes) same;
  doors = ap (λ (k : Known). k.doors) same;
}

-- ---- what is known stays what was said

held_same : (u v : Option Under) (f g : Holding) (event : EventKey) (said : Deed) (p n : ℕ) → u ≡ v
    → ((q m : ℕ) → f q m ≡ g q m) → held_after u f event said p n ≡ held_after v g event said p n
held_same u v f g event said p n same holds =
    ap (λ (o : Option Under). held_after o f event said p n) same
    ∙ ap (λ (h : Holding). held_after v h event said p n) (λ i q m. holds q m i)

hosts_same : (u v : Option Under) (f g : Hosts) (event : EventKey) (said : Deed) (host : List ℕ) → u ≡ v
    → ((other : List ℕ) → f other ≡ g other) → hosts_after u f event said host ≡ hosts_after v g event said host
hosts_same u v f g event said host same holds =
    ap (λ (o : Option Under). hosts_after o f event said host) same
    ∙ ap (λ (h : Hosts). hosts_after v h event said host) (λ i other. holds other i)

places_same : (u v : Option Under) (f g : Places) (event : EventKey) (said : Deed) (place : List ℕ) → u ≡ v
    → ((other : List ℕ) → f other ≡ g other) → places_after u f event said place ≡ places_after v g event said place
places_same u v f g event said place same holds =
    ap (λ (o : Option Under). places_after o f event said place) same
    ∙ ap (λ (h : Places). places_after v h event said place) (λ i other. holds other i)

waits_same : (old : Known) (before : List Said) (event : EventKey) (said : Deed) (place : List ℕ) → StandsFor old before
    → waits_after old.doors.clock old.under (held_at old) (is_host_at old) (is_place_at old.doors) (waits_at old.doors) event said place
    ≡ waits_after (clock_in before) (under_in before) (held_in before) (is_host_in before) (is_place_in before) (waits_in before) event said place
waits_same old before event said place stands =
    ap (λ (n : ℕ). waits_after n old.under (held_at old) (is_host_at old) (is_place_at old.doors) (waits_at old.doors) event said place) stands.clock
    ∙ ap (λ (o : Option Under). waits_after (clock_in before) o (held_at old) (is_host_at old) (is_place_at old.doors) (waits_at old.doors) event said place) stands.under
    ∙ ap (λ (f : Holding). waits_after (clock_in before) (under_in before) f (is_host_at old) (is_place_at old.doors) (waits_at old.doors) event said place) (λ i q m. stands.held q m i)
    ∙ ap (λ (f : Hosts). waits_after (clock_in before) (under_in before) (held_in before) f (is_place_at old.doors) (waits_at old.doors) event said place) (λ i other. stands.hosts other i)
    ∙ ap (λ (f : Places). waits_after (clock_in before) (under_in before) (held_in before) (is_host_in before) f (waits_at old.doors) event said place) (λ i other. stands.places other i)
    ∙ ap (λ (f : Waits). waits_after (clock_in before) (under_in before) (held_in before) (is_host_in before) (is_place_in before) f event said place) (λ i other. stands.waits other i)

pub heard : (old new : Known) (event : EventKey) (said : Deed) (before : List Said) → Hears old new event said → StandsFor old before
    → StandsFor new ((event, said) ∷ before)
heard old new event said before hears stands = record {
  clock = hears.clock ∙ ap (λ (n : ℕ). clock_after n event said) stands.clock;
  under = hears.under ∙ ap (λ (u : Option Under). under_after u event said) stands.under;
  held = λ p n. hears.held p n ∙ held_same old.under (under_in before) (held_at old) (held_in before) event said p n stands.under stands.held;
  hosts = λ host. hears.hosts host ∙ hosts_same old.under (under_in before) (is_host_at old) (is_host_in before) event said host stands.under stands.hosts;
  places = λ place. hears.places place ∙ places_same old.under (under_in before) (is_place_at old.doors) (is_place_in before) event said place stands.under stands.places;
  waits = λ place. hears.waits place ∙ waits_same old before event said place stands;
}
