-- Whether a place is past is known of the least time.
use Rattle.std.proofs.Common.{◌≡◌, ◌≤◌, ◌+◌, ◌||◌, arith, sym, refl, ap, ℕ, Bool, true, false, List, [], ◌∷◌, Option, None, Some, nat_eq, nat_lt}
use Rattle.std.specs.Prelude.{IfSome, IfNone}
use Rattle.std.specs.List.{All, list_any}
use Rattle.std.proofs.lemmas.List.Elements.{All-head, All-tail}
use Rattle.std.proofs.lemmas.Bool.Decides.{nat_tests}
use Rattle.order_queue.specs.declared.waiting.Waiting.{Waiting}
use Rattle.audit_order.specs.Sorted.{is_past, any_is_past}

any_step : (same rest here more : Bool) → (same ≡ true → here ≡ true) → (rest ≡ true → more ≡ true) → (same || rest) ≡ true → (here || more) ≡ true
any_step true rest here more f g e = rw (f refl) refl
any_step false rest true more f g e = refl
any_step false rest false more f g e = g e

none_step : (here more : Bool) → here ≡ false → more ≡ false → (here || more) ≡ false
none_step here more a b = rw (a, b) refl

same_past : (window time other clock : ℕ) → nat_lt (time + window) clock ≡ true → nat_eq time other ≡ true → nat_lt (other + window) clock ≡ true
same_past window time other clock past same = grind (arith, nat_tests, past, same)

later_past : (window time other clock : ℕ) → nat_lt (time + window) clock ≡ false → time ≤ other → nat_lt (other + window) clock ≡ false
later_past window time other clock past le = grind (arith, nat_tests, past, le)

any_past : (window time clock : ℕ) (waits : List Waiting) → nat_lt (time + window) clock ≡ true → list_any (λ item. nat_eq time item.time) waits ≡ true → any_is_past window clock waits ≡ true
any_past window time clock [] past e = absurd (cc e)
any_past window time clock (w ∷ waits) past e =
    any_step (nat_eq time w.time) (list_any (λ item. nat_eq time item.time) waits) (nat_lt (w.time + window) clock) (any_is_past window clock waits)
    (λ same. same_past window time w.time clock past same) (λ more. any_past window time clock waits past more) e

pub none_past : (window time clock : ℕ) (waits : List Waiting) → nat_lt (time + window) clock ≡ false → All (λ item. time ≤ item.time) waits → any_is_past window clock waits ≡ false
none_past window time clock [] past all = refl
none_past window time clock (w ∷ waits) past all =
    none_step (nat_lt (w.time + window) clock) (any_is_past window clock waits)
    (later_past window time w.time clock past (All-head (λ (item : Waiting). time ≤ item.time) w waits all))
    (none_past window time clock waits past (All-tail (λ (item : Waiting). time ≤ item.time) w waits all))

by_past : (b : Bool) (window time clock : ℕ) (waits : List Waiting) → nat_lt (time + window) clock ≡ b → All (λ item. time ≤ item.time) waits
    → list_any (λ item. nat_eq time item.time) waits ≡ true → b ≡ any_is_past window clock waits
by_past true window time clock waits past all one = sym (any_past window time clock waits past one)
by_past false window time clock waits past all one = sym (none_past window time clock waits past all)

pub ripe : (window : ℕ) (place : Option ℕ) (clock : ℕ) (waits : List Waiting) → IfSome place (λ time. All (λ item. time ≤ item.time) waits)
    → IfSome place (λ time. list_any (λ item. nat_eq time item.time) waits ≡ true) → IfNone place (waits ≡ []) → is_past window place clock ≡ any_is_past window clock waits
ripe window None clock waits least one none = ap (λ (w : List Waiting). any_is_past window clock w) (sym none)
ripe window (Some time) clock waits least one none = by_past (nat_lt (time + window) clock) window time clock waits refl least one
