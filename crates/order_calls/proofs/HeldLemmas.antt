-- What is known of the descriptors of one process.
use Rattle.std.proofs.Common.{◌≡◌, ◌∙◌, ◌&&◌, not, sym, refl, ap, cond, ℕ, Bool, true, false, List, [], ◌∷◌, Option, None, Some, subst, if◌then◌else◌}
use Rattle.std.specs.Prelude.{is_some, is_none, option_map, IfSome, filter}
use Rattle.std.specs.Option.{option_or, option_and_then}
use Rattle.std.specs.List.{IsDistinct}
use Rattle.std.specs.Map.{lookup, keys_of, update_all}
use Rattle.std.specs.Map.Calls.{RetainsPairs}
use Rattle.std.specs.Cmp.{nat_cmp_total, eq_by_cmp_equiv}
use Rattle.std.proofs.lemmas.Map.{lookup-none}
use Rattle.std.proofs.lemmas.Map.Entries.{none_past_head, lookup-filter-keys}
use Rattle.std.proofs.lemmas.Map.Made.{update_all_distinct}
use Rattle.order_calls.specs.declared.held.Thing.{Thing}
use Rattle.order_calls.specs.declared.held.Thing.TheVariants as thing
use Rattle.order_calls.specs.Deeds.{is_same, gift_of, given, since, born, in_range, not_file, closed_in}
use Rattle.order_calls.specs.Known.{Fds, at_run, thing_of, left_by}
use Rattle.order_calls.proofs.FileLemmas.{one_same}

-- ---- one descriptor holds another thing

put_by : (b : Bool) (before after : Option Thing) (what : Thing) (rest : Option Thing) → after ≡ (if b then Some what else before)
    → option_or after rest ≡ (if b then Some what else option_or before rest)
put_by true before after what rest moved = ap (λ (o : Option Thing). option_or o rest) moved
put_by false before after what rest moved = ap (λ (o : Option Thing). option_or o rest) moved

pub put : (inside old : Fds) (after : List (ℕ × Thing)) (fd : ℕ) (what : Thing) (n : ℕ) → inside ≡ old
    → lookup (is_same n) after ≡ (if is_same fd n then Some what else lookup (is_same n) inside.said)
    → thing_of (record inside { said = after }) n ≡ (if is_same fd n then Some what else thing_of old n)
put inside old after fd what n same moved =
    put_by (is_same fd n) (lookup (is_same n) inside.said) (lookup (is_same n) after) what (at_run inside.ran n) moved
    ∙ ap (λ (f : Fds). if is_same fd n then Some what else thing_of f n) same

-- ---- another program runs

run_some : (b : Bool) (what : Thing) (input mid after : Option Thing) → input ≡ Some what → mid ≡ (if not b then Some thing.Other else None)
    → after ≡ (if b then Some what else mid) → after ≡ (if b then input else Some thing.Other)
run_some true what input mid after is was now = now ∙ sym is
run_some false what input mid after is was now = now ∙ was

run_none : (b : Bool) (input after : Option Thing) → input ≡ None → after ≡ (if not b then Some thing.Other else None)
    → after ≡ (if b then input else Some thing.Other)
run_none true input after is now = now ∙ sym is
run_none false input after is now = now

cleared : (said : List (ℕ × Thing)) (n : ℕ) → said ≡ [] → thing_of (record { said = said; ran = true }) n ≡ (if not (is_same 0 n) then Some thing.Other else None)
cleared said n none = ap (λ (l : List (ℕ × Thing)). thing_of (record { said = l; ran = true }) n) none

pub ran_with : (old new : Fds) (said : List (ℕ × Thing)) (what : Thing) (n : ℕ) → said ≡ [] → thing_of old 0 ≡ Some what
    → thing_of new n ≡ (if is_same 0 n then Some what else thing_of (record { said = said; ran = true }) n)
    → thing_of new n ≡ (if is_same 0 n then thing_of old 0 else Some thing.Other)
ran_with old new said what n none is now =
    run_some (is_same 0 n) what (thing_of old 0) (thing_of (record { said = said; ran = true }) n) (thing_of new n) is (cleared said n none) now

pub ran_without : (old : Fds) (said : List (ℕ × Thing)) (n : ℕ) → said ≡ [] → thing_of old 0 ≡ None
    → thing_of (record { said = said; ran = true }) n ≡ (if is_same 0 n then thing_of old 0 else Some thing.Other)
ran_without old said n none is = run_none (is_same 0 n) (thing_of old 0) (thing_of (record { said = said; ran = true }) n) is (cleared said n none)

-- ---- things become others, or are left out

first_kept : (found : Option Thing) (b here : Bool) (w : Thing) (k q : ℕ) (rest : List (ℕ × Thing)) (kept : List (ℕ × Thing))
    → is_same q k ≡ here → here ≡ true → b ≡ is_some found → IfSome found (λ other. w ≡ other) → lookup (is_same q) rest ≡ None
    → kept ≡ cond b ((k, w) ∷ rest) rest → lookup (is_same q) kept ≡ found
first_kept None b here w k q rest kept at is kind value none all =
    ap (λ (l : List (ℕ × Thing)). lookup (is_same q) l) (all ∙ ap (λ (x : Bool). cond x ((k, w) ∷ rest) rest) kind) ∙ none
first_kept (Some new) b here w k q rest kept at is kind value none all =
    ap (λ (l : List (ℕ × Thing)). lookup (is_same q) l) (all ∙ ap (λ (x : Bool). cond x ((k, w) ∷ rest) rest) kind)
    ∙ ap (λ (x : Bool). cond x (Some w) (lookup (is_same q) rest)) (at ∙ is) ∙ ap (λ (x : Thing). Some x) value

later_kept : (b : Bool) (w : Thing) (k q : ℕ) (rest kept : List (ℕ × Thing)) → is_same q k ≡ false → kept ≡ cond b ((k, w) ∷ rest) rest
    → lookup (is_same q) kept ≡ lookup (is_same q) rest
later_kept true w k q rest kept isnt all =
    ap (λ (l : List (ℕ × Thing)). lookup (is_same q) l) all ∙ ap (λ (x : Bool). cond x (Some w) (lookup (is_same q) rest)) isnt
later_kept false w k q rest kept isnt all = ap (λ (l : List (ℕ × Thing)). lookup (is_same q) l) all

by_test : {P : Type 0} (b : Bool) → (b ≡ true → P) → (b ≡ false → P) → P
by_test true f g = f refl
by_test false f g = g refl

pub changed : {F : Type 0} (T : F → ℕ → Thing → Bool → Thing → F → Type 0) (g : Thing → Option Thing) (f : F)
    → ((k : ℕ) (v : Thing) (b : Bool) (w : Thing) (h : F) → T f k v b w h → (b ≡ is_some (g v)) × IfSome (g v) (λ other. w ≡ other) × (h ≡ f))
    → (es kept : List (ℕ × Thing)) (q : ℕ) → IsDistinct is_same (keys_of es) → RetainsPairs T f es kept
    → lookup (is_same q) kept ≡ option_and_then g (lookup (is_same q) es)
unfolding IsDistinct
changed T g f step [] kept q distinct retains = ap (λ (l : List (ℕ × Thing)). lookup (is_same q) l) retains
changed {F} T g f step (e ∷ es) kept q distinct (b, w, h, rest, call, more, all) =
    let says = step e.0 e.1 b w h call in
    let later = changed T g f step es rest q distinct.1 (subst (λ (x : F). RetainsPairs T x es rest) says.2 more) in
    by_test (is_same q e.0)
    (λ same. first_kept (g e.1) b (is_same q e.0) w e.0 q rest kept refl same says.0 says.1
    (later ∙ ap (option_and_then g) (lookup-none (is_same q) es (none_past_head (eq_by_cmp_equiv nat_cmp_total) q e es distinct same))) all
    ∙ ap (λ (x : Bool). option_and_then g (cond x (Some e.1) (lookup (is_same q) es))) (sym same))
    (λ isnt. later_kept b w e.0 q rest kept isnt all ∙ later
    ∙ ap (λ (x : Bool). option_and_then g (cond x (Some e.1) (lookup (is_same q) es))) (sym isnt))

-- what a process gives is what it is known to hold, since it is known to have closed the rest
pub given_by : (ms pid : ℕ) (parent : Option ℕ) (b : Bool) (found : Option Thing)
    → option_and_then (gift_of ms pid parent) found ≡ given ms pid parent (option_or found (if b then Some thing.Other else None))
given_by ms pid parent b (Some held) = refl
given_by ms pid parent true None = refl
given_by ms pid parent false None = refl

pub all_since : (ms : ℕ) (found : Option Thing) → option_and_then (λ (t : Thing). Some (since ms t)) found ≡ option_map (since ms) found
all_since ms None = refl
all_since ms (Some held) = refl

-- ---- the descriptors of a range are closed

-- what stands at a key becomes another thing by that key, and nothing is left out
pub all_kept : {F : Type 0} (T : F → ℕ → Thing → Bool → Thing → F → Type 0) (g : ℕ → Thing → Thing) (f : F)
    → ((k : ℕ) (v : Thing) (b : Bool) (w : Thing) (h : F) → T f k v b w h → (b ≡ true) × (w ≡ g k v) × (h ≡ f))
    → (es kept : List (ℕ × Thing)) (q : ℕ) → RetainsPairs T f es kept
    → lookup (is_same q) kept ≡ option_map (g q) (lookup (is_same q) es)
all_kept T g f step [] kept q retains = ap (λ (l : List (ℕ × Thing)). lookup (is_same q) l) retains
all_kept {F} T g f step (e ∷ es) kept q (b, w, h, rest, call, more, all) =
    let says = step e.0 e.1 b w h call in
    let later = all_kept T g f step es rest q (subst (λ (x : F). RetainsPairs T x es rest) says.2 more) in
    let whole = all ∙ ap (λ (x : Bool). cond x ((e.0, w) ∷ rest) rest) says.0 in
    ap (λ (l : List (ℕ × Thing)). lookup (is_same q) l) whole
    ∙ by_test (is_same q e.0)
    (λ same. ap (λ (x : Bool). cond x (Some w) (lookup (is_same q) rest)) same
    ∙ ap (λ (x : Thing). Some x) (says.1 ∙ ap (λ (k : ℕ). g k e.1) (sym (one_same q e.0 same)))
    ∙ ap (λ (x : Bool). option_map (g q) (cond x (Some e.1) (lookup (is_same q) es))) (sym same))
    (λ isnt. ap (λ (x : Bool). cond x (Some w) (lookup (is_same q) rest)) isnt ∙ later
    ∙ ap (λ (x : Bool). option_map (g q) (cond x (Some e.1) (lookup (is_same q) es))) (sym isnt))

-- a thing of a range that is closed
abbrev pub closed_thing : ℕ → ℕ → ℕ → Thing → Thing
closed_thing first last n held = if in_range first last n then thing.Other else held

closed_by : (b ran : Bool) (held : Option Thing)
    → option_or (option_map (λ (t : Thing). if b then thing.Other else t) held) (if ran then Some thing.Other else None)
    ≡ (if b then not_file (option_or held (if ran then Some thing.Other else None)) else option_or held (if ran then Some thing.Other else None))
closed_by true true None = refl
closed_by true false None = refl
closed_by true ran (Some held) = refl
closed_by false true None = refl
closed_by false false None = refl
closed_by false ran (Some held) = refl

pub range_closed : (inside old : Fds) (after : List (ℕ × Thing)) (first last n : ℕ) → inside ≡ old
    → lookup (is_same n) after ≡ option_map (closed_thing first last n) (lookup (is_same n) inside.said)
    → thing_of (record inside { said = after }) n ≡ closed_in first last n (thing_of old n)
range_closed inside old after first last n same moved =
    ap (λ (o : Option Thing). option_or o (at_run inside.ran n)) moved
    ∙ closed_by (in_range first last n) (inside.ran && not (is_same 0 n)) (lookup (is_same n) inside.said)
    ∙ ap (λ (f : Fds). closed_in first last n (thing_of f n)) same

-- ---- what is left

left_if : (own found : Option Thing) → cond (is_none own) found None ≡ left_by own found
left_if None found = refl
left_if (Some held) found = refl

pub left_in : (own : Fds) (es kept : List (ℕ × Thing)) (q : ℕ) → kept ≡ filter (λ (e : ℕ × Thing). is_none (thing_of own e.0)) es
    → lookup (is_same q) kept ≡ left_by (thing_of own q) (lookup (is_same q) es)
left_in own es kept q all =
    ap (λ (l : List (ℕ × Thing)). lookup (is_same q) l) all
    ∙ lookup-filter-keys (is_same q) (λ (k : ℕ). is_none (thing_of own k)) (is_none (thing_of own q))
    (λ k same. ap (λ (x : ℕ). is_none (thing_of own x)) (sym (one_same q k same))) es
    ∙ left_if (thing_of own q) (lookup (is_same q) es)

-- ---- a child begins

born_by : (ms : ℕ) (own : Option Thing) (b : Bool) (gift : Option Thing)
    → option_or (option_or (left_by (option_or own (if b then Some thing.Other else None)) gift) (option_map (since ms) own)) (if b then Some thing.Other else None)
    ≡ born ms (option_or own (if b then Some thing.Other else None)) gift
born_by ms (Some held) b gift = refl
born_by ms None true gift = refl
born_by ms None false None = refl
born_by ms None false (Some held) = refl

pub begun : (ms : ℕ) (old forgot : Fds) (new : List (ℕ × Thing)) (gift left : List (ℕ × Thing)) (n : ℕ)
    → ((q : ℕ) → lookup (is_same q) left ≡ left_by (thing_of old q) (lookup (is_same q) gift))
    → ((q : ℕ) → lookup (is_same q) forgot.said ≡ option_map (since ms) (lookup (is_same q) old.said)) → forgot.ran ≡ old.ran
    → IsDistinct is_same (keys_of left)
    → lookup (is_same n) new ≡ update_all is_same (λ (q : ℕ). lookup (is_same q) forgot.said) left n
    → thing_of (record forgot { said = new }) n ≡ born ms (thing_of old n) (lookup (is_same n) gift)
begun ms old forgot new gift left n leaves forgets ran distinct all =
    ap (λ (o : Option Thing). option_or o (at_run forgot.ran n))
    (all ∙ update_all_distinct (eq_by_cmp_equiv nat_cmp_total) is_same (λ x y. refl) (λ (q : ℕ). lookup (is_same q) forgot.said) left n distinct
    ∙ ap (λ (o : Option Thing). option_or o (lookup (is_same n) forgot.said)) (leaves n)
    ∙ ap (λ (o : Option Thing). option_or (left_by (thing_of old n) (lookup (is_same n) gift)) o) (forgets n))
    ∙ ap (λ (r : Bool). option_or (option_or (left_by (thing_of old n) (lookup (is_same n) gift)) (option_map (since ms) (lookup (is_same n) old.said))) (at_run r n)) ran
    ∙ born_by ms (lookup (is_same n) old.said) (old.ran && not (is_same 0 n)) (lookup (is_same n) gift)
