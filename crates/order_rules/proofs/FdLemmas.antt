-- What descriptors of a process hold once one of them is changed.
use Rattle.std.proofs.Common.{◌≡◌, ◌∙◌, sym, refl, ap, cond, ℕ, Bool, true, false, List, [], Option, None, Some, if◌then◌else◌}
use Rattle.std.specs.Prelude.{option_map, not, filter, nat_lt}
use Rattle.std.proofs.lemmas.Map.Entries.{lookup-filter-keys}
use Rattle.order_rules.proofs.TableLemmas.{one_same}
use Rattle.std.specs.Map.{lookup}
use Rattle.order_rules.specs.declared.held.Thing.{Thing}
use Rattle.order_rules.specs.declared.held.Held.{Held}
use Rattle.order_rules.specs.Deeds.{is_same, at_exec, in_range, inherited}
use Rattle.order_rules.specs.Known.{Fds, with_mark, first_held, held_of}

-- what stands in both maps after a change of a descriptor
out_of_both : (b : Bool) (k m k2 m2 : Option Thing) → k2 ≡ (if b then None else k) → m2 ≡ (if b then None else m)
    → first_held k2 m2 ≡ (if b then None else first_held k m)
out_of_both true k m k2 m2 out gone = rw (out, gone) refl
out_of_both false k m k2 m2 out gone = rw (out, gone) refl

into_kept : (b : Bool) (k m k2 m2 : Option Thing) (held : Held) → held.stays ≡ true → k2 ≡ (if b then Some held.thing else k)
    → m2 ≡ (if b then None else m) → first_held k2 m2 ≡ (if b then Some held else first_held k m)
into_kept true k m k2 m2 held stays put gone =
    ap (λ (o : Option Thing). first_held o m2) put ∙ ap (λ (s : Bool). Some (with_mark s held.thing)) (sym stays)
into_kept false k m k2 m2 held stays put gone = rw (put, gone) refl

into_marked : (b : Bool) (k m k2 m2 : Option Thing) (held : Held) → held.stays ≡ false → k2 ≡ (if b then None else k)
    → m2 ≡ (if b then Some held.thing else m) → first_held k2 m2 ≡ (if b then Some held else first_held k m)
into_marked true k m k2 m2 held stays gone put =
    ap (λ (o : Option Thing). first_held o m2) gone ∙ ap (λ (o : Option Thing). first_held None o) put
    ∙ ap (λ (s : Bool). Some (with_mark s held.thing)) (sym stays)
into_marked false k m k2 m2 held stays gone put = rw (gone, put) refl

pub fd_removed : (old inside : Fds) (kept2 marked2 : List (ℕ × Thing)) (fd n : ℕ) → inside ≡ old
    → lookup (is_same n) kept2 ≡ (if is_same fd n then None else lookup (is_same n) inside.kept)
    → lookup (is_same n) marked2 ≡ (if is_same fd n then None else lookup (is_same n) inside.marked)
    → held_of (record { kept = kept2; marked = marked2 }) n ≡ (if is_same fd n then None else held_of old n)
fd_removed old inside kept2 marked2 fd n same out gone =
    out_of_both (is_same fd n) (lookup (is_same n) inside.kept) (lookup (is_same n) inside.marked) (lookup (is_same n) kept2) (lookup (is_same n) marked2) out gone
    ∙ ap (λ (f : Fds). if is_same fd n then None else held_of f n) same

pub fd_kept : (old inside : Fds) (kept2 marked2 : List (ℕ × Thing)) (fd n : ℕ) (held : Held) → inside ≡ old → held.stays ≡ true
    → lookup (is_same n) kept2 ≡ (if is_same fd n then Some held.thing else lookup (is_same n) inside.kept)
    → lookup (is_same n) marked2 ≡ (if is_same fd n then None else lookup (is_same n) inside.marked)
    → held_of (record { kept = kept2; marked = marked2 }) n ≡ (if is_same fd n then Some held else held_of old n)
fd_kept old inside kept2 marked2 fd n held same stays put gone =
    into_kept (is_same fd n) (lookup (is_same n) inside.kept) (lookup (is_same n) inside.marked) (lookup (is_same n) kept2) (lookup (is_same n) marked2) held stays put gone
    ∙ ap (λ (f : Fds). if is_same fd n then Some held else held_of f n) same

pub fd_marked : (old inside : Fds) (kept2 marked2 : List (ℕ × Thing)) (fd n : ℕ) (held : Held) → inside ≡ old → held.stays ≡ false
    → lookup (is_same n) kept2 ≡ (if is_same fd n then None else lookup (is_same n) inside.kept)
    → lookup (is_same n) marked2 ≡ (if is_same fd n then Some held.thing else lookup (is_same n) inside.marked)
    → held_of (record { kept = kept2; marked = marked2 }) n ≡ (if is_same fd n then Some held else held_of old n)
fd_marked old inside kept2 marked2 fd n held same stays gone put =
    into_marked (is_same fd n) (lookup (is_same n) inside.kept) (lookup (is_same n) inside.marked) (lookup (is_same n) kept2) (lookup (is_same n) marked2) held stays gone put
    ∙ ap (λ (f : Fds). if is_same fd n then Some held else held_of f n) same

-- ---- the descriptors of a range

-- what is left of one of the maps if some descriptors stay
some_stay : (stays : ℕ → Bool) (es left : List (ℕ × Thing)) (n : ℕ) → left ≡ filter (λ (e : ℕ × Thing). stays e.0) es
    → lookup (is_same n) left ≡ cond (stays n) (lookup (is_same n) es) None
some_stay stays es left n all =
    ap (λ (l : List (ℕ × Thing)). lookup (is_same n) l) all
    ∙ lookup-filter-keys (is_same n) stays (stays n) (λ k same. ap stays (sym (one_same n k same))) es

both_stay : (b : Bool) (k m k2 m2 : Option Thing) → k2 ≡ cond b k None → m2 ≡ cond b m None → first_held k2 m2 ≡ (if b then first_held k m else None)
both_stay true k m k2 m2 out gone = rw (out, gone) refl
both_stay false k m k2 m2 out gone = rw (out, gone) refl

fds_stay : (old inside : Fds) (kept2 marked2 : List (ℕ × Thing)) (stays : ℕ → Bool) (n : ℕ) → inside ≡ old
    → kept2 ≡ filter (λ (e : ℕ × Thing). stays e.0) inside.kept → marked2 ≡ filter (λ (e : ℕ × Thing). stays e.0) inside.marked
    → held_of (record { kept = kept2; marked = marked2 }) n ≡ (if stays n then held_of old n else None)
fds_stay old inside kept2 marked2 stays n same out gone =
    both_stay (stays n) (lookup (is_same n) inside.kept) (lookup (is_same n) inside.marked) (lookup (is_same n) kept2) (lookup (is_same n) marked2)
    (some_stay stays inside.kept kept2 n out) (some_stay stays inside.marked marked2 n gone)
    ∙ ap (λ (f : Fds). if stays n then held_of f n else None) same

turned : (b : Bool) (held : Option Held) → (if not b then held else None) ≡ (if b then None else held)
turned true held = refl
turned false held = refl

pub fds_closed : (old inside : Fds) (kept2 marked2 : List (ℕ × Thing)) (first last n : ℕ) → inside ≡ old
    → kept2 ≡ filter (λ (e : ℕ × Thing). not (in_range first last e.0)) inside.kept
    → marked2 ≡ filter (λ (e : ℕ × Thing). not (in_range first last e.0)) inside.marked
    → held_of (record { kept = kept2; marked = marked2 }) n ≡ (if in_range first last n then None else held_of old n)
fds_closed old inside kept2 marked2 first last n same out gone =
    fds_stay old inside kept2 marked2 (λ k. not (in_range first last k)) n same out gone ∙ turned (in_range first last n) (held_of old n)

pub fds_inherited : (old inside : Fds) (kept2 marked2 : List (ℕ × Thing)) (n : ℕ) → inside ≡ old
    → kept2 ≡ filter (λ (e : ℕ × Thing). nat_lt e.0 256) inside.kept → marked2 ≡ filter (λ (e : ℕ × Thing). nat_lt e.0 256) inside.marked
    → held_of (record { kept = kept2; marked = marked2 }) n ≡ inherited n (held_of old n)
fds_inherited old inside kept2 marked2 n same out gone = fds_stay old inside kept2 marked2 (λ k. nat_lt k 256) n same out gone

-- an exec leaves what stands in the first map
left_open : (k m : Option Thing) → first_held k None ≡ at_exec (first_held k m)
left_open (Some thing) m = refl
left_open None (Some thing) = refl
left_open None None = refl

pub fd_left : (old inside : Fds) (n : ℕ) → inside ≡ old → held_of (record { kept = inside.kept; marked = [] }) n ≡ at_exec (held_of old n)
fd_left old inside n same =
    left_open (lookup (is_same n) inside.kept) (lookup (is_same n) inside.marked) ∙ ap (λ (f : Fds). at_exec (held_of f n)) same
