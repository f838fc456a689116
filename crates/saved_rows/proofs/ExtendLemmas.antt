-- The rows that were extended since the last commit, and their Extend rows.
use Rattle.std.proofs.Common.{◌≡◌, ◌≢◌, ◌∙◌, ◌||◌, ℕ, suc, ◌+◌, ◌<◌, ◌≤◌, true, false, true≢false, List, [], ◌∷◌, ◌++◌, length, get_or, take, Option, Some, None, inl, inr, refl, sym, ap, subst, arith}
use Rattle.std.specs.Prelude.{nat_eq, is_some}
use Rattle.std.specs.Cmp.{nat_eq_equiv}
use Rattle.std.specs.List.{All, AllByRecursion, IsDistinct, flat_map, list_any}
use Rattle.std.specs.List.Sorted.{IsNonDecreasing, IsPermutation}
use Rattle.std.specs.Map.{keys_of}
use Rattle.std.proofs.lemmas.Bool.{cases_eq, eq-eqb, ne_eqb}
use Rattle.std.proofs.lemmas.List.{append-nil, append_assoc, length-append, take_all, take_more}
use Rattle.std.proofs.lemmas.List.Concat.{flat_map-append}
use Rattle.std.proofs.lemmas.List.Elements.{All-append, All-push}
use Rattle.std.proofs.lemmas.List.Sorted.{list_any-IsPermutation}
use Rattle.std.proofs.lemmas.Map.Keys.{IsDistinct-head, IsDistinct-tail, IsDistinct-IsPermutation}
use Rattle.std.proofs.lemmas.Map.Made.{is_some-lookup}
use Rattle.reach_rows.specs.declared.rows.Mark.{Mark}
use Rattle.reach_rows.specs.declared.rows.Row.{Row}
use Rattle.row_codec.specs.declared.rows.ExtendRow.{ExtendRow}
use Rattle.saved_rows.specs.Joining.{AreListed, Ascend, extend_of, extends_in, mark_in, renew, renew_from, with_extends}
use Rattle.saved_rows.specs.Remembered.{with_mark}

abbrev Least : ℕ → List ℕ → Type 0
Least i ks = AllByRecursion (λ k. i ≤ k) ks

above : (i : ℕ) (ks : List ℕ) → AllByRecursion (λ k. i < k) ks → Least (suc i) ks
above i [] all = tt
above i (k ∷ ks) all = (omega (arith, all.0), above i ks all.1)

later : (i k : ℕ) (ks : List ℕ) → i < k → AllByRecursion (λ n. k < n) ks → Least (suc i) ks
later i k [] low all = tt
later i k (n ∷ ks) low all = (omega (arith, low, all.0), later i k ks low all.1)

none_below : (i j : ℕ) (ks : List ℕ) → j < i → Least i ks → list_any (nat_eq j) ks ≡ false
none_below i j [] low all = refl
none_below i j (k ∷ ks) low all = ap (λ b. b || list_any (nat_eq j) ks) (ne_eqb j k (λ e. absurd (omega (arith, e, low, all.0)))) ∙ none_below i j ks low all.1

no_mark : (m : Option Mark) → false ≡ is_some m → m ≡ None
no_mark None e = refl
no_mark (Some mark) e = absurd (true≢false (sym e))

is_there : (m : Option Mark) → m ≡ None → true ≡ is_some m → ⊥
is_there m none e = true≢false (e ∙ ap is_some none)

-- the Extend rows of the rows from an index on, if the rows that are extended from there on are these
pub listed_extends : (find : ℕ → Option Mark) (i : ℕ) (R : List Row) (ks : List ℕ) → Ascend ks → Least i ks
    → ((j : ℕ) → i ≤ j → list_any (nat_eq j) ks ≡ is_some (find j)) → ((j : ℕ) → i + length R ≤ j → find j ≡ None)
    → extends_in find i R ≡ flat_map (λ k. extend_of (find k) k) ks
listed_extends find i [] [] up least all ends = refl
listed_extends find i [] (k ∷ ks) up least all ends =
    absurd (is_there (find k) (ends k (omega (arith, least.0))) (ap (λ b. b || list_any (nat_eq k) ks) (sym (eq-eqb k k refl)) ∙ all k (omega (arith, least.0))))
listed_extends find i (r ∷ R) [] up least all ends =
    let none : find i ≡ None = no_mark (find i) (all i (omega arith)) in
    ap (λ m. extend_of m i ++ extends_in find (suc i) R) none
    ∙ listed_extends find (suc i) R [] tt tt (λ j le. all j (omega (arith, le))) (λ j le. ends j (omega (arith, le)))
listed_extends find i (r ∷ R) (k ∷ ks) up least all ends = elim (cases_eq k i) [
  | inl e ↦ (
      ap (λ n. extend_of (find n) n ++ extends_in find (suc i) R) (sym e)
      ∙ ap (λ xs. extend_of (find k) k ++ xs) (listed_extends find (suc i) R ks up.1 (subst (λ n. Least (suc n) ks) e (above k ks up.0)) (λ j le. sym (ap (λ b. b || list_any (nat_eq j) ks) (ne_eqb j k (λ s. absurd (omega (arith, s, e, le))))) ∙ all j (omega (arith, le))) (λ j le. ends j (omega (arith, le))))
      )
  | inr apart ↦ (
      let low : i < k = omega (arith, apart, least.0) in
      let from : Least (suc i) (k ∷ ks) = (omega (arith, low), later i k ks low up.0) in
      let none : find i ≡ None = no_mark (find i) (sym (none_below (suc i) i (k ∷ ks) (omega arith) from) ∙ all i (omega arith)) in
      ap (λ m. extend_of m i ++ extends_in find (suc i) R) none
      ∙ listed_extends find (suc i) R (k ∷ ks) up from (λ j le. all j (omega (arith, le))) (λ j le. ends j (omega (arith, le)))
      )
]

pub from_zero : (ks : List ℕ) → Least 0 ks
from_zero [] = tt
from_zero (k ∷ ks) = (omega arith, from_zero ks)

-- sorted rows that differ ascend
all_above : (x : ℕ) (xs : List ℕ) → ((j : ℕ) → j < length xs → x ≤ get_or xs j 0) → AllByRecursion (λ y. nat_eq x y ≡ false) xs → AllByRecursion (λ y. x < y) xs
all_above x [] low apart = tt
all_above x (y ∷ xs) low apart =
    let differ : x ≢ y = λ e. true≢false (sym (eq-eqb x y e) ∙ apart.0) in
    let first : x ≤ y = low 0 (omega arith) in
    (omega (arith, differ, first), all_above x xs (λ j h. low (suc j) (omega (arith, h))) apart.1)

pub ascends_distinct : (xs : List ℕ) → IsNonDecreasing xs → IsDistinct nat_eq xs → Ascend xs
ascends_distinct [] up apart = tt
ascends_distinct (x ∷ xs) up apart = (
  all_above x xs (λ j h. up 0 (suc j) 0 (omega arith) (omega (arith, h))) (IsDistinct-head nat_eq x xs apart),
  ascends_distinct xs (λ i j d le h. up (suc i) (suc j) d (omega (arith, le)) (omega (arith, h))) (IsDistinct-tail nat_eq x xs apart),
)

-- the rows of a table, sorted
pub are_listed : (entries : List (ℕ × Mark)) (ks : List ℕ) → IsDistinct nat_eq (keys_of entries) → IsPermutation (keys_of entries) ks → IsNonDecreasing ks → AreListed (mark_in entries) ks
are_listed entries ks apart same up = record {
  ascend = ascends_distinct ks up (IsDistinct-IsPermutation nat_eq flips (keys_of entries) ks same apart);
  each = λ i. sym (list_any-IsPermutation (nat_eq i) (keys_of entries) ks same) ∙ sym (is_some-lookup (nat_eq i) entries);
}
  where
    flips : (x y : ℕ) → nat_eq x y ≡ nat_eq y x
    flips = nat_eq_equiv.symm

-- the Extend rows of one row more
pub extends_more : (f : ℕ → List ExtendRow) (ks : List ℕ) (i : ℕ) (before after : List ExtendRow) → i < length ks → before ≡ flat_map f (take i ks) → after ≡ before ++ f (get_or ks i 0) → after ≡ flat_map f (take (i + 1) ks)
extends_more f ks i before after within so is =
    is ∙ ap (λ (xs : List ExtendRow). xs ++ f (get_or ks i 0)) so
    ∙ sym (ap (flat_map f) (take_more ks i 0 within) ∙ flat_map-append f (take i ks) (get_or ks i 0 ∷ []) ∙ ap (λ (xs : List ExtendRow). flat_map f (take i ks) ++ xs) (append-nil (f (get_or ks i 0))))

-- the Extend rows of all of them
pub extends_all : (f : ℕ → List ExtendRow) (ks : List ℕ) (i : ℕ) (now : List ExtendRow) → length ks ≤ i → now ≡ flat_map f (take i ks) → now ≡ flat_map f ks
extends_all f ks i now end so = so ∙ ap (flat_map f) (take_all i ks end)

-- ---- what they make of the rows

marked_here : (P : List Row) (mark : Mark) (r : Row) (R : List Row) → with_mark (length P) mark (P ++ r ∷ R) ≡ P ++ record r { last = mark } ∷ R
marked_here [] mark r R = refl
marked_here (p ∷ P) mark r R = ap (λ (S : List Row). p ∷ S) (marked_here P mark r R)

module _ (find : ℕ → Option Mark) where
  rest_made : (P : List Row) (x : Row) (R : List Row) → ((Q : List Row) → with_extends (Q ++ R) (extends_in find (length Q) R) ≡ Q ++ renew_from find (length Q) R)
      → with_extends (P ++ x ∷ R) (extends_in find (suc (length P)) R) ≡ P ++ x ∷ renew_from find (suc (length P)) R
  rest_made P x R made =
      let long : suc (length P) ≡ length (P ++ x ∷ []) = omega (arith, length-append P (x ∷ [])) in
      ap (λ (S : List Row). with_extends S (extends_in find (suc (length P)) R)) (sym (append_assoc P (x ∷ []) R))
      ∙ ap (λ (n : ℕ). with_extends ((P ++ x ∷ []) ++ R) (extends_in find n R)) long
      ∙ made (P ++ x ∷ [])
      ∙ ap (λ (n : ℕ). (P ++ x ∷ []) ++ renew_from find n R) (sym long)
      ∙ append_assoc P (x ∷ []) (renew_from find (suc (length P)) R)

  one_made : (P : List Row) (r : Row) (R : List Row) → ((Q : List Row) → with_extends (Q ++ R) (extends_in find (length Q) R) ≡ Q ++ renew_from find (length Q) R)
      → (m : Option Mark) → with_extends (P ++ r ∷ R) (extend_of m (length P) ++ extends_in find (suc (length P)) R) ≡ P ++ renew m r ∷ renew_from find (suc (length P)) R
  one_made P r R made None = rest_made P r R made
  one_made P r R made (Some mark) =
      ap (λ (S : List Row). with_extends S (extends_in find (suc (length P)) R)) (marked_here P mark r R)
      ∙ rest_made P (record r { last = mark }) R made

  pub extends_make : (P R : List Row) → with_extends (P ++ R) (extends_in find (length P) R) ≡ P ++ renew_from find (length P) R
  extends_make P [] = refl
  extends_make P (r ∷ R) = one_made P r R (λ Q. extends_make Q R) (find (length P))

-- each is of a row that is there
one_known : (i n : ℕ) (m : Option Mark) → i < n → All (λ (e : ExtendRow). e.row < n) (extend_of m i)
one_known i n None low = λ j d h. absurd (omega (arith, h))
one_known i n (Some mark) low = All-push (λ (e : ExtendRow). e.row < n) [] (record { row = i; mark = mark }) (λ j d h. absurd (omega (arith, h))) low

pub extends_known : (find : ℕ → Option Mark) (i n : ℕ) (R : List Row) → i + length R ≤ n → All (λ (e : ExtendRow). e.row < n) (extends_in find i R)
extends_known find i n [] le = λ j d h. absurd (omega (arith, h))
extends_known find i n (r ∷ R) le =
    All-append (λ (e : ExtendRow). e.row < n) (extend_of (find i) i) (extends_in find (suc i) R) (one_known i n (find i) (omega (arith, le))) (extends_known find (suc i) n R (omega (arith, le)))
