-- Rows of a batch that stand on the disk one after the other.
use Rattle.std.proofs.Common.{◌≡◌, ◌∙◌, ℕ, zero, suc, ◌+◌, ◌*◌, ◌<◌, List, take, [], ◌∷◌, ◌++◌, length, get_or, map, refl, sym, ap, subst, arith, length-append}
use Rattle.std.specs.Prelude.{None}
use Rattle.std.specs.List.{flat_map}
use Rattle.std.proofs.lemmas.List.{take_more}
use Rattle.flow_base.specs.declared.types.How.TheVariants.{Fork}
use Rattle.reach_rows.specs.declared.rows.Mark.{Mark}
use Rattle.reach_rows.specs.declared.rows.Row.{Row}
use Rattle.reach_rows.specs.Packed.{with_last}
use Rattle.row_codec.specs.declared.rows.ExtendRow.{ExtendRow}
use Rattle.row_codec.specs.declared.rows.StoreRow.{StoreRow}
use Rattle.row_codec.specs.declared.rows.StoreRow.TheVariants.{Extend}
use Rattle.row_codec.specs.Rows.{row as spelling}
use Rattle.saved_rows.specs.Joining.{with_extends}
use Rattle.saved_rows.specs.Remembered.{with_mark}
use Rattle.saved_rows.specs.Saved.{AreSpelledFrom, HasRows, IsSpelledAt, Saved, as_kept, kept_row}
use Rattle.saved_rows.proofs.SpelledLemmas.{kept_long, extend_long}

pub marked_is : (i : ℕ) (m : Mark) (R : List Row) (d : Row) → with_last R i m d ≡ with_mark i m R
marked_is i m [] d = refl
marked_is zero m (r ∷ R) d = refl
marked_is (suc i) m (r ∷ R) d = ap (λ (S : List Row). r ∷ S) (marked_is i m R d)

pub marked_long : (i : ℕ) (m : Mark) (R : List Row) → length (with_mark i m R) ≡ length R
marked_long i m [] = refl
marked_long zero m (r ∷ R) = refl
marked_long (suc i) m (r ∷ R) = ap suc (marked_long i m R)

pub spelled_split : (bytes : List ℕ) (firm at : ℕ) (xs ys : List StoreRow) → AreSpelledFrom bytes firm at (xs ++ ys)
    → AreSpelledFrom bytes firm at xs × AreSpelledFrom bytes firm (at + length (flat_map spelling xs)) ys
spelled_split bytes firm at [] ys are = (tt, subst (λ (n : ℕ). AreSpelledFrom bytes firm n ys) (omega arith) are)
spelled_split bytes firm at (x ∷ xs) ys are =
    let rest = spelled_split bytes firm (at + length (spelling x)) xs ys are.1 in (
      (are.0, rest.0),
      subst (λ (n : ℕ). AreSpelledFrom bytes firm n ys) (omega (arith, length-append (spelling x) (flat_map spelling xs))) rest.1,
    )

pub all_kept_long : (R : List Row) → length (flat_map spelling (map as_kept R)) ≡ 46 * length R
all_kept_long [] = refl
all_kept_long (r ∷ R) = omega (arith, length-append (spelling (as_kept r)) (flat_map spelling (map as_kept R)), kept_long (kept_row r), all_kept_long R)

pub each_extend : (bytes : List ℕ) (firm at : ℕ) (extends : List ExtendRow) (i : ℕ) (d : ExtendRow) → AreSpelledFrom bytes firm at (map Extend extends) → i < length extends
    → IsSpelledAt bytes firm (at + 30 * i) (Extend (get_or extends i d))
each_extend bytes firm at [] i d are h = absurd (omega (arith, h))
each_extend bytes firm at (e ∷ extends) zero d are h = subst (λ n. IsSpelledAt bytes firm n (Extend e)) (omega arith) are.0
each_extend bytes firm at (e ∷ extends) (suc i) d are h =
    subst (λ n. IsSpelledAt bytes firm n (Extend (get_or extends i d))) (omega (arith, extend_long e))
    (each_extend bytes firm (at + length (spelling (Extend e))) extends i d are.1 (omega (arith, h)))

-- ---- Extend rows one by one

extends_push : (K : List Row) (ys : List ExtendRow) (e : ExtendRow) → with_extends K (ys ++ e ∷ []) ≡ with_mark e.row e.mark (with_extends K ys)
extends_push K [] e = refl
extends_push K (y ∷ ys) e = extends_push (with_mark y.row y.mark K) ys e

pub extends_long : (K : List Row) (ys : List ExtendRow) → length (with_extends K ys) ≡ length K
extends_long K [] = refl
extends_long K (y ∷ ys) = extends_long (with_mark y.row y.mark K) ys ∙ marked_long y.row y.mark K

pub more_extends : (K : List Row) (xs : List ExtendRow) (i : ℕ) (d : ExtendRow) (before after : List Row) → i < length xs → before ≡ with_extends K (take i xs)
    → after ≡ with_mark (get_or xs i d).row (get_or xs i d).mark before → after ≡ with_extends K (take (i + 1) xs)
more_extends K xs i d before after within so is =
    let e = get_or xs i d in
    is ∙ ap (with_mark e.row e.mark) so ∙ sym (ap (with_extends K) (take_more xs i d within) ∙ extends_push K (take i xs) e)

pub more_there : (bytes : List ℕ) (firm place : ℕ) (xs : List ExtendRow) (i : ℕ) (d : ExtendRow) (at : ℕ) (before next : Saved) (R after : List Row)
    → AreSpelledFrom bytes firm place (map Extend xs) → i < length xs → at ≡ place + 30 * i → before.cache.firm ≡ firm
    → (IsSpelledAt bytes before.cache.firm at (Extend (get_or xs i d)) → (q : Row) → HasRows bytes next (with_last R (get_or xs i d).row (get_or xs i d).mark q))
    → after ≡ with_mark (get_or xs i d).row (get_or xs i d).mark R → HasRows bytes next after
more_there bytes firm place xs i d at before next R after are within at_is firm_is add is =
    let e = get_or xs i d in
    let mark : Mark = record { at = record { ms = 0; place = 0 }; how = Fork; serial = 0 } in
    let q : Row = record { from = record { 0 = 0 }; to = record { 0 = 0 }; first = mark; last = mark; before_to = None; before_from = None } in
    let here = subst (λ (n : ℕ). IsSpelledAt bytes firm n (Extend e)) (sym at_is) (each_extend bytes firm place xs i d are within) in
    subst (HasRows bytes next) (marked_is e.row e.mark R q ∙ sym is) (add (subst (λ (f : ℕ). IsSpelledAt bytes f at (Extend e)) (sym firm_is) here) q)
