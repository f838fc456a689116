-- Rows that the bytes of a disk have, once more rows were put there.
use Rattle.std.proofs.Common.{◌≡◌, ◌≢◌, ◌∙◌, ℕ, zero, suc, ◌+◌, ◌-◌, ◌*◌, ◌<◌, ◌≤◌, List, [], ◌∷◌, ◌++◌, length, get_or, map, set, take, Option, Some, None, Err, inl, inr, sym, ap, subst, refl, arith}
use Rattle.std.specs.List.{All}
use Rattle.std.proofs.lemmas.Bool.{cases_eq, cases_lt}
use Rattle.std.proofs.lemmas.List.{get_or_append_left, get_or_push, get_or-set_same, get_or-set_other, length-append, length-set}
use Rattle.std.proofs.Math.Seq.{get_or-append_right}
use Rattle.block_cache.specs.Cached.{IsCacheOf}
use Rattle.block_cache.proofs.RangeLemmas.{range_before}
use Rattle.reach_rows.specs.declared.rows.Mark.{Mark}
use Rattle.reach_rows.specs.declared.rows.Row.{Row}
use Rattle.reach_rows.specs.declared.rows.RowFault.{RowFault}
use Rattle.reach_rows.specs.declared.rows.RowFault.TheVariants.{BadStore, StoreFault}
use Rattle.reach_rows.specs.Packed.{with_last}
use Rattle.row_codec.specs.declared.rows.KeptRow.{KeptRow}
use Rattle.row_codec.specs.declared.rows.StoreRow.{StoreRow}
use Rattle.row_codec.specs.declared.rows.StoreRow.TheVariants.{Extend}
use Rattle.row_codec.specs.Rows.{row as spelling}
use Rattle.saved_rows.specs.declared.runs.Run.{Run}
use Rattle.saved_rows.specs.Runs.{AreRuns, IsRunOf, KEPT, place_in}
use Rattle.saved_rows.specs.Saved.{AreEnds, AreSpelledFrom, Gives, HasLast, HasRows, IsSingle, IsSpelledAt, Saved, as_extend, as_kept, end_of, kept_row, with_firm}
use Rattle.saved_rows.proofs.SpelledLemmas.{kept_long}
use Rattle.saved_rows.proofs.RunLemmas.{run_before, run_last}

-- ---- bytes that read the same before the firm place

module _ (old new : List ℕ) (firm : ℕ) (same : take firm new ≡ take firm old) where
  still_spelled : (at : ℕ) (r : StoreRow) → IsSpelledAt old firm at r → IsSpelledAt new firm at r
  still_spelled at r is = record {
    fits = is.fits;
    is = range_before at (length (spelling r)) firm old new is.firmly same ∙ is.is;
    firmly = is.firmly;
  }

  still_last : (i : ℕ) (r : Row) (end : Option ℕ) → HasLast old firm i r end → HasLast new firm i r end
  still_last i r None is = is
  still_last i r (Some at) is = still_spelled at _ is

pub rows_stay : (old new : List ℕ) (saved : Saved) (R : List Row) → HasRows old saved R → take saved.cache.firm new ≡ take saved.cache.firm old → HasRows new saved R
rows_stay old new saved R has same = record {
  all = has.all;
  kept = λ i k d e h is. still_spelled old new saved.cache.firm same _ _ (has.kept i k d e h is);
  last = λ i d h. still_last old new saved.cache.firm same i (get_or R i d) (end_of saved.ends i) (has.last i d h);
  listed = has.listed;
}

-- ---- a later firm place

more_firm : (bytes : List ℕ) (firm more at : ℕ) (r : StoreRow) → firm ≤ more → IsSpelledAt bytes firm at r → IsSpelledAt bytes more at r
more_firm bytes firm more at r le is = record { fits = is.fits; is = is.is; firmly = omega (arith, is.firmly, le) }

firm_last : (bytes : List ℕ) (firm more i : ℕ) (r : Row) (end : Option ℕ) → firm ≤ more → HasLast bytes firm i r end → HasLast bytes more i r end
firm_last bytes firm more i r None le is = is
firm_last bytes firm more i r (Some at) le is = more_firm bytes firm more at _ le is

pub rows_raised : (bytes : List ℕ) (saved : Saved) (R : List Row) (firm : ℕ) → HasRows bytes saved R → saved.cache.firm ≤ firm
    → HasRows bytes (with_firm firm saved) R
rows_raised bytes saved R firm has le = record {
  all = has.all;
  kept = λ i k d e h is. more_firm bytes saved.cache.firm firm _ _ le (has.kept i k d e h is);
  last = λ i d h. firm_last bytes saved.cache.firm firm i (get_or R i d) (end_of saved.ends i) le (has.last i d h);
  listed = has.listed;
}

-- ---- more rows

each_kept : (bytes : List ℕ) (firm at : ℕ) (added : List Row) (j : ℕ) (d : Row) → AreSpelledFrom bytes firm at (map as_kept added) → j < length added
    → IsSpelledAt bytes firm (at + KEPT * j) (as_kept (get_or added j d))
each_kept bytes firm at [] j d are h = absurd (omega (arith, h))
each_kept bytes firm at (r ∷ added) zero d are h = subst (λ n. IsSpelledAt bytes firm n (as_kept r)) (omega arith) are.0
each_kept bytes firm at (r ∷ added) (suc j) d are h =
    let long = kept_long (kept_row r) in
    subst (λ n. IsSpelledAt bytes firm n (as_kept (get_or added j d))) (omega (arith, long)) (each_kept bytes firm (at + length (spelling (as_kept r))) added j d are.1 (omega (arith, h)))

single_last : (bytes : List ℕ) (firm i : ℕ) (r : Row) (end : Option ℕ) → end ≡ None → IsSingle r → HasLast bytes firm i r end
single_last bytes firm i r None none single = single
single_last bytes firm i r (Some at) some single = absurd (cc)

-- the rows that stand in a run of their own, which is put after the others
pub rows_added : (bytes : List ℕ) (saved : Saved) (R added : List Row) (r : Run) (new : Saved) → HasRows bytes saved R → AreRuns saved.count saved.runs
    → r.first ≡ saved.count → All IsSingle added → AreSpelledFrom bytes saved.cache.firm r.place (map as_kept added)
    → new.runs ≡ saved.runs ++ r ∷ [] → new.count ≡ saved.count + length added → new.ends ≡ saved.ends → new.cache ≡ saved.cache → HasRows bytes new (R ++ added)
rows_added bytes saved R added r new has are at single spelled runs count ends cache =
    let all = length-append R added in
    record {
      all = omega (arith, count, has.all, all);
      kept = λ i k d e h is. subst (λ f. IsSpelledAt bytes f (place_in (get_or new.runs k e) i) (as_kept (get_or (R ++ added) i d))) (ap (λ c. c.firm) (sym cache))
          (subst (λ xs. IsSpelledAt bytes saved.cache.firm (place_in (get_or xs k e) i) (as_kept (get_or (R ++ added) i d))) (sym runs)
          (one i k d e h (subst (λ xs. IsRunOf xs i k) runs is)));
      last = λ i d h. subst (λ f. HasLast bytes f i (get_or (R ++ added) i d) (end_of new.ends i)) (ap (λ c. c.firm) (sym cache))
          (subst (λ es. HasLast bytes saved.cache.firm i (get_or (R ++ added) i d) (end_of es i)) (sym ends) (its_last i d h));
      listed = λ i h. ap (λ es. end_of es i) ends ∙ has.listed i (omega (arith, h, all));
    }
  where
    one : (i k : ℕ) (d : Row) (e : Run) → i < length (R ++ added) → IsRunOf (saved.runs ++ r ∷ []) i k
        → IsSpelledAt bytes saved.cache.firm (place_in (get_or (saved.runs ++ r ∷ []) k e) i) (as_kept (get_or (R ++ added) i d))
    one i k d e h is = elim (cases_lt i (length R)) [
      | inl low ↦ let old = run_before saved.runs r saved.count are.begun at i k (omega (arith, low, has.all)) is in
          subst (λ (x : Run). IsSpelledAt bytes saved.cache.firm (place_in x i) (as_kept (get_or (R ++ added) i d))) (sym (get_or_append_left saved.runs (r ∷ []) e k old.within))
          (subst (λ (x : Row). IsSpelledAt bytes saved.cache.firm (place_in (get_or saved.runs k e) i) (as_kept x)) (sym (get_or_append_left R added d i low)) (has.kept i k d e low old))
      | inr late ↦ let last = run_last saved.runs r saved.count are.begun at i k (omega (arith, late, has.all)) is in
          let here : r.place + KEPT * (i - length R) ≡ place_in r i = ap (λ n. r.place + KEPT * (i - n)) (sym has.all ∙ sym at) in
          subst (λ (x : Run). IsSpelledAt bytes saved.cache.firm (place_in x i) (as_kept (get_or (R ++ added) i d))) (sym (get_or_push saved.runs r e k last))
          (subst (λ n. IsSpelledAt bytes saved.cache.firm n (as_kept (get_or (R ++ added) i d))) here
          (subst (λ (x : Row). IsSpelledAt bytes saved.cache.firm (r.place + KEPT * (i - length R)) (as_kept x)) (sym (get_or-append_right R added i d late))
          (each_kept bytes saved.cache.firm r.place added (i - length R) d spelled (omega (arith, h, late, length-append R added)))))
    ]

    its_last : (i : ℕ) (d : Row) → i < length (R ++ added) → HasLast bytes saved.cache.firm i (get_or (R ++ added) i d) (end_of saved.ends i)
    its_last i d h = elim (cases_lt i (length R)) [
      | inl low ↦ subst (λ (x : Row). HasLast bytes saved.cache.firm i x (end_of saved.ends i)) (sym (get_or_append_left R added d i low)) (has.last i d low)
      | inr late ↦ single_last bytes saved.cache.firm i (get_or (R ++ added) i d) (end_of saved.ends i) (has.listed i late)
          (subst IsSingle (sym (get_or-append_right R added i d late)) (single (i - length R) d (omega (arith, h, late, length-append R added))))
    ]

-- ---- a row that was extended

found_last : (bytes : List ℕ) (firm i at : ℕ) (r : Row) (end : Option ℕ) → end ≡ Some at → IsSpelledAt bytes firm at (Extend (record { row = i; mark = r.last })) → HasLast bytes firm i r end
found_last bytes firm i at r None some is = absurd (cc)
found_last bytes firm i at r (Some a) some is = subst (λ (o : Option ℕ). HasLast bytes firm i r o) (sym some) is

pub rows_extended : (bytes : List ℕ) (saved new : Saved) (R : List Row) (row place : ℕ) (mark : Mark) (d : Row) → HasRows bytes saved R → row < length R
    → IsSpelledAt bytes saved.cache.firm place (Extend (record { row = row; mark = mark }))
    → end_of new.ends row ≡ Some place → ((i : ℕ) → i ≢ row → end_of new.ends i ≡ end_of saved.ends i)
    → new.runs ≡ saved.runs → new.count ≡ saved.count → new.cache ≡ saved.cache → HasRows bytes new (with_last R row mark d)
rows_extended bytes saved new R row place mark d has within is here others runs count cache =
    let changed : Row = record (get_or R row d) { last = mark } in
    record {
      all = count ∙ has.all ∙ sym (length-set R row changed);
      kept = λ i k e f h run. subst (λ n. IsSpelledAt bytes n (place_in (get_or new.runs k f) i) (as_kept (get_or (set R row changed) i e))) (ap (λ c. c.firm) (sym cache))
          (subst (λ xs. IsSpelledAt bytes saved.cache.firm (place_in (get_or xs k f) i) (as_kept (get_or (set R row changed) i e))) (sym runs)
          (one changed refl i k e f (subst (λ n. i < n) (length-set R row changed) h) (subst (λ xs. IsRunOf xs i k) runs run)));
      last = λ i e h. subst (λ n. HasLast bytes n i (get_or (set R row changed) i e) (end_of new.ends i)) (ap (λ c. c.firm) (sym cache))
          (its_last i e (subst (λ n. i < n) (length-set R row changed) h));
      listed = λ i h. let late : length R ≤ i = subst (λ n. n ≤ i) (length-set R row changed) h in
          others i (λ e. absurd (omega (arith, e, within, late))) ∙ has.listed i late;
    }
  where
    one : (changed : Row) → changed ≡ record (get_or R row d) { last = mark } → (i k : ℕ) (e : Row) (f : Run) → i < length R → IsRunOf saved.runs i k
        → IsSpelledAt bytes saved.cache.firm (place_in (get_or saved.runs k f) i) (as_kept (get_or (set R row changed) i e))
    one changed made i k e f h run = elim (cases_eq i row) [
      | inl same ↦ let it : get_or (set R row changed) i e ≡ changed = ap (λ n. get_or (set R row changed) n e) same ∙ get_or-set_same R row changed e within in
          let was : get_or R i d ≡ get_or R row d = ap (λ n. get_or R n d) same in
          subst (λ (x : StoreRow). IsSpelledAt bytes saved.cache.firm (place_in (get_or saved.runs k f) i) x) (ap as_kept was ∙ sym (ap as_kept (it ∙ made))) (has.kept i k d f h run)
      | inr other ↦ subst (λ (x : Row). IsSpelledAt bytes saved.cache.firm (place_in (get_or saved.runs k f) i) (as_kept x)) (sym (get_or-set_other R row i changed e other)) (has.kept i k e f h run)
    ]

    its_last : (i : ℕ) (e : Row) → i < length R → HasLast bytes saved.cache.firm i (get_or (with_last R row mark d) i e) (end_of new.ends i)
    its_last i e h =
        let changed : Row = record (get_or R row d) { last = mark } in
        elim (cases_eq i row) [
          | inl same ↦ let it : get_or (set R row changed) i e ≡ changed = ap (λ n. get_or (set R row changed) n e) same ∙ get_or-set_same R row changed e within in
              subst (λ (x : Row). HasLast bytes saved.cache.firm i x (end_of new.ends i)) (sym it)
              (found_last bytes saved.cache.firm i place changed (end_of new.ends i) (ap (end_of new.ends) same ∙ here) (subst (λ n. IsSpelledAt bytes saved.cache.firm place (Extend (record { row = n; mark = mark }))) (sym same) is))
          | inr other ↦ subst (λ (x : Row). HasLast bytes saved.cache.firm i x (end_of new.ends i)) (sym (get_or-set_other R row i changed e other))
              (subst (λ (o : Option ℕ). HasLast bytes saved.cache.firm i (get_or R i e) o) (sym (others i other)) (has.last i e h))
        ]

-- ---- a row that was read

-- a fault that is no bad place
pub fault_gives : {A : Type 0} (e : RowFault) (a : A) → ((place : ℕ) → e ≡ BadStore place → ⊥) → Gives (Err e) a
fault_gives StoreFault a never = tt
fault_gives (BadStore place) a never = absurd (never place refl)

-- what is said of a fault of one reading is said of it in another
pub fault_same : {A B : Type 0} (e : RowFault) (a : A) (b : B) → Gives {T = A} (Err e) a → Gives {T = B} (Err e) b
fault_same StoreFault a b g = tt
fault_same (BadStore place) a b g = absurd g

-- a place at which the Kept row of a row is looked for
abbrev pub IsPlaced : List Run → ℕ → ℕ → Type 0
IsPlaced runs index place = (k : ℕ) × IsRunOf runs index k × ((d : Run) → place ≡ place_in (get_or runs k d) index)

-- it stands where it is looked for
pub row_there : (bytes : List ℕ) (saved : Saved) (R : List Row) (place index : ℕ) (d : Row) → HasRows bytes saved R → index < saved.count
    → IsPlaced saved.runs index place → IsSpelledAt bytes saved.cache.firm place (as_kept (get_or R index d))
row_there bytes saved R place index d has h found =
    let k = found.0 in
    let e : Run = record { first = 0; place = 0 } in
    subst (λ (n : ℕ). IsSpelledAt bytes saved.cache.firm n (as_kept (get_or R index d))) (sym (found.2 e))
    (has.kept index k d e (omega (arith, h, has.all)) found.1)

-- the row by its Kept row and its last mark
pub row_read : (r : Row) (kept : KeptRow) (last : Mark) → kept ≡ kept_row r → last ≡ r.last
    → record { from = kept.from; to = kept.to; first = kept.mark; last = last; before_to = kept.before_to; before_from = kept.before_from } ≡ r
row_read r kept last is ends = λ i. record { from = (is i).from; to = (is i).to; first = (is i).mark; last = ends i; before_to = (is i).before_to; before_from = (is i).before_from }

-- what is said of a row's end by the place that is listed
pub end_some : (bytes : List ℕ) (firm i at : ℕ) (r : Row) (end : Option ℕ) → end ≡ Some at → HasLast bytes firm i r end → IsSpelledAt bytes firm at (as_extend i r)
end_some bytes firm i at r None some has = absurd (cc)
end_some bytes firm i at r (Some a) some has = subst (λ (o : Option ℕ). HasLast bytes firm i r o) some has

-- ---- no rows

pub no_blocks : (bytes : List ℕ) (firm : ℕ) → IsCacheOf bytes (record { blocks = []; firm = firm })
no_blocks bytes firm = λ n held there. absurd (omega (arith, there.1))

pub no_rows : (bytes : List ℕ) (saved : Saved) → saved.count ≡ 0 → saved.ends ≡ [] → HasRows bytes saved []
no_rows bytes saved none ends = record {
  all = none;
  kept = λ i k d e h is. absurd (omega (arith, h));
  last = λ i d h. absurd (omega (arith, h));
  listed = λ i h. ap (λ es. end_of es i) ends;
}

pub no_ends : (count : ℕ) → AreEnds count []
no_ends count = λ i at some. absurd (cc)
