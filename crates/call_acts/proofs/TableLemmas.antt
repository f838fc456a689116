-- The row that has a number, where the numbers of the rows ascend.
use Rattle.std.proofs.Common.{◌≡◌, ◌≢◌, ◌<◌, ◌≤◌, ◌+◌, ◌==◌, ◌∙◌, refl, sym, ap, ℕ, true, List, [], ◌∷◌, ◌++◌, Option, None, Some, if◌then◌else◌, length, take, drop, get_or, slice_index_or, arith}
use Rattle.std.proofs.lemmas.Bool.{and_parts, and_from, ltb-true, eq-eqb, ne_eqb, cond-true, cond-false}
use Rattle.std.proofs.lemmas.List.{drop_more, take-append-drop}
use Rattle.call_acts.specs.declared.calls.Row.{Row}
use Rattle.call_acts.specs.Calls.{ascend, row_with}

pub ascend_rest : (row : Row) (rows : List Row) → ascend (row ∷ rows) ≡ true → ascend rows ≡ true
ascend_rest row [] is = refl
ascend_rest row (next ∷ rows) is = (and_parts _ _ is).1

pub ascend_front : (front rows : List Row) → ascend (front ++ rows) ≡ true → ascend front ≡ true
ascend_front [] rows is = refl
ascend_front (row ∷ []) rows is = refl
ascend_front (row ∷ next ∷ front) rows is =
    let parts = and_parts _ _ is in and_from _ _ parts.0 (ascend_front (next ∷ front) rows parts.1)

pub ascend_back : (front rows : List Row) → ascend (front ++ rows) ≡ true → ascend rows ≡ true
ascend_back [] rows is = is
ascend_back (row ∷ front) rows is = ascend_back front rows (ascend_rest row (front ++ rows) is)

-- each row has a smaller number than a row after it
first_less : (row : Row) (front : List Row) (next : Row) (rows : List Row) → ascend (row ∷ front ++ next ∷ rows) ≡ true → row.number < next.number
first_less row [] next rows is = ltb-true _ _ (and_parts _ _ is).0
first_less row (second ∷ front) next rows is =
    let parts = and_parts _ _ is in
    omega (arith, ltb-true row.number second.number parts.0, first_less second front next rows parts.1)

-- a row of another number isn't the one
passes_by : (number : ℕ) (row : Row) (rows : List Row) → row.number ≢ number → row_with number (row ∷ rows) ≡ row_with number rows
passes_by number row rows other = cond-false (row.number == number) (Some row) (row_with number rows) (ne_eqb row.number number other)

none_before : (number : ℕ) (next : Row) (rows : List Row) → ascend (next ∷ rows) ≡ true → number < next.number → row_with number (next ∷ rows) ≡ None
none_before number next [] is less = passes_by number next [] (λ same. omega (arith, same, less))
none_before number next (second ∷ rows) is less =
    let parts = and_parts _ _ is in
    let after : number < second.number = omega (arith, ltb-true next.number second.number parts.0, less) in
    passes_by number next (second ∷ rows) (λ same. omega (arith, same, less)) ∙ none_before number second rows parts.1 after

-- a smaller number stands before a row
pub stands_before : (number : ℕ) (front : List Row) (next : Row) (rows : List Row) → ascend (front ++ next ∷ rows) ≡ true → number < next.number → row_with number front ≡ row_with number (front ++ next ∷ rows)
stands_before number [] next rows is less = sym (none_before number next rows is less)
stands_before number (row ∷ front) next rows is less =
    ap (λ (found : Option Row). if row.number == number then Some row else found)
    (stands_before number front next rows (ascend_rest row (front ++ next ∷ rows) is) less)

-- the number of a row, and a greater one, stand from that row on
pub stands_from : (number : ℕ) (front : List Row) (next : Row) (rows : List Row) → ascend (front ++ next ∷ rows) ≡ true → next.number ≤ number → row_with number (next ∷ rows) ≡ row_with number (front ++ next ∷ rows)
stands_from number [] next rows is most = refl
stands_from number (row ∷ front) next rows is most =
    let less = first_less row front next rows is in
    stands_from number front next rows (ascend_rest row (front ++ next ∷ rows) is) most
    ∙ sym (passes_by number row (front ++ next ∷ rows) (λ same. omega (arith, same, less, most)))

-- the rows before a place, the row at it, and the rows after it
parted : (rows : List Row) (k : ℕ) (row : Row) → k < length rows → get_or rows k row ≡ row → take k rows ++ row ∷ drop (k + 1) rows ≡ rows
parted rows k row within is =
    ap (λ (here : Row). take k rows ++ here ∷ drop (k + 1) rows) (sym is)
    ∙ ap (λ (rest : List Row). take k rows ++ rest) (sym (drop_more rows k row within))
    ∙ take-append-drop k rows

-- a row is that of its number, at whatever place it stands
pub stands_at : (number k : ℕ) (rows : List Row) (row : Row) → ascend rows ≡ true → k < length rows → row ≡ get_or rows k row → row.number ≡ number → row_with number rows ≡ Some row
stands_at number k rows row is within found same =
    let split = parted rows k row within (sym found) in
    ap (row_with number) (sym split)
    ∙ sym (stands_from number (take k rows) row (drop (k + 1) rows) (ap ascend split ∙ is) (omega (arith, same)))
    ∙ cond-true (row.number == number) (Some row) (row_with number (drop (k + 1) rows)) (eq-eqb row.number number same)

-- ---- the halves of the rows

pub take_ascends : (k : ℕ) (rows : List Row) → ascend rows ≡ true → ascend (take k rows) ≡ true
take_ascends k rows is =
    ascend_front (take k rows) (drop k rows) (ap ascend (take-append-drop k rows) ∙ is)

pub drop_ascends : (k : ℕ) (rows : List Row) → ascend rows ≡ true → ascend (drop k rows) ≡ true
drop_ascends k rows is =
    ascend_back (take k rows) (drop k rows) (ap ascend (take-append-drop k rows) ∙ is)

-- a number smaller than the first of the second half is in the first half
pub in_front : (number : ℕ) (front back rows : List Row) (missing : Row) → ascend rows ≡ true → front ++ back ≡ rows → 0 < length back → number < (slice_index_or back 0 missing).number → row_with number front ≡ row_with number rows
in_front number front [] rows missing is both some less = absurd (omega (arith, some))
in_front number front (next ∷ back) rows missing is both some less =
    stands_before number front next back (ap ascend both ∙ is) less ∙ ap (row_with number) both

-- another number is in the second half
pub in_back : (number : ℕ) (front back rows : List Row) (missing : Row) → ascend rows ≡ true → front ++ back ≡ rows → 0 < length back → (slice_index_or back 0 missing).number ≤ number → row_with number back ≡ row_with number rows
in_back number front [] rows missing is both some most = absurd (omega (arith, some))
in_back number front (next ∷ back) rows missing is both some most =
    stands_from number front next back (ap ascend both ∙ is) most ∙ ap (row_with number) both
