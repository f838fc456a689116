-- Runs of Kept rows, after one more run.
use Rattle.std.proofs.Common.{◌≡◌, ◌∙◌, ℕ, suc, ◌+◌, ◌*◌, ◌<◌, ◌≤◌, ◌^◌, List, [], ◌∷◌, ◌++◌, length, get_or, inl, inr, sym, ap, subst, arith}
use Rattle.std.proofs.lemmas.Bool.{cases_eq, cases_lt}
use Rattle.std.proofs.lemmas.List.{get_or_append_left, get_or_push, length-append}
use Rattle.saved_rows.specs.declared.runs.Run.{Run}
use Rattle.saved_rows.specs.Runs.{AreRuns, IsRunOf, KEPT, place_in}

-- where a row's run is once a run was put after the others, which begins at the row of index count
module _ (runs : List Run) (r : Run) (count : ℕ) (begun : (k : ℕ) (d : Run) → k < length runs → (get_or runs k d).first ≤ count) (at : r.first ≡ count) where
  pub run_before : (i k : ℕ) → i < count → IsRunOf (runs ++ r ∷ []) i k → IsRunOf runs i k
  run_before i k low is =
      let all = length-append runs (r ∷ []) in
      elim (cases_lt k (length runs)) [
        | inl h ↦ record {
          within = h;
          begun = λ d. subst (λ (x : Run). x.first ≤ i) (get_or_append_left runs (r ∷ []) d k h) (is.begun d);
          before = λ d next. subst (λ (x : Run). i < x.first) (get_or_append_left runs (r ∷ []) d (suc k) next) (is.before d (omega (arith, next, all)));
        }
        | inr h ↦ let last : length runs ≡ k = omega (arith, h, is.within, all) in
            let first : r.first ≤ i = subst (λ (x : Run). x.first ≤ i) (get_or_push runs r r k last) (is.begun r) in
            absurd (omega (arith, first, at, low))
      ]

  pub run_last : (i k : ℕ) → count ≤ i → IsRunOf (runs ++ r ∷ []) i k → length runs ≡ k
  run_last i k late is =
      let all = length-append runs (r ∷ []) in
      elim (cases_lt k (length runs)) [
        | inl h ↦ elim (cases_lt (suc k) (length runs)) [
          | inl next ↦ let before : i < (get_or runs (suc k) r).first = subst (λ (x : Run). i < x.first) (get_or_append_left runs (r ∷ []) r (suc k) next) (is.before r (omega (arith, next, all))) in
              absurd (omega (arith, before, begun (suc k) r next, late))
          | inr end ↦ let last : length runs ≡ suc k = omega (arith, h, end) in
              let before : i < r.first = subst (λ (x : Run). i < x.first) (get_or_push runs r r (suc k) last) (is.before r (omega (arith, all, last))) in
              absurd (omega (arith, before, at, late))
        ]
        | inr h ↦ omega (arith, h, is.within, all)
      ]

-- the runs of more rows
pub more_runs : (runs : List Run) (r : Run) (count more : ℕ) → AreRuns count runs → r.first ≡ count → r.place + KEPT * more < 2 ^ 64 → AreRuns (count + more) (runs ++ r ∷ [])
more_runs runs r count more are at fits =
    let all = length-append runs (r ∷ []) in
    record {
      some = λ any. omega (arith, all);
      first = λ d any. (elim (cases_eq count 0) [
        | inl none ↦ (elim (cases_eq (length runs) 0) [
          | inl empty ↦ subst (λ (x : Run). x.first ≡ 0) (sym (get_or_push runs r d 0 empty)) (at ∙ none)
          | inr is ↦ let h : 0 < length runs = omega (arith, is) in
              subst (λ (x : Run). x.first ≡ 0) (sym (get_or_append_left runs (r ∷ []) d 0 h)) (omega (arith, are.begun 0 d h, none))
        ])
        | inr is ↦ let h : 0 < length runs = are.some (omega (arith, is)) in
            subst (λ (x : Run). x.first ≡ 0) (sym (get_or_append_left runs (r ∷ []) d 0 h)) (are.first d (omega (arith, is)))
      ]);
      begun = λ k d h. (elim (cases_lt k (length runs)) [
        | inl low ↦ subst (λ (x : Run). x.first ≤ count + more) (sym (get_or_append_left runs (r ∷ []) d k low)) (omega (arith, are.begun k d low))
        | inr end ↦ let last : length runs ≡ k = omega (arith, h, end, all) in
            subst (λ (x : Run). x.first ≤ count + more) (sym (get_or_push runs r d k last)) (omega (arith, at))
      ]);
      fit = λ i k d h is. (elim (cases_lt i count) [
        | inl low ↦ let old = run_before runs r count are.begun at i k low is in
            subst (λ (x : Run). place_in x i + KEPT < 2 ^ 64) (sym (get_or_append_left runs (r ∷ []) d k old.within)) (are.fit i k d low old)
        | inr late ↦ subst (λ (x : Run). place_in x i + KEPT < 2 ^ 64) (sym (get_or_push runs r d k (run_last runs r count are.begun at i k late is)))
            (omega (arith, fits, at, h, late))
      ]);
    }

-- no row has no run
pub no_runs : AreRuns 0 []
no_runs = record { some = λ any. absurd (omega (arith, any)); first = λ d any. absurd (omega (arith, any)); begun = λ k d h. absurd (omega (arith, h)); fit = λ i k d h is. absurd (omega (arith, h)) }

-- the run that was found for a row
abbrev pub Found : List Run → Run → ℕ → Type 0
Found runs run index = (k : ℕ) × IsRunOf runs index k × ((d : Run) → run ≡ get_or runs k d)

-- its row doesn't begin before it, and has a place of 64 bits
pub run_fits : (runs xs : List Run) (run : Run) (count index : ℕ) → AreRuns count runs → xs ≡ runs → index < count → Found xs run index
    → (run.first ≤ index) × (place_in run index + KEPT < 2 ^ 64)
run_fits runs xs run count index are same h found =
    let k = found.0 in
    let is : IsRunOf runs index k = subst (λ ys. IsRunOf ys index k) same found.1 in
    let at : run ≡ get_or runs k run = found.2 run ∙ ap (λ ys. get_or ys k run) same in
    (subst (λ (x : Run). x.first ≤ index) (sym at) (is.begun run), subst (λ (x : Run). place_in x index + KEPT < 2 ^ 64) (sym at) (are.fit index k run h is))
