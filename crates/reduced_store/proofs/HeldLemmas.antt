-- The rows of a store, after one more row and after rows have other last flows.
use Rattle.std.proofs.Common.{◌≡◌, ℕ, zero, suc, ◌^◌, ◌<◌, ◌≤◌, Bool, true, false, List, [], ◌∷◌, ◌++◌, length, get_or, take, map, refl, sym, ap, subst, ◌∙◌, arith, inl, inr, Some}
use Rattle.std.specs.Option.{option_map}
use Rattle.std.specs.Result.{IsErrOf}
use Rattle.std.proofs.lemmas.List.{append-nil, get_or_append_left, get_or_push, length-append, length-map, map-append, get_or-map, take-append-le}
use Rattle.std.proofs.lemmas.Bool.{cases_lt}
use Rattle.std.proofs.Math.Seq.{take-length}
use Rattle.flow_base.specs.declared.types.Flow.{Flow}
use Rattle.reach_model.specs.declared.modes.Verdict.TheVariants.{Extend}
use Rattle.reach_model.specs.Numbers.{known}
use Rattle.reach_model.specs.Rows.{Row, SamePair, firsts, row_of, rows_after}
use Rattle.reach_rows.specs.Kept.{row_of_kept, IsRowAt}
use Rattle.reach_rows.specs.InMemory.{HasLinks}
use Rattle.reach_rows.specs.declared.rows.Mark.{Mark}
use Rattle.reach_rows.specs.declared.rows.Row.{Row as KeptRow}
use Rattle.reach_rows.proofs.RowLemmas.{row_ends}
use Rattle.store_check.specs.Store.{changed_at, extended}
use Rattle.reach_rows.specs.Objects.{AreObjects}
use Rattle.row_codec.specs.declared.rows.ExtendRow.{ExtendRow}
use Rattle.saved_rows.specs.Joining.{Joined, mark_in, renew, renew_from, rows_now, with_extends}
use Rattle.saved_rows.proofs.JoinLemmas.{renew_none}
use Rattle.saved_rows.specs.Remembered.{with_mark}
use Rattle.reduced_store.specs.Held.{AreHeld, told_if}
use Rattle.reach_rows.specs.declared.objects.Object.{Object}
use Rattle.std.specs.Prelude.{Option, None, Result, Err}
use Rattle.flow_base.specs.declared.types.How.TheVariants.{Fork}
use Rattle.reach_rows.specs.declared.rows.RowFault.{RowFault}
use Rattle.reach_rows.specs.declared.rows.RowFault.TheVariants.{BadStore}
use Rattle.saved_rows.specs.Saved.{Gives}

-- ---- rows that have other last marks

-- a row of the code takes a mark
pub changed_rows : (i : ℕ) (mark : Mark) (rows : List KeptRow) → map row_of_kept (with_mark i mark rows) ≡ changed_at i (extended mark) (map row_of_kept rows)
changed_rows i mark [] = refl
changed_rows zero mark (r ∷ rows) = refl
changed_rows (suc i) mark (r ∷ rows) = ap (λ (R : List Row). row_of_kept r ∷ R) (changed_rows i mark rows)

pub changed_length : (i : ℕ) (mark : Mark) (R : List Row) → length (changed_at i (extended mark) R) ≡ length R
changed_length i mark [] = refl
changed_length zero mark (r ∷ R) = refl
changed_length (suc i) mark (r ∷ R) = ap suc (changed_length i mark R)

-- a row without its last mark
abbrev pub plain : KeptRow → KeptRow
plain r = record r { last = r.first }

pub plain_marked : (i : ℕ) (mark : Mark) (rows : List KeptRow) → map plain (with_mark i mark rows) ≡ map plain rows
plain_marked i mark [] = refl
plain_marked zero mark (r ∷ rows) = refl
plain_marked (suc i) mark (r ∷ rows) = ap (λ (R : List KeptRow). plain r ∷ R) (plain_marked i mark rows)

pub plain_extended : (rows : List KeptRow) (es : List ExtendRow) → map plain (with_extends rows es) ≡ map plain rows
plain_extended rows [] = refl
plain_extended rows (e ∷ es) = plain_extended (with_mark e.row e.mark rows) es ∙ plain_marked e.row e.mark rows

plain_one : (m : Option Mark) (r : KeptRow) → plain (renew m r) ≡ plain r
plain_one None r = refl
plain_one (Some m) r = refl

pub plain_renewed : (find : ℕ → Option Mark) (i : ℕ) (rows : List KeptRow) → map plain (renew_from find i rows) ≡ map plain rows
plain_renewed find i [] = refl
plain_renewed find i (r ∷ rows) = ap (λ (x : KeptRow). x ∷ map plain (renew_from find (suc i) rows)) (plain_one (find i) r) ∙ ap (λ (R : List KeptRow). plain r ∷ R) (plain_renewed find (suc i) rows)

-- once no row was added or extended since, the rows are those of the last commit
pub now_settled : (j : Joined) → j.recent ≡ [] → ((i : ℕ) → mark_in j.renewed i ≡ None) → rows_now j ≡ j.kept
now_settled j recent none =
    renew_none (mark_in j.renewed) 0 (j.kept ++ j.recent) none ∙ ap (λ (R : List KeptRow). j.kept ++ R) recent ∙ append-nil j.kept

plain_firsts : (rows : List KeptRow) → firsts (map row_of_kept (map plain rows)) ≡ firsts (map row_of_kept rows)
plain_firsts [] = refl
plain_firsts (r ∷ rows) = ap (λ (F : List Flow). (row_of_kept r).first ∷ F) (plain_firsts rows)

-- rows that differ in last marks alone have the same first flows
pub same_firsts : (rows next : List KeptRow) → map plain rows ≡ map plain next → firsts (map row_of_kept rows) ≡ firsts (map row_of_kept next)
same_firsts rows next same = sym (plain_firsts rows) ∙ ap (λ (R : List KeptRow). firsts (map row_of_kept R)) same ∙ plain_firsts next

-- and the same links
pub held_along : (rows next : List KeptRow) (objects : List Object) → map plain rows ≡ map plain next → AreHeld rows objects → AreHeld next objects
held_along rows next objects same held =
    let flows = same_firsts rows next same in
    let long : length rows ≡ length next = sym (length-map rows plain) ∙ ap length same ∙ length-map next plain in
    record {
      links = λ i d h.
          let low : i < length rows = omega (arith, h, long) in
          let l = held.links i d low in
          let bare : HasLinks (take i (firsts (map row_of_kept rows))) (plain (get_or rows i d)) = record { before_to = l.before_to; before_from = l.before_from } in
          let at : plain (get_or rows i d) ≡ plain (get_or next i d) = sym (get_or-map plain rows i d (plain d) low) ∙ ap (λ (R : List KeptRow). get_or R i (plain d)) same ∙ get_or-map plain next i d (plain d) h in
          let moved : HasLinks (take i (firsts (map row_of_kept next))) (plain (get_or next i d)) = subst (λ (F : List Flow). HasLinks (take i F) (plain (get_or next i d))) flows (subst (HasLinks (take i (firsts (map row_of_kept rows)))) at bare) in
          record { before_to = moved.before_to; before_from = moved.before_from };
      known = subst (λ (F : List Flow). AreObjects F objects) flows held.known;
      few = held.few;
    }

-- ---- rows as laws speak of them

-- a mark of a flow of its pair makes that flow the last one
last_made : (r : Row) (f : Flow) → SamePair r.last f → extended (record { at = f.at; how = f.how; serial = f.serial }) r ≡ record r { last = f }
last_made r f pair =
    ap (λ (n : ℕ). record { first = r.first; last = record { from = record { 0 = n }; to = r.last.to; how = f.how; at = f.at; serial = f.serial } }) pair.0
    ∙ ap (λ (n : ℕ). record { first = r.first; last = record { from = f.from; to = record { 0 = n }; how = f.how; at = f.at; serial = f.serial } }) pair.1

pub changed_is_after : (R : List Row) (i : ℕ) (f : Flow) → i < length R → ((d : Row) → SamePair (get_or R i d).last f)
    → changed_at i (extended (record { at = f.at; how = f.how; serial = f.serial })) R ≡ rows_after R f (Extend i)
changed_is_after [] i f h pair = refl
changed_is_after (r ∷ R) zero f h pair = ap (λ (x : Row). x ∷ R) (last_made r f (pair r))
changed_is_after (r ∷ R) (suc i) f h pair = ap (λ (S : List Row). r ∷ S) (changed_is_after R i f (omega arith) pair)

pub firsts_of_push : (R : List Row) (f : Flow) → firsts (R ++ row_of f ∷ []) ≡ firsts R ++ f ∷ []
firsts_of_push R f = map-append (λ (x : Row). x.first) R (row_of f ∷ [])

-- rows that are observable
pub told_rows : (b : Bool) (R : List Row) → b ≡ true → told_if b R ≡ Some R
told_rows b R so = ap (λ x. told_if x R) so

-- rows that change in a way that is said of observable ones
pub told_maps : (b : Bool) (R S : List Row) (to : List Row → List Row) → (b ≡ true → S ≡ to R) → told_if b S ≡ option_map to (told_if b R)
told_maps true R S to is = ap Some (is refl)
told_maps false R S to is = refl

module _ (rows : List KeptRow) (objects : List Object) (held : AreHeld rows objects) where
  abbrev pub R : List Row
  R = map row_of_kept rows

  abbrev pub K : List Flow
  K = firsts R

  pub all_rows : length R ≡ length rows
  all_rows = simp length-map refl

  pub counted : length K ≡ length rows
  counted = simp (length-map, length-map) refl

  pub held_push : (f : Flow) (row : KeptRow) (next : List Object) → (row_of_kept row).first ≡ f → HasLinks K row
      → AreObjects (K ++ f ∷ []) next → length next < 2 ^ 32 → AreHeld (rows ++ row ∷ []) next
  held_push f row next is links o few =
      let same : map row_of_kept (rows ++ row ∷ []) ≡ R ++ row_of_kept row ∷ [] = map-append row_of_kept rows (row ∷ []) in
      let flows : firsts (map row_of_kept (rows ++ row ∷ [])) ≡ K ++ f ∷ [] = ap firsts same ∙ map-append (λ (x : Row). x.first) R (row_of_kept row ∷ []) ∙ ap (λ (g : Flow). K ++ g ∷ []) is in
      record {
        links = λ i d h. subst (λ L. HasLinks (take i L) (get_or (rows ++ row ∷ []) i d)) (sym flows) (elim (cases_lt i (length rows)) [
          | inl old ↦ let low : i ≤ length K = omega (arith, counted) in
              rw (take-append-le i K (f ∷ []) low, get_or_append_left rows (row ∷ []) d i old) (held.links i d old)
          | inr new ↦ let e : length rows ≡ i = omega (arith, length-append rows (row ∷ [])) in
              let whole : take i (K ++ f ∷ []) ≡ K = subst (λ k. take k (K ++ f ∷ []) ≡ K) (counted ∙ e) (take-append-le (length K) K (f ∷ []) (omega arith) ∙ take-length K) in
              rw (whole, get_or_push rows row d i e) links
        ]);
        known = subst (λ L. AreObjects L next) (sym flows) o;
        few = few;
      }

  -- what a row of the code is
  pub held_row : (i : ℕ) (row d : KeptRow) → i < length rows → row ≡ get_or rows i d → IsRowAt R i row
  held_row i row e h is =
      let l = subst (HasLinks (take i K)) (sym is) (held.links i e h) in
      record { is = λ d. get_or-map row_of_kept rows i e d h ∙ ap row_of_kept (sym is); before_to = l.before_to; before_from = l.before_from }

  pub held_ends : (i : ℕ) (row d : KeptRow) → i < length rows → row ≡ get_or rows i d → (row.from.0 < known K) × (row.to.0 < known K)
  held_ends i row d h is = row_ends R (row_of_kept row) (i, simp length-map h, get_or-map row_of_kept rows i d (row_of_kept row) h ∙ ap row_of_kept (sym is))

-- a reading that gives a row finds no bad store
pub no_bad : (fault : RowFault) (place : ℕ) (at : KeptRow → KeptRow) → ((d : KeptRow) → Gives {T = KeptRow} (Err fault) (at d)) → IsErrOf {T = KeptRow} (Err fault) (BadStore place) → ⊥
no_bad fault place at gives bad =
    let mark : Mark = record { at = record { ms = 0; place = 0 }; how = Fork; serial = 0 } in
    let d : KeptRow = record { from = record { 0 = 0 }; to = record { 0 = 0 }; first = mark; last = mark; before_to = None; before_from = None } in
    subst (λ (r : Result KeptRow RowFault). Gives r (at d)) bad (gives d)
