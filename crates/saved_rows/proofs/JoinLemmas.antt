-- Rows with other last marks, while rows are added and extended.
use Rattle.std.proofs.Common.{◌≡◌, ◌≢◌, ◌∙◌, ℕ, zero, suc, ◌+◌, ◌-◌, ◌<◌, ◌≤◌, List, [], ◌∷◌, ◌++◌, length, get_or, Option, Some, None, refl, sym, ap, subst, arith}
use Rattle.std.proofs.lemmas.List.{append_assoc, get_or_append_left, length-append}
use Rattle.std.proofs.Math.Seq.{get_or-append_right}
use Rattle.block_cache.specs.Cached.{Cached}
use Rattle.reach_rows.specs.declared.rows.Mark.{Mark}
use Rattle.reach_rows.specs.declared.rows.Row.{Row}
use Rattle.saved_rows.specs.Joining.{renew, renew_from}
use Rattle.saved_rows.specs.Remembered.{with_mark}
use Rattle.saved_rows.specs.Runs.{place_in}
use Rattle.saved_rows.specs.Saved.{HasLast, HasRows, IsSpelledAt, Saved, as_kept, end_of}

pub renew_long : (find : ℕ → Option Mark) (i : ℕ) (R : List Row) → length (renew_from find i R) ≡ length R
renew_long find i [] = refl
renew_long find i (r ∷ R) = ap suc (renew_long find (suc i) R)

pub renew_none : (find : ℕ → Option Mark) (i : ℕ) (R : List Row) → ((j : ℕ) → find j ≡ None) → renew_from find i R ≡ R
renew_none find i [] none = refl
renew_none find i (r ∷ R) none = ap (λ m. renew m r ∷ renew_from find (suc i) R) (none i) ∙ ap (λ (S : List Row). r ∷ S) (renew_none find (suc i) R none)

pub renew_append : (find : ℕ → Option Mark) (i : ℕ) (R S : List Row) → renew_from find i (R ++ S) ≡ renew_from find i R ++ renew_from find (i + length R) S
renew_append find i [] S = ap (λ (j : ℕ). renew_from find j S) (omega arith)
renew_append find i (r ∷ R) S =
    ap (λ (T : List Row). renew (find i) r ∷ T) (renew_append find (suc i) R S ∙ ap (λ (j : ℕ). renew_from find (suc i) R ++ renew_from find j S) (omega arith))

pub renew_same : (find found : ℕ → Option Mark) (i : ℕ) (R : List Row) → ((j : ℕ) → i ≤ j → found j ≡ find j) → renew_from found i R ≡ renew_from find i R
renew_same find found i [] same = refl
renew_same find found i (r ∷ R) same =
    ap (λ m. renew m r ∷ renew_from found (suc i) R) (same i (omega arith))
    ∙ ap (λ (S : List Row). renew (find i) r ∷ S) (renew_same find found (suc i) R (λ j le. same j (omega (arith, le))))

pub renew_at : (find : ℕ → Option Mark) (i j : ℕ) (R : List Row) (d : Row) → j < length R → get_or (renew_from find i R) j d ≡ renew (find (i + j)) (get_or R j d)
renew_at find i j [] d h = absurd (omega (arith, h))
renew_at find i zero (r ∷ R) d h = ap (λ (n : ℕ). renew (find n) r) (omega arith)
renew_at find i (suc j) (r ∷ R) d h = renew_at find (suc i) j R d (omega (arith, h)) ∙ ap (λ (n : ℕ). renew (find n) (get_or R j d)) (omega arith)

renew_twice : (mark : Mark) (m : Option Mark) (r : Row) → renew (Some mark) r ≡ record (renew m r) { last = mark }
renew_twice mark None r = refl
renew_twice mark (Some was) r = refl

-- a row that takes another last mark
pub renew_marked : (find found : ℕ → Option Mark) (k i j : ℕ) (mark : Mark) (R : List Row) → j ≡ k + i
    → found j ≡ Some mark → ((n : ℕ) → n ≢ j → found n ≡ find n) → renew_from found k R ≡ with_mark i mark (renew_from find k R)
renew_marked find found k i j mark [] at here others = refl
renew_marked find found k zero j mark (r ∷ R) at here others =
    let first : j ≡ k = omega (arith, at) in
    ap (λ m. renew m r ∷ renew_from found (suc k) R) (ap found (sym first) ∙ here)
    ∙ ap (λ (x : Row). x ∷ renew_from found (suc k) R) (renew_twice mark (find k) r)
    ∙ ap (λ (S : List Row). record (renew (find k) r) { last = mark } ∷ S) (renew_same find found (suc k) R (λ n le. others n (λ e. absurd (omega (arith, le, e, first)))))
renew_marked find found k (suc i) j mark (r ∷ R) at here others =
    ap (λ m. renew m r ∷ renew_from found (suc k) R) (others k (λ e. absurd (omega (arith, e, at))))
    ∙ ap (λ (S : List Row). renew (find k) r ∷ S) (renew_marked find found (suc k) i j mark R (omega (arith, at)) here others)

-- one row more, which isn't renewed
pub renew_push : (find : ℕ → Option Mark) (R S : List Row) (r : Row) → find (length R + length S) ≡ None
    → renew_from find 0 (R ++ (S ++ r ∷ [])) ≡ renew_from find 0 (R ++ S) ++ r ∷ []
renew_push find R S r none =
    ap (renew_from find 0) (sym (append_assoc R S (r ∷ [])))
    ∙ renew_append find 0 (R ++ S) (r ∷ [])
    ∙ ap (λ m. renew_from find 0 (R ++ S) ++ renew m r ∷ []) (ap find (omega (arith, length-append R S)) ∙ none)

-- the row at an index, which is one since the last commit
pub now_recent : (find : ℕ → Option Mark) (kept recent : List Row) (i : ℕ) (d row : Row) → length kept ≤ i → i < length kept + length recent
    → row ≡ get_or recent (i - length kept) d → renew (find i) row ≡ get_or (renew_from find 0 (kept ++ recent)) i d
now_recent find kept recent i d row from below is =
    ap (renew (find i)) (is ∙ sym (get_or-append_right kept recent i d from))
    ∙ ap (λ (n : ℕ). renew (find n) (get_or (kept ++ recent) i d)) (let e : i ≡ 0 + i = omega arith in e)
    ∙ sym (renew_at find 0 i (kept ++ recent) d (omega (arith, below, length-append kept recent)))

-- the row at an index, which is one of the last commit
pub now_kept : (find : ℕ → Option Mark) (kept recent : List Row) (i : ℕ) (d row : Row) → i < length kept
    → row ≡ get_or kept i d → renew (find i) row ≡ get_or (renew_from find 0 (kept ++ recent)) i d
now_kept find kept recent i d row below is =
    ap (renew (find i)) (is ∙ sym (get_or_append_left kept recent d i below))
    ∙ ap (λ (n : ℕ). renew (find n) (get_or (kept ++ recent) i d)) (let e : i ≡ 0 + i = omega arith in e)
    ∙ sym (renew_at find 0 i (kept ++ recent) d (omega (arith, below, length-append kept recent)))

-- how many rows there are now
pub now_long : (find : ℕ → Option Mark) (kept recent : List Row) → length (renew_from find 0 (kept ++ recent)) ≡ length kept + length recent
now_long find kept recent = renew_long find 0 (kept ++ recent) ∙ length-append kept recent

-- ---- the disk that was only looked at

rows_seen : (bytes : List ℕ) (saved : Saved) (cache : Cached) (R : List Row) → cache.firm ≡ saved.cache.firm → HasRows bytes saved R → HasRows bytes (record saved { cache = cache }) R
rows_seen bytes saved cache R firm has = record {
  all = has.all;
  kept = λ i k d e h is. subst (λ (f : ℕ). IsSpelledAt bytes f (place_in (get_or saved.runs k e) i) (as_kept (get_or R i d))) (sym firm) (has.kept i k d e h is);
  last = λ i d h. subst (λ (f : ℕ). HasLast bytes f i (get_or R i d) (end_of saved.ends i)) (sym firm) (has.last i d h);
  listed = has.listed;
}

pub still_on : (old new : List ℕ) (saved next : Saved) (R : List Row) → new ≡ old → next ≡ record saved { cache = next.cache } → next.cache.firm ≡ saved.cache.firm
    → HasRows old saved R → HasRows new next R
still_on old new saved next R bytes same firm has =
    subst (λ (s : Saved). HasRows new s R) (sym same)
    (subst (λ (b : List ℕ). HasRows b (record saved { cache = next.cache }) R) (sym bytes) (rows_seen old saved next.cache R firm has))
