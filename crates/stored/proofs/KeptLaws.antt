-- The rows that are kept after the rows of one more batch.
use Rattle.std.proofs.Common.{◌≡◌, ◌∙◌, refl, sym, ap, subst, ℕ, zero, suc, Bool, true, false, List, [], ◌∷◌, ◌++◌, map, length, drop, arith, append_assoc}
use Rattle.std.specs.Prelude.{◌==◌, fold, slice_set, slice_index_or, if◌then◌else◌}
use Rattle.std.specs.List.{AllByRecursion, Contains}
use Rattle.std.proofs.lemmas.Bool.Decides.{nat_tests}
use Rattle.std.proofs.lemmas.Grind.{fold-append}
use Rattle.std.proofs.lemmas.List.{append-nil, map-append}
use Rattle.std.proofs.lemmas.List.Folds.{fold-map}
use Rattle.std.proofs.lemmas.List.Elements.{recursion_from_All, Contains-append_left}
use Rattle.flow_base.specs.declared.types.Flow.{Flow}
use Rattle.reach_model.specs.declared.modes.Mode.{Mode}
use Rattle.reach_model.specs.declared.modes.Verdict.{Verdict}
use Rattle.reach_model.specs.declared.modes.Verdict.TheVariants.{Drop, Add, Extend as Extends}
use Rattle.reach_model.specs.Flows.{IsLawful, source, target}
use Rattle.reach_model.specs.Rows.{Row, Keeps, none, more, IsVerdict, SamePair, firsts, row_of, rows_after}
use Rattle.reach_model.proofs.RowFacts.{IsRowOf, rows_of as facts}
use Rattle.reach_model.proofs.Lawful.{lawful_front, same_place}
use Rattle.reach_model.proofs.Determined.{same_rows, push_parts}
use Rattle.row_codec.specs.declared.rows.KeptRow.{KeptRow}
use Rattle.row_codec.specs.declared.rows.ExtendRow.{ExtendRow}
use Rattle.row_codec.specs.declared.rows.StoreRow.{StoreRow}
use Rattle.row_codec.specs.declared.rows.StoreRow.TheVariants.{Entity, Kept, Extend}
use Rattle.store_check.specs.Store.{flow_of, extended, changed_at, grown, rows_of}
use Rattle.stored.specs.Batch.{Batch, name_row, life_row, held_row, address_row, born_row, waiting_row, front, back, laid, mark_of, kept_from, fresh, extends_from, AreRowsOf}
use Rattle.stored.proofs.Lists.{IsFront, front_same, front_then}

-- ---- the parts of a batch

abbrev pub ext : List Row → ExtendRow → List Row
ext R e = changed_at e.row (extended e.mark) R

pub pass : {B : Type 0} (make : B → StoreRow) → ((R : List Row) (b : B) → grown R (make b) ≡ R) → (R : List Row) (bs : List B) (rest : List StoreRow) → fold grown R (map make bs ++ rest) ≡ fold grown R rest
pass make same R [] rest = refl
pass make same R (b ∷ bs) rest = ap (λ (x : List Row). fold grown x (map make bs ++ rest)) (same R b) ∙ pass make same R bs rest

abbrev pub row_kept : KeptRow → Row
row_kept k = row_of (flow_of k)

pub kept_fold : (R : List Row) (ks : List KeptRow) → fold grown R (map Kept ks) ≡ R ++ map row_kept ks
kept_fold R [] = sym (append-nil R)
kept_fold R (k ∷ ks) = kept_fold (R ++ row_kept k ∷ []) ks ∙ append_assoc R (row_kept k ∷ []) (map row_kept ks)

back_still : (R : List Row) (b : Batch) → fold grown R (back b) ≡ R
back_still R b = pass held_row (λ x e. refl) R b.held _ ∙ pass address_row (λ x e. refl) R b.addresses _ ∙ pass born_row (λ x e. refl) R b.births _ ∙ pass waiting_row (λ x e. refl) R b.waiting _

lives_still : (R : List Row) (b : Batch) → fold grown R (map name_row b.names ++ map life_row b.lives) ≡ R
lives_still R b =
    pass name_row (λ x e. refl) R b.names _ ∙ ap (fold grown R) (sym (append-nil (map life_row b.lives))) ∙ pass life_row (λ x e. refl) R b.lives []

front_rows : (R : List Row) (b : Batch) → fold grown R (front b) ≡ fold ext (R ++ map row_kept b.kept) b.extends
front_rows R b =
    pass Entity (λ x e. refl) R b.entities _
    ∙ fold-append grown R (map Kept b.kept) _ ∙ ap (λ (x : List Row). fold grown x (map Extend b.extends ++ (map name_row b.names ++ map life_row b.lives))) (kept_fold R b.kept)
    ∙ fold-append grown (R ++ map row_kept b.kept) (map Extend b.extends) _
    ∙ lives_still (fold grown (R ++ map row_kept b.kept) (map Extend b.extends)) b
    ∙ fold-map grown Extend (R ++ map row_kept b.kept) b.extends

pub rows_laid : (rows : List StoreRow) (b : Batch) → rows_of (rows ++ laid b) ≡ fold ext (rows_of rows ++ map row_kept b.kept) b.extends
rows_laid rows b =
    fold-append grown [] rows (laid b) ∙ fold-append grown (rows_of rows) (front b) (back b) ∙ back_still (fold grown (rows_of rows) (front b)) b ∙ front_rows (rows_of rows) b

pub kept_fresh : (K : List Flow) (R : List Row) → map row_kept (kept_from K R) ≡ map fresh R
kept_fresh K [] = refl
kept_fresh K (r ∷ R) = ap (λ (x : List Row). fresh r ∷ x) (kept_fresh (K ++ r.first ∷ []) R)

-- ---- Extend rows

-- the last flow is of F, and between the same two objects as the first
pub record IsFrom (F : List Flow) (r : Row) : Type 0 where
  pub there : Contains F r.last
  pub pair : SamePair r.last r.first

changed_there : (P : List Row) (q : Row) (Q : List Row) (f : Row → Row) → changed_at (length P) f (P ++ q ∷ Q) ≡ P ++ f q ∷ Q
changed_there [] q Q f = refl
changed_there (p ∷ P) q Q f = ap (λ (x : List Row). p ∷ x) (changed_there P q Q f)

same_ends : (q r : Row) → q.first ≡ r.first → SamePair q.last q.first → SamePair r.last r.first → SamePair q.last r.last
same_ends q r is a b = (a.0 ∙ ap source is ∙ sym b.0, a.1 ∙ ap target is ∙ sym b.1)

made_last : (q r : Row) → q.first ≡ r.first → SamePair q.last r.last → extended (mark_of r.last) q ≡ r
made_last q r is pair =
    ap (λ (f : Flow). record { first = f; last = record { from = q.last.from; to = q.last.to; how = r.last.how; at = r.last.at; serial = r.last.serial } }) is
    ∙ ap (λ (x : ℕ). record { first = r.first; last = record { from = record { 0 = x }; to = q.last.to; how = r.last.how; at = r.last.at; serial = r.last.serial } }) pair.0
    ∙ ap (λ (x : ℕ). record { first = r.first; last = record { from = r.last.from; to = record { 0 = x }; how = r.last.how; at = r.last.at; serial = r.last.serial } }) pair.1

same_last : (F : List Flow) (q r : Row) → IsLawful F → q.first ≡ r.first → IsFrom F q → IsFrom F r → q.last.at.place ≡ r.last.at.place → q ≡ r
same_last F q r l is a b at =
    ap (λ (f : Flow). record { first = f; last = q.last }) is ∙ ap (λ (f : Flow). record { first = r.first; last = f }) (same_place l q.last r.last a.there b.there at)

place_same : (a b : ℕ) → (a == b) ≡ true → a ≡ b
place_same a b is = grind (arith, nat_tests)

longer : (P : List Row) (r : Row) → length (P ++ r ∷ []) ≡ suc (length P)
longer [] r = refl
longer (p ∷ P) r = ap suc (longer P r)

one_longer : (P : List Row) (r : Row) (i : ℕ) → i ≡ length P → suc i ≡ length (P ++ r ∷ [])
one_longer P r i at = ap suc at ∙ sym (longer P r)

head_same : (q r : Row) (Q R : List Row) → firsts (q ∷ Q) ≡ firsts (r ∷ R) → (q.first ≡ r.first) × (firsts Q ≡ firsts R)
head_same q r Q R is = (cc, cc)

extend_case : (F : List Flow) → IsLawful F → (b : Bool) (i : ℕ) (P Q R : List Row) (q r : Row) → (q.last.at.place == r.last.at.place) ≡ b → i ≡ length P → q.first ≡ r.first → IsFrom F q → IsFrom F r
    → ((S : List Row) → suc i ≡ length S → fold ext (S ++ Q) (extends_from (suc i) Q R) ≡ S ++ R)
    → fold ext (P ++ q ∷ Q) ((if b then [] else record { row = i; mark = mark_of r.last } ∷ []) ++ extends_from (suc i) Q R) ≡ P ++ r ∷ R
extend_case F l true i P Q R q r is at first a b rest =
    ap (λ (x : Row). fold ext (P ++ x ∷ Q) (extends_from (suc i) Q R)) (same_last F q r l first a b (place_same q.last.at.place r.last.at.place is))
    ∙ ap (λ (x : List Row). fold ext x (extends_from (suc i) Q R)) (sym (append_assoc P (r ∷ []) Q))
    ∙ rest (P ++ r ∷ []) (one_longer P r i at) ∙ append_assoc P (r ∷ []) R
extend_case F l false i P Q R q r is at first a b rest =
    ap (λ (n : ℕ). fold ext (changed_at n (extended (mark_of r.last)) (P ++ q ∷ Q)) (extends_from (suc i) Q R)) at
    ∙ ap (λ (x : List Row). fold ext x (extends_from (suc i) Q R)) (changed_there P q Q (extended (mark_of r.last)) ∙ ap (λ (x : Row). P ++ x ∷ Q) (made_last q r first (same_ends q r first a.pair b.pair)) ∙ sym (append_assoc P (r ∷ []) Q))
    ∙ rest (P ++ r ∷ []) (one_longer P r i at) ∙ append_assoc P (r ∷ []) R

extend_fold : (F : List Flow) → IsLawful F → (i : ℕ) (P Q R : List Row) → i ≡ length P → firsts Q ≡ firsts R → AllByRecursion (IsFrom F) Q → AllByRecursion (IsFrom F) R
    → fold ext (P ++ Q) (extends_from i Q R) ≡ P ++ R
extend_fold F l i P [] [] at is a b = refl
extend_fold F l i P [] (r ∷ R) at is a b = absurd cc
extend_fold F l i P (q ∷ Q) [] at is a b = absurd cc
extend_fold F l i P (q ∷ Q) (r ∷ R) at is a b =
    let h = head_same q r Q R is in
    extend_case F l (q.last.at.place == r.last.at.place) i P Q R q r refl at h.0 a.0 b.0 (λ S n. extend_fold F l (suc i) S Q R n h.1 a.1 b.1)

-- ---- rows that a mode keeps of more flows

pub firsts_set : (R : List Row) (i : ℕ) (f : Flow) → firsts (slice_set R i (record (slice_index_or R i (row_of f)) { last = f })) ≡ firsts R
firsts_set [] i f = refl
firsts_set (r ∷ R) zero f = refl
firsts_set (r ∷ R) (suc i) f = ap (λ (x : List Flow). r.first ∷ x) (firsts_set R i f)

firsts_after : (R : List Row) (f : Flow) (d : Verdict) → IsFront (firsts R) (firsts (rows_after R f d))
firsts_after R f Drop = front_same (firsts R)
firsts_after R f Add = (f ∷ [], map-append (λ (r : Row). r.first) R (row_of f ∷ []))
firsts_after R f (Extends i) = subst (λ (l : List Flow). IsFront (firsts R) l) (sym (firsts_set R i f)) (front_same (firsts R))

pub last_first : {A : Type 0} (x : A) (xs : List A) → (ys : List A) × (y : A) × (x ∷ xs ≡ ys ++ y ∷ [])
last_first x [] = ([], x, refl)
last_first {A} x (z ∷ xs) = let l = last_first z xs in (x ∷ l.0, l.1, ap (λ (r : List A). x ∷ r) l.2)

front_step : {mode : Mode} {F : List Flow} {R : List Row} (f : Flow) (d : Verdict) → IsLawful (F ++ f ∷ []) → Keeps mode F R → IsVerdict mode F R f d → (F0 : List Flow) (R0 : List Row) → Keeps mode F0 R0
    → (IsFront F0 F → IsFront (firsts R0) (firsts R)) → (rest : List Flow) → F ++ f ∷ [] ≡ F0 ++ rest → IsFront (firsts R0) (firsts (rows_after R f d))
front_step {mode} {F} {R} f d l k v F0 R0 k0 go [] is =
    let same : R0 ≡ rows_after R f d = same_rows l (subst (λ (G : List Flow). Keeps mode G R0) (sym (is ∙ append-nil F0)) k0) (more f d k v) in
    subst (λ (S : List Row). IsFront (firsts R0) (firsts S)) same (front_same (firsts R0))
front_step {mode} {F} {R} f d l k v F0 R0 k0 go (x ∷ rest) is =
    let s = last_first x rest in
    let parts = push_parts F (F0 ++ s.0) f s.1 (is ∙ ap (λ (z : List Flow). F0 ++ z) s.2 ∙ sym (append_assoc F0 s.0 (s.1 ∷ []))) in
    front_then (firsts R0) (firsts R) (firsts (rows_after R f d)) (go (s.0, parts.0)) (firsts_after R f d)

firsts_front : {mode : Mode} {F : List Flow} {R : List Row} → IsLawful F → Keeps mode F R → (F0 : List Flow) (R0 : List Row) → Keeps mode F0 R0 → IsFront F0 F → IsFront (firsts R0) (firsts R)
firsts_front {mode} l none [] R0 k0 f = subst (λ (S : List Row). IsFront (firsts R0) (firsts S)) (same_rows l k0 none) (front_same (firsts R0))
firsts_front {mode} l none (x ∷ F0) R0 k0 f = absurd (let e = f.1 in cc)
firsts_front {mode} l (more {F} {R} f d k v) F0 R0 k0 g = front_step f d l k v F0 R0 k0 (firsts_front (lawful_front F f l) k F0 R0 k0) g.0 g.1

pub lawful_fronts : (F rest : List Flow) → IsLawful (F ++ rest) → IsLawful F
lawful_fronts F [] l = subst IsLawful (append-nil F) l
lawful_fronts F (x ∷ rest) l = lawful_front F x (lawful_fronts (F ++ x ∷ []) rest (subst IsLawful (sym (append_assoc F (x ∷ []) rest)) l))

pub fresh_firsts : (R : List Row) → firsts (map fresh R) ≡ firsts R
fresh_firsts [] = refl
fresh_firsts (r ∷ R) = ap (λ (x : List Flow). r.first ∷ x) (fresh_firsts R)

firsts_joined : (B A : List Row) → IsFront (firsts B) (firsts A) → firsts (B ++ map fresh (drop (length B) A)) ≡ firsts A
firsts_joined [] A f = fresh_firsts A
firsts_joined (b ∷ B) [] f = absurd (let e = f.1 in cc)
firsts_joined (b ∷ B) (a ∷ A) f =
    let e = f.1 in
    let head : a.first ≡ b.first = cc in
    let rest : firsts A ≡ firsts B ++ f.0 = cc in
    ap (λ (x : Flow). x ∷ firsts (B ++ map fresh (drop (length B) A))) (sym head) ∙ ap (λ (x : List Flow). a.first ∷ x) (firsts_joined B A (f.0, rest))

pub all_weaker : {A : Type 0} (P Q : A → Type 0) → ((a : A) → P a → Q a) → (xs : List A) → AllByRecursion P xs → AllByRecursion Q xs
all_weaker P Q to [] all = tt
all_weaker P Q to (x ∷ xs) all = (to x all.0, all_weaker P Q to xs all.1)

pub all_joined : {A : Type 0} (P : A → Type 0) (xs ys : List A) → AllByRecursion P xs → AllByRecursion P ys → AllByRecursion P (xs ++ ys)
all_joined P [] ys a b = b
all_joined P (x ∷ xs) ys a b = (a.0, all_joined P xs ys a.1 b)

pub all_dropped : {A : Type 0} (P : A → Type 0) (n : ℕ) (xs : List A) → AllByRecursion P xs → AllByRecursion P (drop n xs)
all_dropped P zero xs all = all
all_dropped P (suc n) [] all = tt
all_dropped P (suc n) (x ∷ xs) all = all_dropped P n xs all.1

all_fresh : (F : List Flow) (R : List Row) → AllByRecursion (IsRowOf F) R → AllByRecursion (IsFrom F) (map fresh R)
all_fresh F [] all = tt
all_fresh F (r ∷ R) all = (record { there = all.0.first_there; pair = (refl, refl) }, all_fresh F R all.1)

-- the rows of now, if a batch has the Kept and Extend rows of a commit
pub rows_next : (mode : Mode) (earlier now : List Flow) (rows : List StoreRow) (b : Batch) → IsLawful now → IsFront earlier now → Keeps mode earlier (rows_of rows) → AreRowsOf mode earlier now b → Keeps mode now (rows_of (rows ++ laid b))
rows_next mode earlier now rows b l f k t =
    let l0 : IsLawful earlier = lawful_fronts earlier f.0 (subst IsLawful f.1 l) in
    let D = drop (length t.before) t.after in
    let Q = t.before ++ map fresh D in
    let old : AllByRecursion (IsRowOf earlier) t.before = recursion_from_All (IsRowOf earlier) t.before (facts l0 t.kept_before) in
    let new : AllByRecursion (IsRowOf now) t.after = recursion_from_All (IsRowOf now) t.after (facts l t.kept_now) in
    let old_from : AllByRecursion (IsFrom now) t.before = all_weaker (IsRowOf earlier) (IsFrom now) (λ r h. record { there = subst (λ (G : List Flow). Contains G r.last) (sym f.1) (Contains-append_left earlier f.0 r.last h.last_there); pair = h.pair }) t.before old in
    let new_from : AllByRecursion (IsFrom now) t.after = all_weaker (IsRowOf now) (IsFrom now) (λ r h. record { there = h.last_there; pair = h.pair }) t.after new in
    let on_disk : AllByRecursion (IsFrom now) Q = all_joined (IsFrom now) t.before (map fresh D) old_from (all_fresh now D (all_dropped (IsRowOf now) (length t.before) t.after new)) in
    let same : rows_of (rows ++ laid b) ≡ t.after =
    rows_laid rows b
    ∙ ap (λ (R : List Row). fold ext (R ++ map row_kept b.kept) b.extends) (same_rows l0 k t.kept_before)
    ∙ ap (λ (ks : List KeptRow). fold ext (t.before ++ map row_kept ks) b.extends) t.kept
    ∙ ap (λ (R : List Row). fold ext (t.before ++ R) b.extends) (kept_fresh (firsts t.before) D)
    ∙ ap (fold ext Q) t.extends
    ∙ extend_fold now l 0 [] Q t.after refl (firsts_joined t.before t.after (firsts_front l t.kept_now earlier t.before t.kept_before f)) on_disk new_from in
    subst (Keeps mode now) (sym same) t.kept_now
