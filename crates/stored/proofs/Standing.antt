-- The Kept and Extend rows of a commit may stand.
use Rattle.std.proofs.Common.{◌≡◌, ◌∙◌, refl, sym, ap, subst, ℕ, suc, ◌<◌, ◌≤◌, Bool, true, false, List, [], ◌∷◌, ◌++◌, map, length, Some, arith, append_assoc}
use Rattle.std.specs.Prelude.{◌==◌, slice_get, if◌then◌else◌}
use Rattle.std.specs.List.{AllByRecursion, Contains}
use Rattle.std.proofs.lemmas.Bool.Decides.{nat_tests}
use Rattle.std.proofs.lemmas.Grind.{fold-append, flat_map-append}
use Rattle.std.proofs.lemmas.List.{append-nil, map-append}
use Rattle.flow_base.specs.declared.types.Flow.{Flow}
use Rattle.flow_base.specs.declared.types.Key.{Key}
use Rattle.reach_model.specs.declared.modes.Mode.{Mode}
use Rattle.reach_model.specs.declared.modes.Mode.TheVariants.{Continuous}
use Rattle.reach_model.specs.Flows.{source, target, place, time}
use Rattle.reach_model.specs.Numbers.{known}
use Rattle.reach_model.specs.Rows.{Row, firsts, lasts, row_of}
use Rattle.row_codec.specs.declared.rows.ExtendRow.{ExtendRow}
use Rattle.row_codec.specs.declared.rows.StoreRow.{StoreRow}
use Rattle.row_codec.specs.declared.rows.StoreRow.TheVariants.{Kept, Extend}
use Rattle.store_check.specs.Conditions.{Bounds, MayStand, EachAfter, IsLater, HasEnds, IsNextKept, IsNextExtend}
use Rattle.store_check.specs.Store.{key_in, keys, extended, changed_at, grown, rows_of, last_index}
use Rattle.stored.specs.Batch.{mark_of, kept_row, kept_from, extends_from}
use Rattle.stored.proofs.Growth.{AreNext}

keys_still : (rows : List StoreRow) (row : StoreRow) → key_in row ≡ [] → keys (rows ++ row ∷ []) ≡ keys rows
keys_still rows row none = flat_map-append key_in rows (row ∷ []) ∙ ap (λ (l : List Key). keys rows ++ (l ++ [])) none ∙ append-nil (keys rows)

rows_push : (rows : List StoreRow) (row : StoreRow) → rows_of (rows ++ row ∷ []) ≡ grown (rows_of rows) row
rows_push rows row = fold-append grown [] rows (row ∷ [])

-- ---- Kept rows

abbrev pub AreBelow : ℕ → Row → Type 0
AreBelow count r = (source r.first < count) × (target r.first < count)

pub kept_stand : (bounds : Bounds) (mode : Mode) (count : ℕ) (K : List Flow) (R : List Row) (rows : List StoreRow) → length (keys rows) ≡ count → firsts (rows_of rows) ≡ K → AllByRecursion (AreBelow count) R → AreNext K (firsts R) → EachAfter (MayStand bounds mode) rows (map Kept (kept_from K R))
kept_stand bounds mode count K [] rows many is below next = tt
kept_stand bounds mode count K (r ∷ R) rows many is below next =
    let f = r.first in
    let n = next.0 in
    let ends : HasEnds count (known K) (kept_row K f) = record { differ = n.differ; from = below.0.0; to = below.0.1; from_numbered = n.from; to_numbered = n.to } in
    let row : IsNextKept rows (kept_row K f) = record {
      ends = subst (λ (x : ℕ). HasEnds x (known (firsts (rows_of rows))) (kept_row K f)) (sym many) (subst (λ (L : List Flow). HasEnds count (known L) (kept_row K f)) (sym is) ends);
      later = λ g c. n.later g (subst (λ (L : List Flow). Contains L g) is c);
      before_to = ap (last_index (λ g. target g == target f)) (sym is);
      before_from = ap (last_index (λ g. source g == source f)) (sym is);
    } in
    let more : firsts (rows_of (rows ++ Kept (kept_row K f) ∷ [])) ≡ K ++ f ∷ [] =
    ap firsts (rows_push rows (Kept (kept_row K f))) ∙ map-append (λ (x : Row). x.first) (rows_of rows) (row_of f ∷ []) ∙ ap (λ (L : List Flow). L ++ f ∷ []) is in
    (row, kept_stand bounds mode count (K ++ f ∷ []) R (rows ++ Kept (kept_row K f) ∷ []) (ap length (keys_still rows (Kept (kept_row K f)) refl) ∙ many) more below.1 next.1)

-- ---- Extend rows

-- the last flows don't fall back, in time too
abbrev pub NoneFalls : List Row → List Row → Type 0
NoneFalls [] [] = Unit {0}
NoneFalls [] (r ∷ R) = ⊥
NoneFalls (q ∷ Q) [] = ⊥
NoneFalls (q ∷ Q) (r ∷ R) = ((place q.last ≤ place r.last) × (time q.last ≤ time r.last)) × NoneFalls Q R

got : (P : List Row) (q : Row) (Q : List Row) → slice_get (P ++ q ∷ Q) (length P) ≡ Some q
got [] q Q = refl
got (p ∷ P) q Q = got P q Q

within : (P : List Row) (q : Row) (Q : List Row) → length P < length (P ++ q ∷ Q)
within [] q Q = omega arith
within (p ∷ P) q Q = let lt = within P q Q in omega (arith, lt)

longer : (P : List Row) (r : Row) → suc (length P) ≡ length (P ++ r ∷ [])
longer [] r = refl
longer (p ∷ P) r = ap suc (longer P r)

same_some : (q r : Row) → Some q ≡ Some r → q ≡ r
same_some q r is = cc

not_same : (a b : ℕ) → a ≤ b → (a == b) ≡ false → a < b
not_same a b le is = grind (arith, nat_tests)

changed_there : (P : List Row) (q : Row) (Q : List Row) (f : Row → Row) → changed_at (length P) f (P ++ q ∷ Q) ≡ P ++ f q ∷ Q
changed_there [] q Q f = refl
changed_there (p ∷ P) q Q f = ap (λ (x : List Row). p ∷ x) (changed_there P q Q f)

extend_case : (bounds : Bounds) (b : Bool) (i : ℕ) (P Q R : List Row) (q r : Row) (rows : List StoreRow) → (q.last.at.place == r.last.at.place) ≡ b → i ≡ length P → rows_of rows ≡ P ++ q ∷ Q → (place q.last ≤ place r.last) × (time q.last ≤ time r.last)
    → ((S : List Row) (more : List StoreRow) → suc i ≡ length S → rows_of more ≡ S ++ Q → EachAfter (MayStand bounds Continuous) more (map Extend (extends_from (suc i) Q R)))
    → EachAfter (MayStand bounds Continuous) rows (map Extend ((if b then [] else record { row = i; mark = mark_of r.last } ∷ []) ++ extends_from (suc i) Q R))
extend_case bounds true i P Q R q r rows same at is up go = go (P ++ q ∷ []) rows (ap suc at ∙ longer P q) (is ∙ sym (append_assoc P (q ∷ []) Q))
extend_case bounds false i P Q R q r rows same at is up go =
    let e : ExtendRow = record { row = i; mark = mark_of r.last } in
    let row : IsNextExtend Continuous rows e = record {
      continuous = refl;
      there = subst (λ (n : ℕ). n < length (rows_of rows)) (sym at) (subst (λ (L : List Row). length P < length L) (sym is) (within P q Q));
      later = λ s found.
          let it : q ≡ s = same_some q s (sym (got P q Q) ∙ ap (λ (n : ℕ). slice_get (P ++ q ∷ Q) n) (sym at) ∙ ap (λ (L : List Row). slice_get L i) (sym is) ∙ found) in
          subst (λ (x : Row). IsLater x.last.at r.last.at) it (record { place = not_same q.last.at.place r.last.at.place up.0 same; time = up.1 });
    } in
    let next : rows_of (rows ++ Extend e ∷ []) ≡ (P ++ extended (mark_of r.last) q ∷ []) ++ Q =
    rows_push rows (Extend e) ∙ ap (changed_at i (extended (mark_of r.last))) is ∙ ap (λ (n : ℕ). changed_at n (extended (mark_of r.last)) (P ++ q ∷ Q)) at
    ∙ changed_there P q Q (extended (mark_of r.last)) ∙ sym (append_assoc P (extended (mark_of r.last) q ∷ []) Q) in
    (row, go (P ++ extended (mark_of r.last) q ∷ []) (rows ++ Extend e ∷ []) (ap suc at ∙ longer P (extended (mark_of r.last) q)) next)

pub extend_stand : (bounds : Bounds) (i : ℕ) (P Q R : List Row) (rows : List StoreRow) → i ≡ length P → rows_of rows ≡ P ++ Q → NoneFalls Q R → EachAfter (MayStand bounds Continuous) rows (map Extend (extends_from i Q R))
extend_stand bounds i P [] R rows at is up = tt
extend_stand bounds i P (q ∷ Q) [] rows at is up = tt
extend_stand bounds i P (q ∷ Q) (r ∷ R) rows at is up =
    extend_case bounds (q.last.at.place == r.last.at.place) i P Q R q r rows refl at is up.0 (λ S more n same. extend_stand bounds (suc i) S Q R more n same up.1)

-- if no last flow is another one, there are no such rows
same_place : (a b : ℕ) → a ≡ b → (a == b) ≡ true
same_place a b is = grind (arith, nat_tests)

pub no_extends : (i : ℕ) (Q R : List Row) → lasts Q ≡ lasts R → extends_from i Q R ≡ []
no_extends i [] R is = refl
no_extends i (q ∷ Q) [] is = refl
no_extends i (q ∷ Q) (r ∷ R) is =
    let head : q.last ≡ r.last = cc in
    let rest : lasts Q ≡ lasts R = cc in
    ap (λ (b : Bool). (if b then [] else record { row = i; mark = mark_of r.last } ∷ []) ++ extends_from (suc i) Q R) (same_place q.last.at.place r.last.at.place (ap (λ (f : Flow). f.at.place) head))
    ∙ no_extends (suc i) Q R rest
