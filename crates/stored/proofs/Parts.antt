-- The Kept and Extend rows of a commit may stand after its Entity rows.
use Rattle.std.proofs.Common.{◌≡◌, ◌∙◌, refl, sym, ap, subst, ℕ, ◌<◌, List, [], ◌∷◌, ◌++◌, map, length, drop}
use Rattle.std.specs.Prelude.{fold}
use Rattle.std.specs.List.{AllByRecursion, Contains}
use Rattle.std.proofs.lemmas.Grind.{fold-append}
use Rattle.std.proofs.lemmas.List.{append-nil, map-append}
use Rattle.std.proofs.lemmas.List.Elements.{recursion_from_All, Contains-append_left}
use Rattle.flow_base.specs.declared.types.Flow.{Flow}
use Rattle.reach_model.specs.declared.modes.Mode.{Mode}
use Rattle.reach_model.specs.declared.modes.Mode.TheVariants.{Plain, Continuous, Full, Source}
use Rattle.reach_model.specs.Flows.{IsLawful, source, target}
use Rattle.reach_model.specs.Numbers.{IsLawfulWith}
use Rattle.reach_model.specs.Rows.{Row, Keeps, firsts, lasts}
use Rattle.reach_model.proofs.RowFacts.{IsRowOf, rows_of as facts}
use Rattle.reach_model.proofs.Numbering.{ends_known}
use Rattle.reach_model.proofs.Lawful.{times_ordered}
use Rattle.reach_model.proofs.SingleRows.{singles}
use Rattle.reach_model.proofs.Determined.{same_rows}
use Rattle.row_codec.specs.declared.rows.KeptRow.{KeptRow}
use Rattle.row_codec.specs.declared.rows.ExtendRow.{ExtendRow}
use Rattle.row_codec.specs.declared.rows.StoreRow.{StoreRow}
use Rattle.row_codec.specs.declared.rows.StoreRow.TheVariants.{Entity, Kept, Extend}
use Rattle.store_check.specs.Conditions.{Bounds, MayStand, EachAfter}
use Rattle.store_check.specs.Store.{keys, grown, rows_of}
use Rattle.stored.specs.Batch.{Batch, AreRowsOf, fresh, extends_from}
use Rattle.stored.specs.Going.{to_kept, to_extends}
use Rattle.stored.proofs.Lists.{IsFront}
use Rattle.stored.proofs.KeptLaws.{IsFrom, all_weaker, all_dropped, lawful_fronts, kept_fold, kept_fresh, pass, row_kept}
use Rattle.stored.proofs.Growth.{AreNext, LastsRise, Growth, growth}
use Rattle.stored.proofs.Standing.{AreBelow, kept_stand, NoneFalls, extend_stand, no_extends}

-- ---- no last flow falls back

falls_fresh : (F : List Flow) → IsLawful F → (A : List Row) → AllByRecursion (IsRowOf F) A → NoneFalls (map fresh A) A
falls_fresh F l [] all = tt
falls_fresh F l (a ∷ A) all = ((all.0.ordered, times_ordered l a.first a.last all.0.first_there all.0.last_there all.0.ordered), falls_fresh F l A all.1)

falls : (F : List Flow) → IsLawful F → (B A : List Row) → LastsRise B A → AllByRecursion (IsFrom F) B → AllByRecursion (IsRowOf F) A → NoneFalls (B ++ map fresh (drop (length B) A)) A
falls F l [] A rise from all = falls_fresh F l A all
falls F l (b ∷ B) [] rise from all = absurd rise
falls F l (b ∷ B) (a ∷ A) rise from all = ((rise.0, times_ordered l b.last a.last from.0.there all.0.last_there rise.0), falls F l B A rise.1 from.1 all.1)

-- ---- what is new

firsts_dropped : (B A : List Row) (new : List Flow) → firsts A ≡ firsts B ++ new → firsts (drop (length B) A) ≡ new
firsts_dropped [] A new is = is
firsts_dropped (b ∷ B) [] new is = absurd cc
firsts_dropped (b ∷ B) (a ∷ A) new is = firsts_dropped B A new (let rest : firsts A ≡ firsts B ++ new = cc in rest)

fresh_lasts : (R : List Row) → lasts (map fresh R) ≡ firsts R
fresh_lasts [] = refl
fresh_lasts (r ∷ R) = ap (λ (x : List Flow). r.first ∷ x) (fresh_lasts R)

pub rows_at_kept : (before : List StoreRow) (b : Batch) → rows_of (to_kept before b) ≡ rows_of before
rows_at_kept before b =
    fold-append grown [] before (map Entity b.entities) ∙ ap (fold grown (rows_of before)) (sym (append-nil (map Entity b.entities))) ∙ pass Entity (λ x e. refl) (rows_of before) b.entities []

rows_at_extends : (before : List StoreRow) (b : Batch) → rows_of (to_extends before b) ≡ rows_of before ++ map row_kept b.kept
rows_at_extends before b =
    fold-append grown [] (to_kept before b) (map Kept b.kept) ∙ ap (λ (R : List Row). fold grown R (map Kept b.kept)) (rows_at_kept before b) ∙ kept_fold (rows_of before) b.kept

-- ---- both parts

pub record BothStand (bounds : Bounds) (mode : Mode) (before : List StoreRow) (b : Batch) : Type 0 where
  pub kept : EachAfter (MayStand bounds mode) (to_kept before b) (map Kept b.kept)
  pub extends : EachAfter (MayStand bounds mode) (to_extends before b) (map Extend b.extends)

extends_by_mode : (bounds : Bounds) (mode : Mode) (Q A B D : List Row) (rows : List StoreRow) → Q ≡ B ++ map fresh D → firsts A ≡ firsts B ++ firsts D → rows_of rows ≡ Q → NoneFalls Q A
    → (earlier now : List Flow) → Keeps mode earlier B → Keeps mode now A → EachAfter (MayStand bounds mode) rows (map Extend (extends_from 0 Q A))
extends_by_mode bounds Continuous Q A B D rows q is at up earlier now kb ka = extend_stand bounds 0 [] Q A rows refl at up
extends_by_mode bounds Plain Q A B D rows q is at up earlier now kb ka =
    let same : lasts Q ≡ lasts A = ap lasts q ∙ map-append (λ (r : Row). r.last) B (map fresh D) ∙ ap (λ (x : List Flow). lasts B ++ x) (fresh_lasts D) ∙ ap (λ (x : List Flow). x ++ firsts D) (singles tt kb) ∙ sym is ∙ sym (singles tt ka) in
    subst (λ (es : List ExtendRow). EachAfter (MayStand bounds Plain) rows (map Extend es)) (sym (no_extends 0 Q A same)) tt
extends_by_mode bounds Full Q A B D rows q is at up earlier now kb ka =
    let same : lasts Q ≡ lasts A = ap lasts q ∙ map-append (λ (r : Row). r.last) B (map fresh D) ∙ ap (λ (x : List Flow). lasts B ++ x) (fresh_lasts D) ∙ ap (λ (x : List Flow). x ++ firsts D) (singles tt kb) ∙ sym is ∙ sym (singles tt ka) in
    subst (λ (es : List ExtendRow). EachAfter (MayStand bounds Full) rows (map Extend es)) (sym (no_extends 0 Q A same)) tt
extends_by_mode bounds Source Q A B D rows q is at up earlier now kb ka =
    let same : lasts Q ≡ lasts A = ap lasts q ∙ map-append (λ (r : Row). r.last) B (map fresh D) ∙ ap (λ (x : List Flow). lasts B ++ x) (fresh_lasts D) ∙ ap (λ (x : List Flow). x ++ firsts D) (singles tt kb) ∙ sym is ∙ sym (singles tt ka) in
    subst (λ (es : List ExtendRow). EachAfter (MayStand bounds Source) rows (map Extend es)) (sym (no_extends 0 Q A same)) tt

pub both_stand : (bounds : Bounds) (mode : Mode) (count : ℕ) (earlier now : List Flow) (before : List StoreRow) (b : Batch) → IsLawfulWith count now → IsFront earlier now → Keeps mode earlier (rows_of before) → AreRowsOf mode earlier now b → length (keys (to_kept before b)) ≡ count → BothStand bounds mode before b
both_stand bounds mode count earlier now before b l f k t many =
    let l0 : IsLawful earlier = lawful_fronts earlier f.0 (subst IsLawful f.1 l.lawful) in
    let D = drop (length t.before) t.after in
    let Q = t.before ++ map fresh D in
    let g : Growth t.before t.after = growth count l t.kept_now earlier t.before t.kept_before f in
    let new : AllByRecursion (IsRowOf now) t.after = recursion_from_All (IsRowOf now) t.after (facts l.lawful t.kept_now) in
    let old : AllByRecursion (IsRowOf earlier) t.before = recursion_from_All (IsRowOf earlier) t.before (facts l0 t.kept_before) in
    let old_from : AllByRecursion (IsFrom now) t.before = all_weaker (IsRowOf earlier) (IsFrom now) (λ r h. record { there = subst (λ (G : List Flow). Contains G r.last) (sym f.1) (Contains-append_left earlier f.0 r.last h.last_there); pair = h.pair }) t.before old in
    let below : AllByRecursion (AreBelow count) t.after = all_weaker (IsRowOf now) (AreBelow count) (λ r h. subst (λ (n : ℕ). (source r.first < n) × (target r.first < n)) l.objects (ends_known now r.first h.first_there)) t.after new in
    let same : rows_of before ≡ t.before = same_rows l0 k t.kept_before in
    let news : firsts D ≡ g.new = firsts_dropped t.before t.after g.new g.is in
    let at_extends : rows_of (to_extends before b) ≡ Q =
    rows_at_extends before b ∙ ap (λ (R : List Row). R ++ map row_kept b.kept) same ∙ ap (λ (ks : List KeptRow). t.before ++ map row_kept ks) t.kept ∙ ap (λ (R : List Row). t.before ++ R) (kept_fresh (firsts t.before) D) in
    record {
      kept = subst (λ (ks : List KeptRow). EachAfter (MayStand bounds mode) (to_kept before b) (map Kept ks)) (sym t.kept)
          (kept_stand bounds mode count (firsts t.before) D (to_kept before b) many (ap firsts (rows_at_kept before b ∙ same)) (all_dropped (AreBelow count) (length t.before) t.after below)
          (subst (λ (N : List Flow). AreNext (firsts t.before) N) (sym news) g.next));
      extends = subst (λ (es : List ExtendRow). EachAfter (MayStand bounds mode) (to_extends before b) (map Extend es)) (sym t.extends)
          (extends_by_mode bounds mode Q t.after t.before D (to_extends before b) refl (g.is ∙ ap (λ (N : List Flow). firsts t.before ++ N) (sym news)) at_extends
          (falls now l.lawful t.before t.after g.rise old_from new) earlier now t.kept_before t.kept_now);
    }
