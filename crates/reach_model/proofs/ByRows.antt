-- The verdict on a flow follows from the rows alone.
use Rattle.std.proofs.Common.{◌≡◌, ℕ, ◌<◌, ◌≤◌, List, [], ◌∷◌, ◌++◌, get_or, sym, ap, subst, ◌∙◌, arith, inl, inr}
use Rattle.std.specs.List.{Contains}
use Rattle.std.specs.Option.{option_or}
use Rattle.std.proofs.lemmas.List.Elements.{All-contains, Contains-get_or}
use Rattle.std.proofs.lemmas.Bool.{cases_eq}
use Rattle.flow_base.specs.declared.types.Flow.{Flow}
use Rattle.reach_model.specs.declared.modes.Mode.{Mode}
use Rattle.reach_model.specs.declared.modes.Mode.TheVariants.{Plain, Continuous, Full, Source}
use Rattle.reach_model.specs.declared.modes.Verdict.{Verdict}
use Rattle.reach_model.specs.declared.modes.Verdict.TheVariants.{Drop, Add, Extend}
use Rattle.reach_model.specs.Flows.{source, target, place, IsLawful}
use Rattle.reach_model.specs.Sources.{first_at}
use Rattle.reach_model.specs.Rows.{Row, SamePair, CarriesOn, IsSourceOf, IsVerdict, firsts, Keeps}
use Rattle.reach_model.specs.ByRows.{CarriesOnRow, IsVerdictByRows}
use Rattle.reach_model.proofs.Lawful.{lawful_front, same_place}
use Rattle.reach_model.proofs.RowFacts.{IsRowOf, rows_of}
use Rattle.reach_model.proofs.Twins.{continuous_row, first_there}
use Rattle.reach_model.proofs.PathLemmas.{path_weaker}
use Rattle.reach_model.proofs.Within.{Among}
use Rattle.reach_model.proofs.FirstFlows.{first_push}
use Rattle.reach_model.proofs.KeepsFirst.{first_kept}
use Rattle.reach_model.proofs.SourceMode.{was_source, source_path}

module _ {F : List Flow} {R : List Row} (l : IsLawful F) (k : Keeps Continuous F R) (f : Flow) where
  -- a flow of F after a row's end lies in a row that ends after it
  row_after : (g h : Flow) → Contains F h → place g < place h → (s : Row) × Contains R s × SamePair s.last h × (place g < place s.last)
  row_after g h c after =
      let at = continuous_row l k h c in
      let w = All-contains (IsRowOf F) R at.0 (rows_of l k) at.1 in
      let in_row = at.2 in
      let to : place h ≤ place (at.0).last = in_row.to in
      (at.0, at.1, (w.pair.0 ∙ in_row.pair.0, w.pair.1 ∙ in_row.pair.1), omega arith)

  pub row_carries : (r : Row) → Contains R r → CarriesOnRow R r f → CarriesOn F r.last f
  row_carries r c on = record {
    there = (All-contains (IsRowOf F) R r (rows_of l k) c).last_there;
    pair = on.pair;
    nothing_between = λ h ch after. let s = row_after r.last h ch after in let n = on.nothing_after s.0 s.1 s.3 in
        (λ into. n.0 (s.2.1 ∙ into), λ out. n.1 (s.2.0 ∙ out));
    no_later = λ h ch after same. let s = row_after r.last h ch after in on.no_later s.0 s.1 s.3 (s.2.0 ∙ same.0, s.2.1 ∙ same.1);
  }

  pub carries_row : (r : Row) → CarriesOn F r.last f → CarriesOnRow R r f
  carries_row r on = record {
    pair = on.pair;
    nothing_after = λ s c after. on.nothing_between s.last ((All-contains (IsRowOf F) R s (rows_of l k) c).last_there) after;
    no_later = λ s c after. on.no_later s.last ((All-contains (IsRowOf F) R s (rows_of l k) c).last_there) after;
  }

  -- the flow that f carries on from is the last of a row
  pub carried : (g : Flow) → CarriesOn F g f → (r : Row) × Contains R r × (r.last ≡ g)
  carried g on =
      let at = continuous_row l k g on.there in
      let r = at.0 in
      let w = All-contains (IsRowOf F) R r (rows_of l k) at.1 in
      let in_row = at.2 in
      let to : place g ≤ place r.last = in_row.to in (
        r,
        at.1,
        elim (cases_eq (place r.last) (place g)) [
          | inl same ↦ same_place l r.last g w.last_there on.there same
          | inr differ ↦ absurd (on.no_later r.last w.last_there (omega arith) (w.pair.0 ∙ in_row.pair.0 ∙ on.pair.0, w.pair.1 ∙ in_row.pair.1 ∙ on.pair.1))
        ],
      )

module _ {F : List Flow} {R : List Row} (f : Flow) (l : IsLawful (F ++ f ∷ [])) (k : Keeps Source F R) where
  same_first : (x : ℕ) → first_at (firsts R ++ f ∷ []) x ≡ first_at (F ++ f ∷ []) x
  same_first x = first_push (firsts R) f x ∙ ap (λ o. option_or o (first_at (f ∷ []) x)) (first_kept (lawful_front F f l) k x) ∙ sym (first_push F f x)

  pub sources_by_rows : (v x : ℕ) → IsSourceOf (firsts R) f v x → IsSourceOf F f v x
  sources_by_rows v x s = (
    (s.0.0, sym (same_first x) ∙ s.0.1, s.0.2),
    (s.1.0, path_weaker (Contains (firsts R)) (Contains F) (λ g c. first_there R g (rows_of (lawful_front F f l) k) c) 0 0 x v s.1.0 (omega arith) s.1.1),
  )

  pub rows_by_sources : (v x : ℕ) → IsSourceOf F f v x → IsSourceOf (firsts R) f v x
  rows_by_sources v x s =
      let T : Flow → Type 0 = λ g. Unit {0} in (
        (s.0.0, same_first x ∙ s.0.1, s.0.2),
        elim (was_source F f x v s.0 s.1.0 s.1.1) [
          | inl e ↦ ([], e)
          | inr was ↦ let r = source_path (lawful_front F f l) k T (λ g e cg ce low t. tt) x v was s.1.0 (path_weaker (Contains F) (Among F T) (λ g c. (c, tt)) 0 0 x v s.1.0 (omega arith) s.1.1) in
              (r.0, path_weaker (Among (firsts R) T) (Contains (firsts R)) (λ g c. c.0) 0 0 x v r.0 (omega arith) r.1)
        ],
      )

-- the verdict by the rows is the verdict
pub verdict_by_rows : (mode : Mode) (F : List Flow) (R : List Row) (f : Flow) (d : Verdict) → IsLawful (F ++ f ∷ []) → Keeps mode F R → IsVerdictByRows mode R f d → IsVerdict mode F R f d
verdict_by_rows Plain F R f Drop l k v = v
verdict_by_rows Plain F R f Add l k v = v
verdict_by_rows Plain F R f (Extend i) l k v = v
verdict_by_rows Continuous F R f Drop l k v = v
verdict_by_rows Continuous F R f Add l k v = λ g on. let c = carried (lawful_front F f l) k f g on in
    v c.0 c.1 (carries_row (lawful_front F f l) k f c.0 (subst (λ x. CarriesOn F x f) (sym c.2) on))
verdict_by_rows Continuous F R f (Extend i) l k v = (v.0, λ d. row_carries (lawful_front F f l) k f (get_or R i d) (Contains-get_or R i d v.0) (v.1 d))
verdict_by_rows Full F R f Drop l k v = v
verdict_by_rows Full F R f Add l k v = v
verdict_by_rows Full F R f (Extend i) l k v = v
verdict_by_rows Source F R f Drop l k v = λ x s. sources_by_rows f l k (target f) x (v x (rows_by_sources f l k (source f) x s))
verdict_by_rows Source F R f Add l k v = (v.0, sources_by_rows f l k (source f) v.0 v.1, λ s. v.2 (rows_by_sources f l k (target f) v.0 s))
verdict_by_rows Source F R f (Extend i) l k v = v
