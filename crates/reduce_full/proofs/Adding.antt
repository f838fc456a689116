-- What the tables say after a verdict on a flow, and after a row that was kept before.
use Rattle.std.proofs.Common.{◌≡◌, ◌≢◌, ℕ, ◌<◌, ◌^◌, List, [], ◌∷◌, ◌++◌, length, get_or, refl, sym, ap, subst, ◌∙◌, arith, inl, inr}
use Rattle.std.specs.List.{Contains}
use Rattle.std.proofs.lemmas.List.{map-append, length-append, length-map, get_or_append_left, get_or_push}
use Rattle.std.proofs.lemmas.List.Elements.{Contains-push_cases, Contains-get_or}
use Rattle.std.proofs.Math.Seq.{map-set_same}
use Rattle.std.proofs.lemmas.Bool.{cases_lt}
use Rattle.flow_base.specs.declared.types.Flow.{Flow}
use Rattle.reach_model.specs.declared.modes.Verdict.TheVariants.{Extend}
use Rattle.reach_model.specs.Flows.{source, target, place}
use Rattle.reach_model.specs.Laws.{AscendsByFirst}
use Rattle.reach_model.specs.Rows.{Row, SamePair, firsts, row_of, rows_after}
use Rattle.reach_model.proofs.Members.{from_map}
use Rattle.reach_model.proofs.Redundant.{set_cases}
use Rattle.version_graph.specs.Links.{EndsDiffer}
use Rattle.version_graph.specs.Tables.{StandsFor as HasVersions}
use Rattle.reduce_full.specs.declared.full.Full.{Full}
use Rattle.reduce_full.specs.Tables.{Holds}

-- the first flows of the rows and one more
pub firsts_push : (R : List Row) (r : Row) → firsts (R ++ r ∷ []) ≡ firsts R ++ r.first ∷ []
firsts_push R r = map-append (λ (r : Row). r.first) R (r ∷ [])

-- an extended row keeps its first flow
pub firsts_extended : (R : List Row) (f : Flow) (i : ℕ) → firsts (rows_after R f (Extend i)) ≡ firsts R
firsts_extended R f i = map-set_same (λ (r : Row). r.first) R i (record (get_or R i (row_of f)) { last = f }) (row_of f) refl

module _ (R : List Row) (r : Row) where
  pub pairs_push : ((s : Row) → Contains R s → SamePair s.last s.first) → SamePair r.last r.first → (s : Row) → Contains (R ++ r ∷ []) s → SamePair s.last s.first
  pairs_push old new s c = elim (Contains-push_cases R r s c) [ inl o ↦ old s o | inr e ↦ subst (λ (x : Row). SamePair x.last x.first) e new ]

  pub ends_push : EndsDiffer R → source r.first ≢ target r.first → EndsDiffer (R ++ r ∷ [])
  ends_push old new s c = elim (Contains-push_cases R r s c) [ inl o ↦ old s o | inr e ↦ subst (λ (x : Row). source x.first ≢ target x.first) e new ]

  pub ascends_push : AscendsByFirst R → ((s : Row) → Contains R s → place s.first < place r.first) → AscendsByFirst (R ++ r ∷ [])
  ascends_push up after = subst Up (sym (firsts_push R r)) pushed
    where
      Up : List Flow → Type 0
      Up K = (i j : ℕ) (d : Flow) → i < j → j < length K → place (get_or K i d) < place (get_or K j d)

      earlier : (g : Flow) → Contains (firsts R) g → place g < place r.first
      earlier g c = let m = from_map (λ (r : Row). r.first) R g c in let a = after m.0 m.1 in omega (arith, ap place m.2)

      pushed : Up (firsts R ++ r.first ∷ [])
      pushed i j d low h = elim (cases_lt j (length (firsts R))) [
        | inl old ↦ let hi : i < length (firsts R) = omega arith in
            rw (get_or_append_left (firsts R) (r.first ∷ []) d i hi, get_or_append_left (firsts R) (r.first ∷ []) d j old) (up i j d low old)
        | inr new ↦ let end : length (firsts R) ≡ j = omega (arith, h, length-append (firsts R) (r.first ∷ [])) in let hi : i < length (firsts R) = omega arith in
            rw (get_or_append_left (firsts R) (r.first ∷ []) d i hi, get_or_push (firsts R) r.first d j end) (earlier (get_or (firsts R) i d) (Contains-get_or (firsts R) i d hi))
      ]

-- an extended row still has one pair
pub pairs_extended : (R : List Row) (f : Flow) (i : ℕ) → ((s : Row) → Contains R s → SamePair s.last s.first) → i < length R → ((d : Row) → SamePair (get_or R i d).last f)
    → (s : Row) → Contains (rows_after R f (Extend i)) s → SamePair s.last s.first
pairs_extended R f i old h same s c =
    let x = get_or R i (row_of f) in
    let at = old x (Contains-get_or R i (row_of f) h) in
    let here = same (row_of f) in
    elim (set_cases R i (record x { last = f }) s c) [
      | inl o ↦ old s o
      | inr e ↦ subst (λ (x : Row). SamePair x.last x.first) e (sym here.0 ∙ at.0, sym here.1 ∙ at.1)
    ]

-- the first flows of few rows are few
pub firsts_few : (R : List Row) → length R < 2 ^ 63 → length (firsts R) < 2 ^ 63
firsts_few R few = simp length-map few

-- one more row, whose first flow was kept
pub holds_push : (new : Full) (R : List Row) (r : Row) → ((s : Row) → Contains R s → SamePair s.last s.first) → SamePair r.last r.first → HasVersions new.versions (firsts R ++ r.first ∷ []) → Holds new (R ++ r ∷ [])
holds_push new R r old pair kept = record {
  versions = subst (HasVersions new.versions) (sym (firsts_push R r)) kept;
  pairs = pairs_push R r old pair;
}
