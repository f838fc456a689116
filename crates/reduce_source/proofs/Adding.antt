-- What the tables say of the rows after a verdict on a flow, and after a row that was kept before.
use Rattle.std.proofs.Common.{◌≡◌, ◌≢◌, ℕ, ◌<◌, List, [], ◌∷◌, ◌++◌, length, get_or, refl, sym, ap, subst, ◌∙◌, arith, inl, inr}
use Rattle.std.specs.List.{Contains}
use Rattle.std.proofs.lemmas.Bool.{cases_eq}
use Rattle.std.proofs.lemmas.List.{map-append}
use Rattle.std.proofs.lemmas.List.Elements.{Contains-append_left, Contains-push}
use Rattle.flow_base.specs.declared.types.Flow.{Flow}
use Rattle.reach_model.specs.declared.modes.Verdict.TheVariants.{Extend}
use Rattle.reach_model.specs.Flows.{source, target, place}
use Rattle.reach_model.specs.Rows.{Row, SamePair, firsts, row_of, rows_after}
use Rattle.reach_model.specs.SourceSets.{IsLater}
use Rattle.reach_model.proofs.FirstFlows.{known_or_not, touched}
use Rattle.reach_model.proofs.Members.{from_map, Contains-set, Contains-set_same}
use Rattle.reach_model.proofs.SourceSets.{sources_after}
use Rattle.reach_rows.specs.Verdicts.{HasEnd}
use Rattle.reduce_source.specs.Sets.{StandsFor as HasSets, standing_of}
use Rattle.reduce_source.specs.Tables.{AreReached, StandsFor, Holds}
use Rattle.reduce_source.specs.declared.sources.Sources.{Sources}
use Rattle.reduce_source.proofs.Deciding.{new_first}

-- the first flows of the rows and one more
pub firsts_push : (R : List Row) (r : Row) → firsts (R ++ r ∷ []) ≡ firsts R ++ r.first ∷ []
firsts_push R r = map-append (λ (r : Row). r.first) R (r ∷ [])

-- a flow that comes after the first flow of each row
pub later_firsts : (R : List Row) (f : Flow) → ((r : Row) → Contains R r → place r.first < place f) → IsLater (firsts R) f
later_firsts R f after g c = let m = from_map (λ (r : Row). r.first) R g c in let a = after m.0 m.1 in let e = ap place m.2 in omega arith

-- some source reaches each object after one more flow
reached_next : (K : List Flow) (f : Flow) → IsLater K f → source f ≢ target f → AreReached K → AreReached (K ++ f ∷ [])
reached_next K f later differ reached v g at = elim (known_or_not K v) [
  | inl k ↦ let r = reached v k.0 k.1 in (r.0, (sources_after K f later differ v r.0).1 (inl r.1))
  | inr none ↦ elim (touched f v (new_first K f v none g at)) [
    | inl e ↦ (v, (sources_after K f later differ v v).1 (inr (inl ((none, e), inl (sym e)))))
    | inr e ↦ elim (known_or_not K (source f)) [
      | inl k ↦ let r = reached (source f) k.0 k.1 in (r.0, (sources_after K f later differ v r.0).1 (inr (inr (sym e, r.1))))
      | inr fresh ↦ (source f, (sources_after K f later differ v (source f)).1 (inr (inl ((fresh, refl), inr (sym e)))))
    ]
  ]
]

-- one more row, whose first flow was kept
pub stands_push : (old new : Sources) (R : List Row) (r : Row) → StandsFor old R → ((s : Row) → Contains R s → place s.first < place r.first) → source r.first ≢ target r.first
    → (IsLater (firsts R) r.first → HasSets new.sets (firsts R ++ r.first ∷ [])) → StandsFor new (R ++ r ∷ [])
stands_push old new R r s after differ kept =
    let later = later_firsts R r.first after in
    record {
      sets = subst (HasSets new.sets) (sym (firsts_push R r)) (kept later);
      reached = subst AreReached (sym (firsts_push R r)) (reached_next (firsts R) r.first later differ s.reached);
    }

end_stays : (R : List Row) (r : Row) (x : ℕ) → HasEnd R x → HasEnd (R ++ r ∷ []) x
end_stays R r x h = (h.0, Contains-append_left R (r ∷ []) h.0 h.1, h.2)

-- one more row: only its ends may be new
pub holds_push : (old new : Sources) (R : List Row) (r : Row) (u v : ℕ) → Holds old R → source r.last ≡ u → target r.last ≡ v
    → ((x : ℕ) → x ≢ v → x ≢ u → standing_of new.sets x ≡ standing_of old.sets x) → Holds new (R ++ r ∷ [])
holds_push old new R r u v h eu ev others x n = elim (cases_eq x u) [
  | inl e ↦ (r, Contains-push R r, inl (eu ∙ sym e))
  | inr nu ↦ elim (cases_eq x v) [
    | inl e ↦ (r, Contains-push R r, inr (ev ∙ sym e))
    | inr nv ↦ end_stays R r x (h x (λ o. n (others x nv nu ∙ o)))
  ]
]

-- an extended row keeps its pair
pub end_extended : (R : List Row) (f : Flow) (i : ℕ) → i < length R → ((d : Row) → SamePair (get_or R i d).last f) → (x : ℕ) → HasEnd R x → HasEnd (rows_after R f (Extend i)) x
end_extended R f i h same x (r, c, e) =
    let y : Row = record (get_or R i (row_of f)) { last = f } in
    elim (Contains-set R i y r c) [
      | inl there ↦ (r, there, e)
      | inr at ↦
          let pair = same r in
          let s : source f ≡ source r.last = sym pair.0 ∙ ap (λ (q : Row). source q.last) at.1 in
          let t : target f ≡ target r.last = sym pair.1 ∙ ap (λ (q : Row). target q.last) at.1 in
          (y, Contains-set_same R i y h, elim e [ inl a ↦ inl (s ∙ a) | inr b ↦ inr (t ∙ b) ])
    ]
