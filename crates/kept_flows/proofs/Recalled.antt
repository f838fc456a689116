-- Rows that come back one by one.
use Rattle.std.proofs.Common.{◌≡◌, ℕ, ◌<◌, ◌≤◌, ◌+◌, ◌^◌, List, [], ◌∷◌, ◌++◌, length, get_or, take, sym, ap, subst, ◌∙◌, arith, inl, inr}
use Rattle.std.specs.List.{Contains}
use Rattle.std.proofs.lemmas.List.{get_or_default, length-append, length-map, map-append, get_or-map, get_or-take, length-take-le}
use Rattle.std.proofs.lemmas.List.Elements.{Contains-push_cases}
use Rattle.flow_base.specs.declared.types.Flow.{Flow}
use Rattle.reach_model.specs.Flows.{place, source, target}
use Rattle.reach_model.specs.Rows.{Row, firsts, lasts}
use Rattle.reach_rows.specs.Kept.{AreRows}
use Rattle.reach_rows.specs.Verdicts.{IsRecalled}
use Rattle.kept_flows.specs.KeptFlows.{AreCounted}

module _ (R : List Row) (are : AreRows R) (i : ℕ) (r : Row) (h : i < length R) (is : get_or R i r ≡ r) where
  all : length (take i R) ≡ i
  all = let low : i ≤ length R = omega arith in length-take-le i R low

  -- the first flow of the row at an index
  first_at : (j : ℕ) (s : Row) → j < length R → get_or R j s ≡ s → get_or (firsts R) j r.first ≡ s.first
  first_at j s k e = let low : j < length (firsts R) = simp length-map k in
      get_or_default (firsts R) j r.first s.first low ∙ get_or-map (λ (x : Row). x.first) R j s s.first k ∙ ap (λ (x : Row). x.first) e

  before : (s : Row) → Contains (take i R) s → place s.first < place r.first
  before s c =
      let low : c.0 < i = subst (λ n. c.0 < n) all c.1 in
      let within : c.0 < length R = omega (arith, low, h) in
      let there : get_or R c.0 s ≡ s = sym (get_or-take i R c.0 s low) ∙ c.2 in
      subst (λ (f : Flow). place f < place r.first) (first_at c.0 s within there)
      (subst (λ (f : Flow). place (get_or (firsts R) c.0 r.first) < place f) (first_at i r h is) (are.ascend c.0 i r.first low (simp length-map h)))

  -- the row at an index comes back after those before it
  pub recalled_at : i < 2 ^ 63 → IsRecalled (take i R) r
  recalled_at few = record {
    pair = are.pairs r (i, h, is);
    differ = are.ends_differ r (i, h, is);
    after = before;
    few = subst (λ n. n < 2 ^ 63) (sym all) few;
  }

-- one more row between known objects
pub counted_more : (S : List Row) (n o : ℕ) (r : Row) → (source r.last < o) × (target r.last < o) → AreCounted S n o → AreCounted (S ++ r ∷ []) (n + 1) o
counted_more S n o r below are = record {
  counted = length-append S (r ∷ []) ∙ ap (λ k. k + 1) are.counted;
  ends = λ g c. elim (Contains-push_cases (lasts S) r.last g (subst (λ K. Contains K g) (map-append (λ (x : Row). x.last) S (r ∷ [])) c)) [
    | inl old ↦ are.ends g old
    | inr e ↦ subst (λ (x : Flow). (source x < o) × (target x < o)) e below
  ];
}
