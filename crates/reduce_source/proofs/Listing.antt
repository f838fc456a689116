-- The sources of an object in ascending order.
use Rattle.std.proofs.Common.{◌≡◌, ◌↔◌, ◌+◌, ◌<◌, ◌≤◌, ◌^◌, min, ℕ, List, [], ◌∷◌, ◌++◌, length, sym, subst, ◌∙◌, arith, inl, inr}
use Rattle.std.specs.List.{Contains}
use Rattle.std.proofs.lemmas.List.{get_or_past, map-append}
use Rattle.std.proofs.lemmas.List.Elements.{Contains-push, Contains-push_cases, Contains-append_left}
use Rattle.std.proofs.lemmas.Bool.{cases_eq, cases_lt}
use Rattle.flow_base.specs.declared.types.EntityId.{EntityId}
use Rattle.flow_base.specs.declared.types.Flow.{Flow}
use Rattle.reach_model.specs.Ids.{IsAscending, numbers}
use Rattle.reach_model.specs.SourceSets.{HasSource}
use Rattle.reach_model.proofs.Ascending.{ascending_push}
use Rattle.reduce_source.specs.Sets.{StandsFor}
use Rattle.reduce_source.specs.declared.standing.Standing.TheVariants.{Unknown, Source}
use Rattle.reduce_source.specs.declared.sets.SourceSets.{SourceSets}
use Rattle.reduce_source.proofs.SetLemmas.{numbered}

-- the sources of v below i are listed, in ascending order
pub record AreListedBelow (s : SourceSets) (v i : ℕ) (ids : List EntityId) : Type 0 where
  pub ascending : IsAscending (numbers ids)
  pub below : (x : ℕ) → Contains (numbers ids) x → x < i
  pub exact : (K : List Flow) → StandsFor s K → (x : ℕ) → Contains (numbers ids) x ↔ (x < i) × HasSource K v x

pub listed_none : (s : SourceSets) (v : ℕ) → AreListedBelow s v 0 []
listed_none s v = record {
  ascending = λ j k h hk. absurd (omega arith);
  below = λ x c. absurd (omega (arith, c.1));
  exact = λ K t x. (λ c. absurd (omega (arith, c.1)), λ p. absurd (omega (arith, p.0)));
}

pub listed_more : (s : SourceSets) (v i : ℕ) (ids : List EntityId) → ((K : List Flow) → StandsFor s K → HasSource K v i) → AreListedBelow s v i ids → AreListedBelow s v (i + 1) (ids ++ record { 0 = i } ∷ [])
listed_more s v i ids is l =
    let e : numbers (ids ++ record { 0 = i } ∷ []) ≡ numbers ids ++ i ∷ [] = map-append (λ (x : EntityId). x.0) ids (record { 0 = i } ∷ []) in
    record {
      ascending = subst IsAscending (sym e) (ascending_push (numbers ids) i l.ascending l.below);
      below = λ x c. elim (Contains-push_cases (numbers ids) i x (subst (λ xs. Contains xs x) e c)) [
        | inl old ↦ let low = l.below x old in omega arith
        | inr new ↦ omega arith
      ];
      exact = λ K t x. (
        λ c. elim (Contains-push_cases (numbers ids) i x (subst (λ xs. Contains xs x) e c)) [
          | inl old ↦ let o = (l.exact K t x).0 old in (omega (arith, o.0), o.1)
          | inr new ↦ (omega arith, subst (HasSource K v) new (is K t))
        ],
        λ p. subst (λ xs. Contains xs x) (sym e) (elim (cases_eq i x) [
          | inl same ↦ subst (Contains (numbers ids ++ i ∷ [])) same (Contains-push (numbers ids) i)
          | inr differ ↦ Contains-append_left (numbers ids) (i ∷ []) x ((l.exact K t x).1 (omega (arith, p.0), p.1))
        ]),
      );
    }

pub listed_passed : (s : SourceSets) (v i : ℕ) (ids : List EntityId) → ((K : List Flow) → StandsFor s K → ¬ HasSource K v i) → AreListedBelow s v i ids → AreListedBelow s v (i + 1) ids
listed_passed s v i ids off l = record {
  ascending = l.ascending;
  below = λ x c. let low = l.below x c in omega arith;
  exact = λ K t x. (
    λ c. let o = (l.exact K t x).0 c in (omega (arith, o.0), o.1),
    λ p. elim (cases_eq x i) [
      | inl same ↦ absurd (off K t (subst (HasSource K v) same p.1))
      | inr differ ↦ (l.exact K t x).1 (omega (arith, p.0), p.1)
    ],
  );
}

-- a source has a place
source_fits : (s : SourceSets) (K : List Flow) → StandsFor s K → (v x : ℕ) → HasSource K v x → x < length s.standings.items
source_fits s K t v x h = elim (cases_lt x (length s.standings.items)) [
  | inl low ↦ low
  | inr high ↦
      let n = numbered s K x (t.standings x) h.0 in
      let clash : Unknown ≡ Source n.0 = sym (get_or_past s.standings.items x Unknown (omega arith)) ∙ n.1 in absurd (cc)
]

pub listed_all : (s : SourceSets) (v i : ℕ) (ids : List EntityId) → min (length s.standings.items) (2 ^ 32) ≤ i → AreListedBelow s v i ids
    → (K : List Flow) → StandsFor s K → (x : ℕ) → Contains (numbers ids) x ↔ HasSource K v x
listed_all s v i ids end l K t x = (
  λ c. ((l.exact K t x).0 c).1,
  λ h. let low = source_fits s K t v x h in let few = t.places in (l.exact K t x).1 (omega arith, h),
)
