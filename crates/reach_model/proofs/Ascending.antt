-- Marked numbers in ascending order.
use Rattle.std.proofs.Common.{◌≡◌, ℕ, ◌+◌, ◌<◌, ◌≤◌, ◌↔◌, List, [], ◌∷◌, ◌++◌, length, get_or, Bool, false, sym, subst, ◌∙◌, arith, inl, inr}
use Rattle.std.specs.List.{Contains}
use Rattle.std.proofs.lemmas.List.{get_or_append_left, get_or_push, length-append, map-append, get_or_past}
use Rattle.std.proofs.lemmas.List.Elements.{Contains-get_or, Contains-push, Contains-push_cases, Contains-append_left}
use Rattle.std.proofs.lemmas.Bool.{cases_eq, cases_lt, false≢true}
use Rattle.flow_base.specs.declared.types.EntityId.{EntityId}
use Rattle.reach_model.specs.Ids.{IsAscending, numbers}
use Rattle.reach_model.specs.Marks.{IsMarked}

pub ascending_push : (xs : List ℕ) (x : ℕ) → IsAscending xs → ((u : ℕ) → Contains xs u → u < x) → IsAscending (xs ++ x ∷ [])
ascending_push xs x a b j k h hk = elim (cases_lt k (length xs)) [
  | inl low ↦ let hj : j < length xs = omega arith in
      rw (get_or_append_left xs (x ∷ []) 0 j hj, get_or_append_left xs (x ∷ []) 0 k low) (a j k h low)
  | inr high ↦ let end : length xs ≡ k = omega (arith, length-append xs (x ∷ [])) in
      let hj : j < length xs = omega arith in
      rw (get_or_append_left xs (x ∷ []) 0 j hj, get_or_push xs x 0 k end) (b (get_or xs j 0) (Contains-get_or xs j 0 hj))
]

-- the marked numbers below i are listed, in ascending order
pub record IsListedBelow (marks : List Bool) (i : ℕ) (ids : List EntityId) : Type 0 where
  pub ascending : IsAscending (numbers ids)
  pub exact : (u : ℕ) → Contains (numbers ids) u ↔ (u < i) × IsMarked marks u

pub listed_more : (marks : List Bool) (i : ℕ) (ids : List EntityId) → IsMarked marks i → IsListedBelow marks i ids → IsListedBelow marks (i + 1) (ids ++ record { 0 = i } ∷ [])
listed_more marks i ids m l =
    let e : numbers (ids ++ record { 0 = i } ∷ []) ≡ numbers ids ++ i ∷ [] = map-append (λ (x : EntityId). x.0) ids (record { 0 = i } ∷ []) in
    record {
      ascending = subst IsAscending (sym e) (ascending_push (numbers ids) i l.ascending (λ u c. ((l.exact u).0 c).0));
      exact = λ u. (
        λ c. elim (Contains-push_cases (numbers ids) i u (subst (λ xs. Contains xs u) e c)) [
          | inl old ↦ let o = (l.exact u).0 old in (omega (arith, o.0), o.1)
          | inr new ↦ (omega arith, subst (IsMarked marks) new m)
        ],
        λ p. subst (λ xs. Contains xs u) (sym e) (elim (cases_eq i u) [
          | inl same ↦ subst (Contains (numbers ids ++ i ∷ [])) same (Contains-push (numbers ids) i)
          | inr differ ↦ Contains-append_left (numbers ids) (i ∷ []) u ((l.exact u).1 (omega (arith, p.0), p.1))
        ]),
      );
    }

pub listed_passed : (marks : List Bool) (i : ℕ) (ids : List EntityId) → get_or marks i false ≡ false → IsListedBelow marks i ids → IsListedBelow marks (i + 1) ids
listed_passed marks i ids f l = record {
  ascending = l.ascending;
  exact = λ u. (
    λ c. let o = (l.exact u).0 c in (omega (arith, o.0), o.1),
    λ p. elim (cases_eq u i) [
      | inl same ↦ absurd (false≢true (sym f ∙ subst (IsMarked marks) same p.1))
      | inr differ ↦ (l.exact u).1 (omega (arith, p.0), p.1)
    ],
  );
}

pub listed_all : (marks : List Bool) (ids : List EntityId) → (n : ℕ) → length marks ≤ n → IsListedBelow marks n ids → (u : ℕ) → Contains (numbers ids) u ↔ IsMarked marks u
listed_all marks ids n h l u = (
  λ c. ((l.exact u).0 c).1,
  λ m. (l.exact u).1 (
    elim (cases_lt u n) [
      | inl low ↦ low
      | inr high ↦ absurd (false≢true (sym (get_or_past marks u false (omega arith)) ∙ m))
    ],
    m,
  ),
)
