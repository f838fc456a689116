-- The rows that a walk reads are those of its answer.
use Rattle.std.proofs.Common.{◌≡◌, ℕ, ◌<◌, ◌≤◌, ◌↔◌, List, length, Option, Bool, true, false, cond, sym, ◌∙◌, arith, inl, inr}
use Rattle.std.specs.List.{Contains, count_by}
use Rattle.std.specs.Cmp.{nat_eq_equiv}
use Rattle.std.proofs.lemmas.Bool.{cases_Bool, cases_lt, false≢true}
use Rattle.std.proofs.lemmas.List.{get_or_past}
use Rattle.std.proofs.lemmas.List.Sums.{sum_by-le-sum_by}
use Rattle.std.proofs.lemmas.Map.Views.{list_any-from_Contains}
use Rattle.flow_base.specs.declared.types.EntityId.{EntityId}
use Rattle.flow_base.specs.declared.types.Flow.{Flow}
use Rattle.reach_model.specs.Flows.{source, target}
use Rattle.reach_model.specs.Ids.{numbers}
use Rattle.reach_model.specs.Marks.{IsMarked}
use Rattle.query_walk.specs.Links.{enters_marked, leaves_marked}
use Rattle.reach_model.specs.Paths.{Back}
use Rattle.reach_model.specs.Rows.{Row, firsts}
use Rattle.query_walk.specs.Walks.{is_in, rows_into}
use Rattle.query_walk.specs.WayBack.{IsBack}

-- if a test passes only what another one passes, it passes no more often
pub count_weaker : (p q : Flow → Bool) → ((f : Flow) → p f ≡ true → q f ≡ true) → (L : List Flow) → count_by p L ≤ count_by q L
count_weaker p q pq L = sum_by-le-sum_by (λ f. cond (p f) 1 0) (λ f. cond (q f) 1 0) L (λ f. elim (cases_Bool (p f)) [
  | inl t ↦ rw (t, pq f t) (omega arith)
  | inr n ↦ rw n (omega arith)
])

module _ (marks : List Bool) (ids : List EntityId) (listed : (u : ℕ) → Contains (numbers ids) u ↔ IsMarked marks u) (L : List Flow) where
  listed_in : (u : ℕ) → IsMarked marks u → is_in ids u ≡ true
  listed_in u m = list_any-from_Contains nat_eq_equiv u (numbers ids) ((listed u).1 m)

  pub read_into : count_by (enters_marked marks) L ≤ count_by (λ f. is_in ids (target f)) L
  read_into = count_weaker (enters_marked marks) (λ f. is_in ids (target f)) (λ f m. listed_in (target f) m) L

  pub read_from : count_by (leaves_marked marks) L ≤ count_by (λ f. is_in ids (source f)) L
  read_from = count_weaker (leaves_marked marks) (λ f. is_in ids (source f)) (λ f m. listed_in (source f) m) L

-- what is marked is below the number of marks
pub marked_low : (marks : List Bool) (u : ℕ) → IsMarked marks u → u < length marks
marked_low marks u m = elim (cases_lt u (length marks)) [
  | inl low ↦ low
  | inr high ↦ absurd (false≢true (sym (get_or_past marks u false high) ∙ m))
]

-- the rows into the objects that reach v are those into an answer's objects
pub read_back : (R : List Row) (known v : ℕ) (t : Option ℕ) (marks : List Bool) (hops : List Flow) (ids : List EntityId) → length marks ≡ known → IsBack (firsts R) known v t marks hops
    → ((u : ℕ) → Contains (numbers ids) u ↔ Back (firsts R) v t u) → count_by (enters_marked marks) (firsts R) ≤ rows_into ids R
read_back R known v t marks hops ids len b exact = count_weaker (enters_marked marks) (λ f. is_in ids (target f)) (λ f m.
    list_any-from_Contains nat_eq_equiv (target f) (numbers ids) ((exact (target f)).1 ((b.exact (target f) (omega (arith, marked_low marks (target f) m, len))).0 m))) (firsts R)
