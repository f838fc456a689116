-- The rows that leave an object are read one after the other.
use Rattle.std.proofs.Common.{◌≡◌, ℕ, ◌+◌, ◌<◌, ◌≤◌, ◌↔◌, List, length, get_or, take, drop, Bool, Option, Some, None, sym, ap, subst, ◌∙◌, arith, ◌⊎◌, inl, inr, refl}
use Rattle.std.specs.List.{Contains, count_by}
use Rattle.std.proofs.lemmas.List.{length-map, get_or-map, get_or_default, take_all, drop_all}
use Rattle.std.proofs.lemmas.List.Elements.{Contains-get_or}
use Rattle.std.proofs.lemmas.Bool.{cases_eq, cases_lt}
use Rattle.flow_base.specs.declared.types.Flow.{Flow}
use Rattle.reach_model.specs.Flows.{source}
use Rattle.reach_model.specs.Rows.{Row, firsts, lasts}
use Rattle.reach_rows.specs.Kept.{AreRows, IsLastOf, Leaves}
use Rattle.query_walk.specs.Links.{leaves}
use Rattle.query_walk.specs.Arrivals.{Arrival, LeadsOn}
use Rattle.query_walk.proofs.Counts.{no_flow}
use Rattle.query_walk.proofs.LinkLemmas.{last_low, last_meets, none_after, none_before, count_last, count_none, leaves_yes, leaves_no}

abbrev no_row : Row
no_row = record { first = no_flow; last = no_flow }

-- the link names the last row out of x before n, and the arrivals of the flows of x from n on into objects that are not marked wait
pub record IsLeftAt (R : List Row) (marks : List Bool) (x low : ℕ) (s : Option ℕ) (link : Option ℕ) (before waiting : Arrival → Type 0) (start steps : ℕ) : Type 0 where
  pub n : ℕ
  pub top : n ≤ length (firsts R)
  pub last : IsLastOf (take n (firsts R)) (Leaves x) link
  pub read : steps ≡ start + count_by (leaves x) (drop n (firsts R))
  pub waits : (a : Arrival) → waiting a ↔ (before a ⊎ ((j : ℕ) × (n ≤ j) × (j < length (lasts R)) × LeadsOn marks x low s (get_or (lasts R) j no_flow) a))

module _ (R : List Row) (lawful : AreRows R) (marks : List Bool) (x low : ℕ) (s : Option ℕ) where
  longs : length (lasts R) ≡ length (firsts R)
  longs = simp length-map refl

  -- both flows of a row leave one object
  same_source : (j : ℕ) → j < length (lasts R) → source (get_or (firsts R) j no_flow) ≡ source (get_or (lasts R) j no_flow)
  same_source j h =
      let long : j < length R = simp length-map at h in
      let first = get_or-map (λ (r : Row). r.first) R j no_row no_flow long in
      let last = get_or-map (λ (r : Row). r.last) R j no_row no_flow long in
      let pair = lawful.pairs (get_or R j no_row) (Contains-get_or R j no_row long) in
      ap source first ∙ sym pair.0 ∙ sym (ap source last)

  pub left_none : (link : Option ℕ) (waiting : Arrival → Type 0) (start : ℕ) → IsLastOf (firsts R) (Leaves x) link → IsLeftAt R marks x low s link waiting waiting start start
  left_none link waiting start last =
      let F = firsts R in
      let none : count_by (leaves x) (drop (length F) F) ≡ 0 = ap (count_by (leaves x)) (drop_all (length F) F (omega arith)) in
      record {
        n = length F;
        top = omega arith;
        last = subst (λ L. IsLastOf L (Leaves x) link) (sym (take_all (length F) F (omega arith))) last;
        read = omega (arith, none);
        waits = λ a. (λ m. inl m, λ m. elim m [ inl old ↦ old | inr f ↦ absurd (omega (arith, f.1, f.2, longs)) ]);
      }

  module _ (i : ℕ) (before waiting : Arrival → Type 0) (start steps : ℕ) (l : IsLeftAt R marks x low s (Some i) before waiting start steps) where
    pub left_low : i < l.n
    left_low = last_low (Leaves x) (leaves x) (leaves_yes x) (leaves_no x) (firsts R) l.n i l.top l.last

    pub left_source : (d : Flow) → source (get_or (firsts R) i d) ≡ x
    left_source d = last_meets (Leaves x) (leaves x) (leaves_yes x) (leaves_no x) (firsts R) l.n i d l.top l.last

    pub left_more : (next : Option ℕ) (waiting' : Arrival → Type 0) → IsLastOf (take i (firsts R)) (Leaves x) next
        → ((a : Arrival) → waiting' a ↔ (waiting a ⊎ LeadsOn marks x low s (get_or (lasts R) i no_flow) a)) → IsLeftAt R marks x low s next before waiting' start (steps + 1)
    left_more next waiting' last more = record {
      n = i;
      top = omega (arith, left_low, l.top);
      last = last;
      read = let k = count_last (Leaves x) (leaves x) (leaves_yes x) (leaves_no x) (firsts R) l.n i l.top l.last in omega (arith, k, l.read);
      waits = λ a. (
        λ m. elim ((more a).0 m) [
          | inl old ↦ elim ((l.waits a).0 old) [
            | inl was ↦ inl was
            | inr f ↦ inr (f.0, omega (arith, f.1, left_low), f.2, f.3)
          ]
          | inr here ↦ inr (i, omega arith, omega (arith, left_low, l.top, longs), here)
        ],
        λ m. (more a).1 (elim m [
          | inl was ↦ inl ((l.waits a).1 (inl was))
          | inr f ↦ elim (cases_lt f.0 l.n) [
            | inl under ↦ elim (cases_eq f.0 i) [
              | inl e ↦ inr (subst (λ j. LeadsOn marks x low s (get_or (lasts R) j no_flow) a) e f.3)
              | inr n ↦ absurd (none_after (Leaves x) (leaves x) (leaves_yes x) (leaves_no x) (firsts R) l.n i l.top l.last f.0 no_flow (omega (arith, f.1, n)) under (same_source f.0 f.2 ∙ ((f.3).leads).leaves))
            ]
            | inr over ↦ inl ((l.waits a).1 (inr (f.0, over, f.2, f.3)))
          ]
        ]),
      );
    }

  module _ (before waiting : Arrival → Type 0) (start steps : ℕ) (l : IsLeftAt R marks x low s None before waiting start steps) where
    pub left_all : (a : Arrival) → waiting a ↔ (before a ⊎ ((f : Flow) × Contains (lasts R) f × LeadsOn marks x low s f a))
    left_all a = (
      λ m. elim ((l.waits a).0 m) [
        | inl was ↦ inl was
        | inr f ↦ inr (get_or (lasts R) f.0 no_flow, Contains-get_or (lasts R) f.0 no_flow f.2, f.3)
      ],
      λ m. (l.waits a).1 (elim m [
        | inl was ↦ inl was
        | inr f ↦
            let j = (f.1).0 in
            let h : j < length (lasts R) = (f.1).1 in
            let is : f.0 ≡ get_or (lasts R) j no_flow = sym (f.1).2 ∙ get_or_default (lasts R) j f.0 no_flow h in
            let here = subst (λ g. LeadsOn marks x low s g a) is f.2 in
            elim (cases_lt j l.n) [
              | inl under ↦ absurd (none_before (Leaves x) (leaves x) (leaves_yes x) (leaves_no x) (firsts R) l.n l.top l.last j no_flow under (same_source j h ∙ (here.leads).leaves))
              | inr over ↦ inr (j, over, h, here)
            ]
      ]),
    )

    pub left_count : steps ≡ start + count_by (leaves x) (firsts R)
    left_count = let k : count_by (leaves x) (drop 0 (firsts R)) ≡ count_by (leaves x) (drop l.n (firsts R)) = count_none (Leaves x) (leaves x) (leaves_yes x) (leaves_no x) (firsts R) 0 l.n None (omega arith) l.top tt l.last in omega (arith, k, l.read)
