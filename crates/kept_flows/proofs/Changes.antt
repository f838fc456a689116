-- What a verdict makes of rows.
use Rattle.std.proofs.Common.{◌≡◌, ℕ, ◌<◌, ◌≤◌, ◌+◌, max, List, [], ◌∷◌, length, get_or, Option, Some, None, refl, sym, ap, subst, ◌∙◌, arith, ◌⊎◌, inl, inr}
use Rattle.std.specs.List.{Contains}
use Rattle.std.specs.Prelude.{is_some}
use Rattle.std.specs.Option.{option_map, unwrap_or}
use Rattle.std.proofs.lemmas.Bool.{false≢true}
use Rattle.std.proofs.lemmas.List.{length-append, length-set, map-append, map-set}
use Rattle.std.proofs.lemmas.List.Elements.{Contains-get_or, Contains-push_cases}
use Rattle.std.proofs.Math.Seq.{map-set_same}
use Rattle.flow_base.specs.declared.types.Flow.{Flow}
use Rattle.reach_model.specs.declared.modes.Verdict.{Verdict}
use Rattle.reach_model.specs.declared.modes.Verdict.TheVariants.{Drop, Add, Extend}
use Rattle.reach_model.specs.Flows.{source, target}
use Rattle.reach_model.specs.Numbers.{beyond, known}
use Rattle.reach_model.specs.Rows.{Row, firsts, lasts, row_of, rows_after}
use Rattle.reach_model.proofs.Members.{Contains-map}
use Rattle.reach_model.proofs.Numbering.{known_push}
use Rattle.reach_model.proofs.Redundant.{set_cases}
use Rattle.reach_rows.specs.Verdicts.{FitsRows, HasEnd}
use Rattle.query_walk.specs.Walks.{AreEndsBelow}
use Rattle.kept_flows.specs.KeptFlows.{AreCounted, AreTold}
use Rattle.kept_flows.specs.Taking.{BringsOnly, IsFlowOf, count_after}

-- what a mapped option comes from
pub from_mapped : {A B : Type 0} (g : A → B) (o : Option A) (y : B) → option_map g o ≡ Some y → (x : A) × (o ≡ Some x) × (g x ≡ y)
from_mapped g None y e = absurd (false≢true (ap is_some e))
from_mapped g (Some x) y e = (x, refl, ap (λ o. unwrap_or o y) e)

-- how many objects rows know after a verdict
abbrev pub known_by : ℕ → Flow → Verdict → ℕ
known_by n f Drop = n
known_by n f Add = max n (beyond f)
known_by n f (Extend i) = n

pub count_grows : (n : ℕ) (d : Verdict) → count_after n d ≤ n + 1
count_grows n Drop = omega arith
count_grows n Add = omega arith
count_grows n (Extend i) = omega arith

module _ (R : List Row) (f : Flow) where
  pub length_after : (d : Verdict) → length (rows_after R f d) ≡ count_after (length R) d
  length_after Drop = refl
  length_after Add = length-append R (row_of f ∷ [])
  length_after (Extend i) = simp length-set refl

  firsts_extended : (i : ℕ) → firsts (rows_after R f (Extend i)) ≡ firsts R
  firsts_extended i = map-set_same (λ (x : Row). x.first) R i (record (get_or R i (row_of f)) { last = f }) (row_of f) refl

  pub known_rows : (d : Verdict) → known (firsts (rows_after R f d)) ≡ known_by (known (firsts R)) f d
  known_rows Drop = refl
  known_rows Add = ap known (map-append (λ (r : Row). r.first) R (row_of f ∷ [])) ∙ known_push (firsts R) f
  known_rows (Extend i) = ap known (firsts_extended i)

  -- a flow of the rows after a verdict is one of the rows before it, or f
  first_after : (d : Verdict) (g : Flow) → Contains (firsts (rows_after R f d)) g → Contains (firsts R) g ⊎ (f ≡ g)
  first_after Drop g c = inl c
  first_after Add g c = Contains-push_cases (firsts R) f g (subst (λ K. Contains K g) (map-append (λ (r : Row). r.first) R (row_of f ∷ [])) c)
  first_after (Extend i) g c = inl (subst (λ K. Contains K g) (firsts_extended i) c)

  pub last_after : (d : Verdict) (g : Flow) → Contains (lasts (rows_after R f d)) g → Contains (lasts R) g ⊎ (f ≡ g)
  last_after Drop g c = inl c
  last_after Add g c = Contains-push_cases (lasts R) f g (subst (λ K. Contains K g) (map-append (λ (r : Row). r.last) R (row_of f ∷ [])) c)
  last_after (Extend i) g c = set_cases (lasts R) i f g (subst (λ K. Contains K g) (map-set (λ (r : Row). r.last) R i (record (get_or R i (row_of f)) { last = f })) c)

  pub flow_after : (d : Verdict) (g : Flow) → IsFlowOf (rows_after R f d) g → IsFlowOf R g ⊎ (f ≡ g)
  flow_after d g is = elim is [
    | inl first ↦ elim (first_after d g first) [ inl old ↦ inl (inl old) | inr e ↦ inr e ]
    | inr last ↦ elim (last_after d g last) [ inl old ↦ inl (inr old) | inr e ↦ inr e ]
  ]

  -- the last flows of the rows lie between the objects known then
  pub ends_after : (n : ℕ) (d : Verdict) → AreEndsBelow n (lasts R) → AreEndsBelow (max n (beyond f)) (lasts (rows_after R f d))
  ends_after n d below g c = elim (last_after d g c) [
    | inl old ↦ let b = below g old in (omega (arith, b.0), omega (arith, b.1))
    | inr e ↦ (omega (arith, ap source e), omega (arith, ap target e))
  ]

  pub counted_after : (n o : ℕ) (d : Verdict) → AreCounted R n o → AreCounted (rows_after R f d) (count_after n d) (max o (beyond f))
  counted_after n o d are = record {
    counted = length_after d ∙ ap (λ k. count_after k d) are.counted;
    ends = ends_after o d are.ends;
  }

-- an object that a row has at an end is known
end_known : (n : ℕ) (R : List Row) (x : ℕ) → AreEndsBelow n (lasts R) → HasEnd R x → x < n
end_known n R x below h =
    let e = below h.0.last (Contains-map (λ (r : Row). r.last) R h.0 h.1) in
    elim h.2 [ inl s ↦ subst (λ y. y < n) s e.0 | inr t ↦ subst (λ y. y < n) t e.1 ]

-- a verdict that adds no row is on a flow between known objects
pub known_fits : (n : ℕ) (R : List Row) (f : Flow) (d : Verdict) → AreEndsBelow n (lasts R) → FitsRows R f d → known_by n f d ≡ max n (beyond f)
known_fits n R f Drop below fits =
    let s = end_known n R (source f) below fits.0 in
    let t = end_known n R (target f) below fits.1 in
    omega (arith, s, t)
known_fits n R f Add below fits = refl
known_fits n R f (Extend i) below fits =
    let there = Contains-map (λ (r : Row). r.last) R (get_or R i (row_of f)) (Contains-get_or R i (row_of f) fits.0) in
    let e = below (get_or R i (row_of f)).last there in
    let pair = fits.1 (row_of f) in
    omega (arith, e.0, e.1, pair.0, pair.1)

-- told rows after a verdict that fits as many rows
pub told_after : (R S : List Row) (f : Flow) (d : Verdict) (old new : Option (List Row)) (n o : ℕ) → AreTold old n o R → AreEndsBelow o (lasts S) → FitsRows S f d
    → new ≡ Some (rows_after R f d) → AreTold new (count_after n d) (max o (beyond f)) (rows_after R f d)
told_after R S f d old new n o are below fits e = record {
  rows = e;
  counted = length_after R f d ∙ ap (λ k. count_after k d) are.counted;
  objects_known = known_rows R f d ∙ ap (λ k. known_by k f d) are.objects_known ∙ known_fits o S f d below fits;
}

-- one more flow brings nothing but itself
pub brings_more : (f : Flow) (d : Verdict) (all : List Flow) (first old new : Option (List Row)) → Contains all f → new ≡ option_map (λ R. rows_after R f d) old
    → BringsOnly first all old → BringsOnly first all new
brings_more f d all first old new c e before = λ S is.
    let m = from_mapped (λ R. rows_after R f d) old S (sym e ∙ is) in
    let b = before m.0 m.1 in
    (b.0, b.1, λ g there. elim (flow_after m.0 f d g (subst (λ T. IsFlowOf T g) (sym m.2) there)) [ inl o ↦ b.2 g o | inr same ↦ inr (subst (Contains all) same c) ])

-- rows that stay bring nothing
pub brings_none : (more : List Flow) (old new : Option (List Row)) → new ≡ old → BringsOnly old more new
brings_none more old new e = λ S is. (S, sym e ∙ is, λ f there. inl there)
