-- Flows that may be taken in, one by one.
use Rattle.std.proofs.Common.{ℕ, suc, ◌<◌, ◌≤◌, List, ◌∷◌, length, Option, refl, sym, subst, ◌∙◌, arith, inl, inr}
use Rattle.std.specs.List.{Contains}
use Rattle.flow_base.specs.declared.types.Flow.{Flow}
use Rattle.reach_model.specs.declared.modes.Mode.{Mode}
use Rattle.reach_model.specs.declared.modes.Verdict.{Verdict}
use Rattle.reach_model.specs.Flows.{place, time}
use Rattle.reach_model.specs.Rows.{Row, rows_after}
use Rattle.reach_model.proofs.Members.{Contains-map, from_map}
use Rattle.reach_rows.specs.Kept.{ComesAfter, GoOn}
use Rattle.kept_flows.specs.KeptFlows.{kept_of}
use Rattle.kept_flows.specs.Taking.{AllComeAfter, IsFlowOf, MayTake, MayTakeIn, PutsSomehow}
use Rattle.kept_flows.proofs.Changes.{count_grows, flow_after, from_mapped}

-- g comes after h
abbrev pub IsAfter : (g h : Flow) → Type 0
IsAfter g h = (place h < place g) × (time h ≤ time g)

-- a flow comes after rows exactly if it comes after their flows
pub after_rows : (R : List Row) (g : Flow) → ((h : Flow) → IsFlowOf R h → IsAfter g h) → ComesAfter R g
after_rows R g each = record {
  firsts = λ r c. (each r.first (inl (Contains-map (λ (x : Row). x.first) R r c))).0;
  lasts = λ r c. (each r.last (inr (Contains-map (λ (x : Row). x.last) R r c))).0;
  first_times = λ r c. (each r.first (inl (Contains-map (λ (x : Row). x.first) R r c))).1;
  last_times = λ r c. (each r.last (inr (Contains-map (λ (x : Row). x.last) R r c))).1;
}

pub after_flows : (R : List Row) (g : Flow) → ComesAfter R g → (h : Flow) → IsFlowOf R h → IsAfter g h
after_flows R g after h is = elim is [
  | inl first ↦ let m = from_map (λ (x : Row). x.first) R h first in subst (IsAfter g) m.2 (after.firsts m.0 m.1, after.first_times m.0 m.1)
  | inr last ↦ let m = from_map (λ (x : Row). x.last) R h last in subst (IsAfter g) m.2 (after.lasts m.0 m.1, after.last_times m.0 m.1)
]

-- the first of more flows comes after the rows, and the others after what a verdict on it makes of them
module _ (R : List Row) (f : Flow) (rest : List Flow) (all : AllComeAfter R (f ∷ rest)) where
  first_there : Contains (f ∷ rest) f
  first_there = (0, omega arith, refl)

  rest_there : (g : Flow) → Contains rest g → Contains (f ∷ rest) g
  rest_there g c = (suc c.0, omega (arith, c.1), c.2)

  pub first_after_rows : ComesAfter R f
  first_after_rows = all.rows f first_there

  after_first : (g : Flow) (c : Contains rest g) → IsAfter g f
  after_first g c =
      let within : suc c.0 < length (f ∷ rest) = omega (arith, c.1) in (
        subst (λ (x : Flow). place f < place x) c.2 (all.places 0 (suc c.0) g (omega arith) within),
        subst (λ (x : Flow). time f ≤ time x) c.2 (all.times 0 (suc c.0) g (omega arith) within),
      )

  pub rest_after_rows : (d : Verdict) → AllComeAfter (rows_after R f d) rest
  rest_after_rows d = record {
    rows = λ g c. after_rows (rows_after R f d) g (λ h is. elim (flow_after R f d h is) [
      | inl old ↦ after_flows R g (all.rows g (rest_there g c)) h old
      | inr e ↦ subst (IsAfter g) e (after_first g c)
    ]);
    places = λ j k x low h. all.places (suc j) (suc k) x (omega arith) (omega arith);
    times = λ j k x low h. all.times (suc j) (suc k) x (omega arith) (omega arith);
  }

module _ {K : Type 0} (rows : K → Option (List Row)) (count objects : K → ℕ) (mode : Mode) (old : K) (f : Flow) (rest : List Flow) (may : MayTakeIn (kept_of mode rows count objects old) (f ∷ rest)) where
  pub first_may_be_taken : MayTake (kept_of mode rows count objects old) f
  first_may_be_taken = record {
    goes_on = may.numbered.0;
    few = let all = may.few_flows in omega (arith, all);
    later = λ R e. first_after_rows R f rest (may.later R e);
  }

  pub rest_may_be_taken : (new : K) → PutsSomehow rows count objects old f new → MayTakeIn (kept_of mode rows count objects new) rest
  rest_may_be_taken new puts = record {
    numbered = subst (λ n. GoOn n rest) (sym puts.1.known_is) may.numbered.1;
    few_flows = let all = may.few_flows in let grown = count_grows (count old) puts.0 in omega (arith, all, puts.1.count_is, grown);
    later = λ S e.
        let m = from_mapped (λ R. rows_after R f puts.0) (rows old) S (sym puts.1.rows_are ∙ e) in
        subst (λ T. AllComeAfter T rest) m.2 (rest_after_rows m.0 f rest (may.later m.0 m.1) puts.0);
  }
