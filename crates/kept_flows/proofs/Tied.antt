-- Told rows and the tables that are theirs.
use Rattle.std.proofs.Common.{◌≡◌, ℕ, max, List, [], Option, Some, sym, ap, subst, ◌∙◌, arith}
use Rattle.std.specs.Option.{IfSome, option_map}
use Rattle.flow_base.specs.declared.types.Flow.{Flow}
use Rattle.reach_model.specs.declared.modes.Verdict.{Verdict}
use Rattle.reach_model.specs.Numbers.{beyond}
use Rattle.reach_model.specs.Rows.{Row, rows_after}
use Rattle.reach_rows.specs.Verdicts.{FitsRows}
use Rattle.kept_flows.specs.KeptFlows.{AreTied, AreTold}
use Rattle.kept_flows.specs.Taking.{count_after}
use Rattle.kept_flows.proofs.Changes.{counted_after, from_mapped, told_after}
use Rattle.kept_flows.proofs.Those.{told, if_told}

-- what is tied, of rows that are told
pub tied_to : (stands holds : List Row → Type 0) (all : Option (List Row)) (count objects : ℕ) (R : List Row)
    → AreTied stands holds all count objects → all ≡ Some R → AreTold all count objects R × stands R × holds R
tied_to stands holds all count objects R tied is = told (λ S. AreTold all count objects S × stands S × holds S) all tied.theirs R is

-- new tables are tied to no rows, whether or not these are told
pub tied_to_none : (stands holds : List Row → Type 0) (all : Option (List Row)) (count objects : ℕ) → stands [] → holds [] → IfSome all (λ R. R ≡ []) → count ≡ 0 → objects ≡ 0
    → AreTied stands holds all count objects
tied_to_none stands holds all count objects stand hold none no_rows no_objects = record {
  rows = [];
  counted = record { counted = sym no_rows; ends = λ f there. absurd (omega (arith, there.1)) };
  held = hold;
  theirs = if_told (λ R. AreTold all count objects R × stands R × holds R) all (λ R is.
      let empty = told (λ (R : List Row). R ≡ []) all none R is in
      subst (λ (S : List Row). AreTold all count objects S × stands S × holds S) (sym empty) (
        record { rows = is ∙ ap (λ (S : List Row). Some S) empty; counted = sym no_rows; objects_known = sym no_objects },
        stand,
        hold,
      ));
}

-- tables that follow the rows by a verdict which fits them are tied to these
pub tied_after : (stands holds : List Row → Type 0) (stand hold : List Row → Type 0) (old new : Option (List Row)) (count objects : ℕ) (f : Flow) (d : Verdict)
    → (tied : AreTied stands holds old count objects) → FitsRows tied.rows f d → hold (rows_after tied.rows f d)
    → ((R : List Row) → old ≡ Some R → stand (rows_after R f d) × hold (rows_after R f d))
    → new ≡ option_map (λ R. rows_after R f d) old → AreTied stand hold new (count_after count d) (max objects (beyond f))
tied_after stands holds stand hold old new count objects f d tied fits held each e = record {
  rows = rows_after tied.rows f d;
  counted = counted_after tied.rows f count objects d tied.counted;
  held = held;
  theirs = if_told (λ R. AreTold new (count_after count d) (max objects (beyond f)) R × stand R × hold R) new (λ T is.
      let m = from_mapped (λ R. rows_after R f d) old T (sym e ∙ is) in
      let R = m.0 in
      let are = tied_to stands holds old count objects R tied m.1 in
      subst (λ T. AreTold new (count_after count d) (max objects (beyond f)) T × stand T × hold T) m.2 (
        told_after R tied.rows f d old new count objects are.0 tied.counted.ends fits (is ∙ ap (λ T. Some T) (sym m.2)),
        (each R m.1).0,
        (each R m.1).1,
      ));
}
