use Rattle.std.proofs.Common.{◌≡◌, sym, subst, ◌∙◌, inl, inr, refl}
use Rattle.std.specs.Prelude.{nat_eq}
use Rattle.std.proofs.lemmas.Bool.{cases_eq}
use Rattle.indexmap.specs.IndexMap.{get}
use Rattle.flow_base.specs.declared.types.Flow.{Flow}
use Rattle.reach_model.specs.Flows.{source, target}
use Rattle.reach_model.specs.Pairs.{pair_eq}
use Rattle.reach_model.proofs.PairLemmas.{pair_cases}
use Rattle.reduce_continuous.specs.Tables.{IsRun, IsGreatest, MayName}
use Rattle.reduce_continuous.proofs.Noting.{greatest_here, greatest_there, run_here, run_there, names_here, names_there}
use Rattle.reduce_continuous.proofs.tables.Continuous.put.Goals as goal

pub returns-clause-tables : goal.returns-clause-tables
returns-clause-tables c = λ R S h b t.
    let f = c.args.flow.now in
    let self = c.args.self.now in
    record {
      runs = λ u v. elim (pair_cases (source f) (target f) u v) [
        | inl e ↦ subst (λ x. IsRun S x v (get pair_eq c.set_run.new.runs (x, v))) e.0 (subst (λ y. IsRun S (source f) y (get pair_eq c.set_run.new.runs (source f, y))) e.1
            (subst (IsRun S (source f) (target f)) (sym c.set_run.ensures.here) (run_here f t b)))
        | inr n ↦ subst (IsRun S u v) (sym (c.set_run.ensures.others u v n)) (run_there f t b u v n (get pair_eq self.runs (u, v)) (h.runs u v))
      ];
      into = λ u. let P : Flow → Type 0 = λ g. target g ≡ u in elim (cases_eq (target f) u) [
        | inl e ↦ subst (λ x. IsGreatest S (λ g. target g ≡ x) (get nat_eq c.set_place.new.places x)) e (subst (IsGreatest S (λ g. target g ≡ target f)) (sym c.set_place.ensures.here) (greatest_here f t b (λ g. target g ≡ target f) refl))
        | inr n ↦ subst (IsGreatest S P) (sym (c.set_place.ensures.others u n)) (greatest_there f t b P (λ g same p. sym same.1 ∙ p) n (get nat_eq self.into u) (h.into u))
      ];
      out = λ u. let P : Flow → Type 0 = λ g. source g ≡ u in elim (cases_eq (source f) u) [
        | inl e ↦ subst (λ x. IsGreatest S (λ g. source g ≡ x) (get nat_eq c.set_place-2.new.places x)) e (subst (IsGreatest S (λ g. source g ≡ source f)) (sym c.set_place-2.ensures.here) (greatest_here f t b (λ g. source g ≡ source f) refl))
        | inr n ↦ subst (IsGreatest S P) (sym (c.set_place-2.ensures.others u n)) (greatest_there f t b P (λ g same p. sym same.0 ∙ p) n (get nat_eq self.out u) (h.out u))
      ];
    }

pub returns-clause-runs : goal.returns-clause-runs
returns-clause-runs c = λ R S h t u v.
    let f = c.args.flow.now in
    elim (pair_cases (source f) (target f) u v) [
      | inl e ↦ subst (λ x. MayName S x v (get pair_eq c.set_run.new.runs (x, v))) e.0 (subst (λ y. MayName S (source f) y (get pair_eq c.set_run.new.runs (source f, y))) e.1
          (subst (MayName S (source f) (target f)) (sym c.set_run.ensures.here) (names_here f t)))
      | inr n ↦ subst (MayName S u v) (sym (c.set_run.ensures.others u v n)) (names_there f t u v n (get pair_eq c.args.self.now.runs (u, v)) (h u v))
    ]
