use Rattle.std.proofs.Common.{◌≡◌, arith, [], ◌∷◌, ◌++◌, length, sym, ap, subst, ◌∙◌, Some, inl, inr, refl}
use Rattle.std.specs.Prelude.{nat_eq}
use Rattle.std.proofs.lemmas.Bool.{cases_eq}
use Rattle.std.proofs.lemmas.List.{length-append}
use Rattle.indexmap.specs.IndexMap.{get}
use Rattle.reach_model.specs.Flows.{source, target, place}
use Rattle.reach_model.specs.Pairs.{pair_eq}
use Rattle.reach_model.proofs.PairLemmas.{pair_cases}
use Rattle.reach_rows.specs.Kept.{row_of_kept}
use Rattle.reduce_continuous.specs.Tables.{IsRun, IsRunOf, IsGreatest, MayName, later_run, raised}
use Rattle.reduce_continuous.proofs.Recalling.{greatest_raised, greatest_kept, run_recalled, run_kept, names_recalled, names_kept}
use Rattle.reduce_continuous.proofs.tables.Continuous.put_back.Goals as goal

pub returns-clause-rows : goal.returns-clause-rows
returns-clause-rows c = λ R s few.
    let self = c.args.self.now in
    let r = row_of_kept c.args.row.now in
    let f = r.last in
    let S = R ++ r ∷ [] in
    let run = c.later-run.result in
    let is_run : run ≡ later_run (get pair_eq self.runs (source f, target f)) (record { row = length R; place = place f }) =
    c.later-run.ensures ∙ ap (λ o. later_run o (record { row = self.count; place = place f })) c.get.ensures.value ∙ ap (λ n. later_run (get pair_eq self.runs (source f, target f)) (record { row = n; place = place f })) s.count in
    record {
      count = simp length-append (omega (arith, c.saturating_add-self.ensures, s.count, few));
      tables = record {
        runs = λ u v. elim (pair_cases (source f) (target f) u v) [
          | inl e ↦ subst (λ x. IsRun S x v (get pair_eq c.set_run.new.runs (x, v))) e.0 (subst (λ y. IsRun S (source f) y (get pair_eq c.set_run.new.runs (source f, y))) e.1
              (subst (IsRun S (source f) (target f)) (sym c.set_run.ensures.here)
              (subst (IsRunOf S (source f) (target f)) (sym is_run) (run_recalled R r (get pair_eq self.runs (source f, target f)) (s.tables.runs (source f) (target f))))))
          | inr n ↦ subst (IsRun S u v) (sym (c.set_run.ensures.others u v n)) (run_kept R r u v n (get pair_eq self.runs (u, v)) (s.tables.runs u v))
        ];
        into = λ u. elim (cases_eq (target f) u) [
          | inl e ↦ subst (λ x. IsGreatest S (λ g. target g ≡ x) (get nat_eq c.set_place.new.places x)) e (subst (IsGreatest S (λ g. target g ≡ target f)) (sym c.set_place.ensures.here)
              (greatest_raised R r (λ g. target g ≡ target f) refl (get nat_eq self.into (target f)) (s.tables.into (target f)) c.raise-into.result (c.raise-into.ensures ∙ ap (λ o. raised o (place f)) c.get-2.ensures.value)))
          | inr n ↦ subst (IsGreatest S (λ g. target g ≡ u)) (sym (c.set_place.ensures.others u n)) (greatest_kept R r (λ g. target g ≡ u) n (get nat_eq self.into u) (s.tables.into u))
        ];
        out = λ u. elim (cases_eq (source f) u) [
          | inl e ↦ subst (λ x. IsGreatest S (λ g. source g ≡ x) (get nat_eq c.set_place-2.new.places x)) e (subst (IsGreatest S (λ g. source g ≡ source f)) (sym c.set_place-2.ensures.here)
              (greatest_raised R r (λ g. source g ≡ source f) refl (get nat_eq self.out (source f)) (s.tables.out (source f)) c.raise-out.result (c.raise-out.ensures ∙ ap (λ o. raised o (place f)) c.get-3.ensures.value)))
          | inr n ↦ subst (IsGreatest S (λ g. source g ≡ u)) (sym (c.set_place-2.ensures.others u n)) (greatest_kept R r (λ g. source g ≡ u) n (get nat_eq self.out u) (s.tables.out u))
        ];
      };
    }

pub returns-clause-holds : goal.returns-clause-holds
returns-clause-holds c = λ R s few.
    let self = c.args.self.now in
    let r = row_of_kept c.args.row.now in
    let f = r.last in
    let S = R ++ r ∷ [] in
    let run = c.later-run.result in
    let is_run : run ≡ later_run (get pair_eq self.runs (source f, target f)) (record { row = length R; place = place f }) =
    c.later-run.ensures ∙ ap (λ o. later_run o (record { row = self.count; place = place f })) c.get.ensures.value ∙ ap (λ n. later_run (get pair_eq self.runs (source f, target f)) (record { row = n; place = place f })) s.count in
    record {
      count = simp length-append (omega (arith, c.saturating_add-self.ensures, s.count, few));
      runs = λ u v. elim (pair_cases (source f) (target f) u v) [
        | inl e ↦ subst (λ x. MayName S x v (get pair_eq c.set_run.new.runs (x, v))) e.0 (subst (λ y. MayName S (source f) y (get pair_eq c.set_run.new.runs (source f, y))) e.1
            (subst (MayName S (source f) (target f)) (sym c.set_run.ensures.here)
            (subst (λ x. MayName S (source f) (target f) (Some x)) (sym is_run) (names_recalled R r (get pair_eq self.runs (source f, target f)) (s.runs (source f) (target f))))))
        | inr n ↦ subst (MayName S u v) (sym (c.set_run.ensures.others u v n)) (names_kept R r u v (get pair_eq self.runs (u, v)) (s.runs u v))
      ];
    }
