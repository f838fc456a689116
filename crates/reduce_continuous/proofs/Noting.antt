-- What the tables say after a flow.
use Rattle.std.proofs.Common.{◌≡◌, ℕ, ◌<◌, ◌≤◌, List, [], ◌∷◌, ◌++◌, length, get_or, Option, Some, None, refl, sym, ap, subst, ◌∙◌, arith, inl, inr}
use Rattle.std.specs.List.{Contains}
use Rattle.std.proofs.lemmas.List.{get_or_append_left, get_or_push, length-append, length-set, get_or-set_same, get_or-set_other, get_or_default}
use Rattle.std.proofs.lemmas.List.Elements.{Contains-push_cases, Contains-append_left}
use Rattle.flow_base.specs.declared.types.Flow.{Flow}
use Rattle.reach_model.specs.declared.modes.Verdict.TheVariants.{Extend}
use Rattle.reach_model.specs.Flows.{source, target, place}
use Rattle.reach_model.specs.Rows.{Row, SamePair, row_of, rows_after}
use Rattle.reach_model.proofs.Members.{Contains-set}
use Rattle.reach_model.proofs.Redundant.{set_cases}
use Rattle.reduce_continuous.specs.declared.places.Run.{Run}
use Rattle.reduce_continuous.specs.Tables.{IsGreatest, IsRun, MayName, Takes, Names}
use Rattle.reach_rows.specs.Kept.{ComesAfter}

pub adds : (R : List Row) (f : Flow) → Takes R (R ++ row_of f ∷ []) f (length R)
adds R f = record {
  within = simp length-append (omega arith);
  at = λ d. ap (λ (r : Row). r.last) (get_or_push R (row_of f) d (length R) refl);
  members = λ s c. elim (Contains-push_cases R (row_of f) s c) [ inl old ↦ inr old | inr new ↦ inl (ap (λ (r : Row). r.last) new) ];
  others = λ s c differ. Contains-append_left R (row_of f ∷ []) s c;
  in_place = λ i d h differ. (simp length-append (omega arith), get_or_append_left R (row_of f ∷ []) d i h);
}

pub extends : (R : List Row) (f : Flow) (i : ℕ) → i < length R → ((d : Row) → SamePair (get_or R i d).last f) → Takes R (rows_after R f (Extend i)) f i
extends R f i h same = let r' : Row = record (get_or R i (row_of f)) { last = f } in record {
  within = simp length-set h;
  at = λ d. ap (λ (r : Row). r.last) (get_or-set_same R i r' d h);
  members = λ s c. elim (set_cases R i r' s c) [ inl old ↦ inr old | inr new ↦ inl (ap (λ (r : Row). r.last) new) ];
  others = λ s c differ. elim (Contains-set R i r' s c) [
    | inl still ↦ still
    | inr at ↦ absurd (differ (subst (λ (x : Row). SamePair x.last f) at.1 (same s)))
  ];
  in_place = λ j d hj differ. (simp length-set hj, get_or-set_other R i j r' d (λ e. differ (subst (λ k. SamePair (get_or R k d).last f) (sym e) (same d))));
}

module _ {R S : List Row} (f : Flow) {row : ℕ} (t : Takes R S f row) (before : ComesAfter R f) where
  place_in : (s : Row) → Contains S s → place s.last ≤ place f
  place_in s c = elim (t.members s c) [ inl e ↦ omega (arith, ap place e) | inr old ↦ let b = before.lasts s old in omega arith ]

  pub greatest_here : (P : Flow → Type 0) → P f → IsGreatest S P (Some (place f))
  greatest_here P p = let at = t.at (row_of f) in record {
    row = get_or S row (row_of f);
    there = (row, t.within, get_or_default S row (get_or S row (row_of f)) (row_of f) t.within);
    meets = subst P (sym at) p;
    at = ap place at;
    greatest = λ s c q. place_in s c;
  }

  pub greatest_there : (P : Flow → Type 0) → ((g : Flow) → SamePair g f → P g → P f) → ¬ P f → (o : Option ℕ) → IsGreatest R P o → IsGreatest S P o
  greatest_there P pair not_here None g = λ s c p. elim (t.members s c) [ inl e ↦ not_here (subst P (sym e) p) | inr old ↦ g s old p ]
  greatest_there P pair not_here (Some n) g = record {
    row = g.row;
    there = t.others g.row g.there (λ same. not_here (pair (g.row).last same g.meets));
    meets = g.meets;
    at = g.at;
    greatest = λ s c p. elim (t.members s c) [ inl e ↦ absurd (not_here (subst P (sym e) p)) | inr old ↦ g.greatest s old p ];
  }

  pub run_here : IsRun S (source f) (target f) (Some (record { row = row; place = place f }))
  run_here = record {
    within = t.within;
    from = λ d. ap source (t.at d);
    to = λ d. ap target (t.at d);
    at = λ d. ap place (t.at d);
    greatest = λ s c a b. place_in s c;
  }

  pub run_there : (u v : ℕ) → ¬ ((source f ≡ u) × (target f ≡ v)) → (o : Option Run) → IsRun R u v o → IsRun S u v o
  run_there u v differ None g = λ s c p. elim (t.members s c) [ inl e ↦ differ (ap source e ∙ p.0, ap target e ∙ p.1) | inr old ↦ g s old p ]
  run_there u v differ (Some run) g =
      let apart : (d : Row) → ¬ SamePair (get_or R run.row d).last f = λ d same. differ (sym same.0 ∙ g.from d, sym same.1 ∙ g.to d) in
      let same_row = λ (d : Row). (t.in_place run.row d g.within (apart d)).1 in
      record {
        within = (t.in_place run.row (row_of f) g.within (apart (row_of f))).0;
        from = λ d. ap (λ (r : Row). source r.last) (same_row d) ∙ g.from d;
        to = λ d. ap (λ (r : Row). target r.last) (same_row d) ∙ g.to d;
        at = λ d. ap (λ (r : Row). place r.last) (same_row d) ∙ g.at d;
        greatest = λ s c a b. elim (t.members s c) [ inl e ↦ absurd (differ (ap source e ∙ a, ap target e ∙ b)) | inr old ↦ g.greatest s old a b ];
      }

-- what a taken row names
pub takes_names : (R S : List Row) (f : Flow) (row : ℕ) → Takes R S f row → Names R S f row
takes_names R S f row t = record { within = t.within; pair = λ d. (ap source (t.at d), ap target (t.at d)); in_place = t.in_place }

module _ {R S : List Row} (f : Flow) {row : ℕ} (t : Names R S f row) where
  pub names_here : MayName S (source f) (target f) (Some (record { row = row; place = place f }))
  names_here = record { within = t.within; from = λ d. (t.pair d).0; to = λ d. (t.pair d).1 }

  pub names_there : (u v : ℕ) → ¬ ((source f ≡ u) × (target f ≡ v)) → (o : Option Run) → MayName R u v o → MayName S u v o
  names_there u v differ None g = g
  names_there u v differ (Some run) g =
      let apart : (d : Row) → ¬ SamePair (get_or R run.row d).last f = λ d same. differ (sym same.0 ∙ g.from d, sym same.1 ∙ g.to d) in
      let same_row = λ (d : Row). (t.in_place run.row d g.within (apart d)).1 in
      record {
        within = (t.in_place run.row (row_of f) g.within (apart (row_of f))).0;
        from = λ d. ap (λ (r : Row). source r.last) (same_row d) ∙ g.from d;
        to = λ d. ap (λ (r : Row). target r.last) (same_row d) ∙ g.to d;
      }
