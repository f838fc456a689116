-- What the tables say after a row that was kept before. The ends of such rows come in any order.
use Rattle.std.proofs.Common.{◌≡◌, ℕ, ◌≤◌, max, List, [], ◌∷◌, ◌++◌, length, get_or, Option, Some, None, Bool, cond, refl, sym, ap, subst, ◌∙◌, arith, inl, inr, ltb-true, ltb-false}
use Rattle.std.specs.List.{Contains}
use Rattle.std.specs.Prelude.{nat_lt}
use Rattle.std.proofs.lemmas.List.{get_or_append_left, get_or_push, length-append}
use Rattle.std.proofs.lemmas.List.Elements.{Contains-push, Contains-push_cases, Contains-append_left}
use Rattle.std.proofs.lemmas.Bool.{cases_lt, cases_Bool}
use Rattle.flow_base.specs.declared.types.Flow.{Flow}
use Rattle.reach_model.specs.Flows.{source, target, place}
use Rattle.reach_model.specs.Rows.{Row}
use Rattle.reduce_continuous.specs.declared.places.Run.{Run}
use Rattle.reduce_continuous.specs.Tables.{IsLastOf, IsGreatest, IsRunOf, IsRun, NamesRow, MayName, raised, later_run}

module _ (R : List Row) (r : Row) where
  ends : (P : Flow → Type 0) (n : ℕ) → ((s : Row) → Contains R s → P s.last → place s.last ≤ n) → place r.last ≤ n → (s : Row) → Contains (R ++ r ∷ []) s → P s.last → place s.last ≤ n
  ends P n old new s c p = elim (Contains-push_cases R r s c) [ inl o ↦ old s o p | inr e ↦ subst (λ (x : Row). place x.last ≤ n) e new ]

  is_last : (P : Flow → Type 0) (n : ℕ) → P r.last → place r.last ≡ n → ((s : Row) → Contains R s → P s.last → place s.last ≤ n) → IsLastOf (R ++ r ∷ []) P n
  is_last P n p e old = record { row = r; there = Contains-push R r; meets = p; at = e; greatest = ends P n old (omega arith) }

  pub greatest_raised : (P : Flow → Type 0) → P r.last → (o : Option ℕ) → IsGreatest R P o → (n : ℕ) → Some n ≡ raised o (place r.last) → IsLastOf (R ++ r ∷ []) P n
  greatest_raised P p None g n e = let is : n ≡ place r.last = cc in is_last P n p (sym is) (λ s c q. absurd (g s c q))
  greatest_raised P p (Some m) g n e =
      let is : n ≡ max m (place r.last) = cc in
      let top = g.greatest in
      elim (cases_lt m (place r.last)) [
        | inl low ↦ is_last P n p (omega arith) (λ s c q. let t = top s c q in omega arith)
        | inr high ↦ record { row = g.row; there = Contains-append_left R (r ∷ []) g.row g.there; meets = g.meets; at = g.at ∙ omega arith; greatest = ends P n (λ s c q. let t = top s c q in omega arith) (omega arith) }
      ]

  pub greatest_kept : (P : Flow → Type 0) → ¬ P r.last → (o : Option ℕ) → IsGreatest R P o → IsGreatest (R ++ r ∷ []) P o
  greatest_kept P n None g = λ s c p. elim (Contains-push_cases R r s c) [ inl old ↦ g s old p | inr e ↦ n (subst (λ (x : Row). P x.last) (sym e) p) ]
  greatest_kept P n (Some m) g = record {
    row = g.row;
    there = Contains-append_left R (r ∷ []) g.row g.there;
    meets = g.meets;
    at = g.at;
    greatest = λ s c p. elim (Contains-push_cases R r s c) [ inl old ↦ g.greatest s old p | inr e ↦ absurd (n (subst (λ (x : Row). P x.last) (sym e) p)) ];
  }

  new_run : Run
  new_run = record { row = length R; place = place r.last }

  at_end : (d : Row) → get_or (R ++ r ∷ []) (length R) d ≡ r
  at_end d = get_or_push R r d (length R) refl

  is_new : ((s : Row) → Contains R s → source s.last ≡ source r.last → target s.last ≡ target r.last → place s.last ≤ place r.last) → IsRunOf (R ++ r ∷ []) (source r.last) (target r.last) (record { row = length R; place = place r.last })
  is_new old = record {
    within = simp length-append (omega arith);
    from = λ d. ap (λ (x : Row). source x.last) (at_end d);
    to = λ d. ap (λ (x : Row). target x.last) (at_end d);
    at = λ d. ap (λ (x : Row). place x.last) (at_end d);
    greatest = λ s c a b. elim (Contains-push_cases R r s c) [ inl o ↦ old s o a b | inr e ↦ omega (arith, ap (λ (x : Row). place x.last) e) ];
  }

  -- an older run, where the new row does not end later in its pair
  still : (u v : ℕ) (run : Run) → IsRunOf R u v run → ((source r.last ≡ u) → (target r.last ≡ v) → place r.last ≤ run.place) → IsRunOf (R ++ r ∷ []) u v run
  still u v run g low =
      let same = λ (d : Row). get_or_append_left R (r ∷ []) d run.row g.within in
      record {
        within = let w = g.within in simp length-append (omega arith);
        from = λ d. ap (λ (x : Row). source x.last) (same d) ∙ g.from d;
        to = λ d. ap (λ (x : Row). target x.last) (same d) ∙ g.to d;
        at = λ d. ap (λ (x : Row). place x.last) (same d) ∙ g.at d;
        greatest = λ s c a b. elim (Contains-push_cases R r s c) [
          | inl o ↦ g.greatest s o a b
          | inr e ↦ subst (λ (x : Row). place x.last ≤ run.place) e (low (ap (λ (x : Row). source x.last) e ∙ a) (ap (λ (x : Row). target x.last) e ∙ b))
        ];
      }

  pub run_recalled : (o : Option Run) → IsRun R (source r.last) (target r.last) o → IsRunOf (R ++ r ∷ []) (source r.last) (target r.last) (later_run o (record { row = length R; place = place r.last }))
  run_recalled None g = is_new (λ s c a b. absurd (g s c (a, b)))
  run_recalled (Some old) g =
      let P : Bool → Type 0 = λ b. IsRunOf (R ++ r ∷ []) (source r.last) (target r.last) (cond b (record { row = length R; place = place r.last }) old) in
      elim (cases_Bool (nat_lt old.place (place r.last))) [
        | inl t ↦ subst P (sym t) (let low = ltb-true old.place (place r.last) t in is_new (λ s c a b. let q = g.greatest s c a b in omega arith))
        | inr f ↦ subst P (sym f) (let high = ltb-false old.place (place r.last) f in still (source r.last) (target r.last) old g (λ a b. high))
      ]

  pub run_kept : (u v : ℕ) → ¬ ((source r.last ≡ u) × (target r.last ≡ v)) → (o : Option Run) → IsRun R u v o → IsRun (R ++ r ∷ []) u v o
  run_kept u v n None g = λ s c p. elim (Contains-push_cases R r s c) [ inl old ↦ g s old p | inr e ↦ n (ap (λ (x : Row). source x.last) e ∙ p.0, ap (λ (x : Row). target x.last) e ∙ p.1) ]
  run_kept u v n (Some run) g = still u v run g (λ a b. absurd (n (a, b)))

  names_new : NamesRow (R ++ r ∷ []) (source r.last) (target r.last) (record { row = length R; place = place r.last })
  names_new = record {
    within = simp length-append (omega arith);
    from = λ d. ap (λ (x : Row). source x.last) (at_end d);
    to = λ d. ap (λ (x : Row). target x.last) (at_end d);
  }

  names_old : (u v : ℕ) (run : Run) → NamesRow R u v run → NamesRow (R ++ r ∷ []) u v run
  names_old u v run g =
      let same = λ (d : Row). get_or_append_left R (r ∷ []) d run.row g.within in
      record {
        within = let w = g.within in simp length-append (omega arith);
        from = λ d. ap (λ (x : Row). source x.last) (same d) ∙ g.from d;
        to = λ d. ap (λ (x : Row). target x.last) (same d) ∙ g.to d;
      }

  pub names_kept : (u v : ℕ) (o : Option Run) → MayName R u v o → MayName (R ++ r ∷ []) u v o
  names_kept u v None g = g
  names_kept u v (Some run) g = names_old u v run g

  pub names_recalled : (o : Option Run) → MayName R (source r.last) (target r.last) o → NamesRow (R ++ r ∷ []) (source r.last) (target r.last) (later_run o (record { row = length R; place = place r.last }))
  names_recalled None g = names_new
  names_recalled (Some old) g =
      let P : Bool → Type 0 = λ b. NamesRow (R ++ r ∷ []) (source r.last) (target r.last) (cond b (record { row = length R; place = place r.last }) old) in
      elim (cases_Bool (nat_lt old.place (place r.last))) [ inl t ↦ subst P (sym t) names_new | inr f ↦ subst P (sym f) (names_old (source r.last) (target r.last) old g) ]
