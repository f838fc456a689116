-- As many sources reach an object as flows into it are kept.
use Rattle.std.proofs.Common.{◌≡◌, ℕ, ◌+◌, List, [], ◌∷◌, ◌++◌, length, get_or, false, cond, refl, sym, ap, subst, ◌∙◌, arith, inl, inr, ◌==◌}
use Rattle.std.specs.List.{Contains, IsDistinct, count_by}
use Rattle.std.specs.Cmp.{nat_eq_equiv}
use Rattle.std.specs.Prelude.{nat_eq}
use Rattle.std.proofs.lemmas.List.{length-append, map-append}
use Rattle.std.proofs.lemmas.List.Elements.{Contains-push_cases, Contains-append_left, Contains-push, Contains-get_or}
use Rattle.std.proofs.lemmas.List.Folds.{list_any_none}
use Rattle.std.proofs.lemmas.List.Sums.{sum_by-append}
use Rattle.std.proofs.lemmas.Map.Keys.{IsDistinct-push}
use Rattle.std.proofs.lemmas.Bool.{cases_eq, eq-eqb, ne_eqb}
use Rattle.flow_base.specs.declared.types.Flow.{Flow}
use Rattle.reach_model.specs.declared.modes.Mode.TheVariants.{Source}
use Rattle.reach_model.specs.declared.modes.Verdict.TheVariants.{Drop, Add, Extend}
use Rattle.reach_model.specs.Flows.{source, target, place, IsLawful}
use Rattle.reach_model.specs.Paths.{Path, Reaches}
use Rattle.reach_model.specs.Sources.{IsSource}
use Rattle.reach_model.specs.Rows.{Row, row_of, firsts, Keeps, none, more}
use Rattle.reach_model.proofs.Lawful.{lawful_front, before_last}
use Rattle.reach_model.proofs.PathLemmas.{Below, path_weaker, path_push}
use Rattle.reach_model.proofs.FirstFlows.{source_stays}

abbrev Into : List Flow → List Row → ℕ → Type 0
Into F R v = (xs : List ℕ) × IsDistinct nat_eq xs × ((x : ℕ) → Contains xs x → IsSource F x × Reaches (Contains F) 0 x v) × (length xs ≡ count_by (λ f. target f == v) (firsts R))

wider : (F : List Flow) (f : Flow) (x v : ℕ) → Reaches (Contains F) 0 x v → Reaches (Contains (F ++ f ∷ [])) 0 x v
wider F f x v (p, w) = (p, path_weaker (Contains F) (Contains (F ++ f ∷ [])) (λ g c. Contains-append_left F (f ∷ []) g c) 0 0 x v p (omega arith) w)

grow : (F : List Flow) (f : Flow) (R : List Row) (v : ℕ) → Into F R v → Into (F ++ f ∷ []) R v
grow F f R v (xs, d, each, n) = (xs, d, λ x c. (source_stays F f x (each x c).0, wider F f x v (each x c).1), n)

counted : (R : List Row) (f : Flow) (v : ℕ) → count_by (λ g. target g == v) (firsts (R ++ row_of f ∷ [])) ≡ count_by (λ g. target g == v) (firsts R) + cond (target f == v) 1 0
counted R f v = ap (count_by (λ g. target g == v)) (map-append (λ (r : Row). r.first) R (row_of f ∷ [])) ∙ sum_by-append (λ g. cond (target g == v) 1 0) (firsts R) (f ∷ []) ∙ omega arith

distinct_none : IsDistinct nat_eq []
unfolding IsDistinct
distinct_none = tt

pub source_each : {F : List Flow} {R : List Row} → IsLawful F → Keeps Source F R → (v : ℕ) → Into F R v
unfolding grow
source_each l none v = ([], distinct_none, λ x c. absurd (omega (arith, c.1)), refl)
source_each l (more {F} {R} f Drop k given) v = grow F f R v (source_each (lawful_front F f l) k v)
source_each l (more {F} {R} f Add k given) v =
    let old = grow F f R v (source_each (lawful_front F f l) k v) in
    elim (cases_eq (target f) v) [
      | inl e ↦
          let before = source_each (lawful_front F f l) k v in
          let x = given.0 in
          let fresh : (y : ℕ) → Contains before.0 y → nat_eq x y ≡ false = λ y c. ne_eqb x y (λ same. given.2 (
            given.1.0,
            subst (λ u. Reaches (Contains F) 0 u (target f)) (sym same) (subst (λ u. Reaches (Contains F) 0 y u) (sym e) (before.2 y c).1),
          )) in
          let p = given.1.1 in
          let through : Path (Contains (F ++ f ∷ [])) 0 x (target f) (p.0 ++ f ∷ []) = path_push (Contains (F ++ f ∷ [])) 0 x p.0 f
          (path_weaker (Contains F) (Below (Contains (F ++ f ∷ [])) (place f)) (λ g c. (Contains-append_left F (f ∷ []) g c, before_last F f g l c)) 0 0 x (source f) p.0 (omega arith) p.1) (Contains-push F f) (omega arith) in (
            before.0 ++ x ∷ [],
            IsDistinct-push nat_eq_equiv before.0 x before.1 (list_any_none (nat_eq x) before.0 (λ n d h. fresh (get_or before.0 n d) (Contains-get_or before.0 n d h))),
            λ y c. elim (Contains-push_cases before.0 x y c) [
              | inl o ↦ old.2 y o
              | inr new ↦ subst (λ u. IsSource (F ++ f ∷ []) u × Reaches (Contains (F ++ f ∷ [])) 0 u v) new (given.1.0, subst (λ u. Reaches (Contains (F ++ f ∷ [])) 0 x u) e (p.0 ++ f ∷ [], through))
            ],
            let one = ap {B = ℕ} (λ b. cond b 1 0) (eq-eqb (target f) v e) in omega (arith, counted R f v, one, before.3, length-append before.0 (x ∷ [])),
          )
      | inr ne ↦ (old.0, old.1, old.2, let zero_more = ap {B = ℕ} (λ b. cond b 1 0) (ne_eqb (target f) v ne) in omega (arith, counted R f v, zero_more, old.3))
    ]
source_each l (more f (Extend i) k given) v = absurd given
