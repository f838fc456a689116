-- The last flow of a list, and the paths that end with it.
use Rattle.std.proofs.Common.{◌≡◌, ℕ, suc, ◌<◌, ◌≤◌, List, [], ◌∷◌, ◌++◌, sym, ap, subst, ◌∙◌, arith, ◌⊎◌, inl, inr}
use Rattle.std.specs.List.{Contains}
use Rattle.std.proofs.lemmas.List.Elements.{Contains-push_cases}
use Rattle.flow_base.specs.declared.types.Flow.{Flow}
use Rattle.reach_model.specs.Flows.{source, target, place}
use Rattle.reach_model.specs.Paths.{Path}
use Rattle.reach_model.proofs.Within.{Among}

-- the front of a path that ends with f
abbrev pub EndsWith : List Flow → (Flow → Type 0) → Flow → ℕ → ℕ → ℕ → Type 0
EndsWith F T f n u v = (p : List Flow) × Path (Among F T) n u (source f) p × T f × (target f ≡ v) × (n ≤ place f)

-- a path by the flows of F and then f has f as its last flow, or not at all
pub split_new : (F : List Flow) (f : Flow) → ((g : Flow) → Contains F g → place g < place f) → (T : Flow → Type 0) (n u v : ℕ) (p : List Flow) → Path (Among (F ++ f ∷ []) T) n u v p → (Path (Among F T) n u v p) ⊎ EndsWith F T f n u v
split_new F f before T n u v [] w = inl w
split_new F f before T n u v (g ∷ p) w = elim (Contains-push_cases F f g w.0.0) [
  | inl old ↦ elim (split_new F f before T (suc (place g)) (target g) v p w.3) [
    | inl rest ↦ inl ((old, w.0.1), w.1, w.2, rest)
    | inr e ↦ inr (g ∷ e.0, ((old, w.0.1), w.1, w.2, e.1), e.2, e.3, let low : place g < place f = before g old in omega (arith, w.1))
  ]
  | inr new ↦ inr ([], subst (λ x. u ≡ source x) (sym new) (sym w.2), subst T (sym new) w.0.1, ends p new w.3, omega (arith, w.1, ap place new))
]
  where
    ends : (p : List Flow) → f ≡ g → Path (Among (F ++ f ∷ []) T) (suc (place g)) (target g) v p → target f ≡ v
    ends [] new r = ap target new ∙ r
    ends (h ∷ p) new r = absurd (elim (Contains-push_cases F f h r.0.0) [
      | inl old ↦ let low : place h < place f = before h old in omega (arith, ap place new, r.1)
      | inr again ↦ omega (arith, ap place new, ap place again, r.1)
    ])
