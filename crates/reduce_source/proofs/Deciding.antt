-- The verdict of source mode on a flow, by the sets of the kept flows.
use Rattle.std.proofs.Common.{◌≡◌, ◌≢◌, ℕ, ◌↔◌, ◌⊎◌, List, [], ◌∷◌, ◌++◌, Some, None, Bool, true, false, refl, sym, ap, subst, ◌∙◌, inl, inr}
use Rattle.std.specs.Option.{option_or}
use Rattle.std.specs.List.{Contains}
use Rattle.flow_base.specs.declared.types.Flow.{Flow}
use Rattle.reach_model.specs.Flows.{source, target}
use Rattle.reach_model.specs.Paths.{Reaches}
use Rattle.reach_model.specs.Sources.{first_at, touches, IsSource}
use Rattle.reach_model.specs.Rows.{IsSourceOf}
use Rattle.reach_model.specs.SourceSets.{HasSource, MakesSource}
use Rattle.reach_model.proofs.FirstFlows.{known_or_not, first_push, first_apart, first_new, source_stays, source_was, touches_source}
use Rattle.reach_model.proofs.KeepsFirst.{path_start, path_end}
use Rattle.reduce_source.specs.Tables.{AreReached}
use Rattle.reduce_source.proofs.SetLemmas.{no_source}

-- what has a first flow is known
pub not_none : (K : List Flow) (x : ℕ) (g : Flow) → first_at K x ≡ Some g → first_at K x ≢ None
not_none K x g at none = let clash : None ≡ Some g = sym none ∙ at in cc

module _ (K : List Flow) (f : Flow) where
  -- an object whose first flow is f
  pub new_first : (x : ℕ) → first_at K x ≡ None → (g : Flow) → first_at (K ++ f ∷ []) x ≡ Some g → touches f x ≡ true
  new_first x none g at = by (touches f x) refl
    where
      by : (b : Bool) → touches f x ≡ b → touches f x ≡ true
      by true e = e
      by false e =
          let gone : first_at (K ++ f ∷ []) x ≡ None = first_push K f x ∙ ap (λ o. option_or o (first_at (f ∷ []) x)) none ∙ first_apart f x e in
          absurd (not_none (K ++ f ∷ []) x g at gone)

  makes : (x : ℕ) → MakesSource K f x → IsSource (K ++ f ∷ []) x
  makes x m = (f, first_new K f x m.0 (touches_source f x m.1), m.1)

  -- a source with f was one, or f makes it one
  old_or_new : (x : ℕ) → IsSource (K ++ f ∷ []) x → IsSource K x ⊎ MakesSource K f x
  old_or_new x s = elim (known_or_not K x) [
    | inl k ↦ inl (source_was K f x k s)
    | inr none ↦
        let at : Some s.0 ≡ Some f = sym s.1 ∙ first_new K f x none (new_first x none s.0 s.1) in
        let same : s.0 ≡ f = cc in
        inr (none, ap source (sym same) ∙ s.2)
  ]

  -- a path from an object without flows is empty
  stays_there : (x v : ℕ) → first_at K x ≡ None → Reaches (Contains K) 0 x v → x ≡ v
  stays_there x v none (p, w) = elim (path_start K 0 x v p w) [ inl e ↦ e | inr k ↦ absurd (not_none K x k.0 k.1 none) ]

  -- what the verdict asks, for any flow
  pub asked : (v x : ℕ) → IsSourceOf K f v x ↔ (HasSource K v x ⊎ (MakesSource K f x × (v ≡ source f)))
  asked v x = (
    λ s. elim (old_or_new x s.0) [
      | inl old ↦ inl (old, s.1)
      | inr new ↦ inr (new, sym (stays_there x v new.0 s.1) ∙ sym new.1)
    ],
    λ o. elim o [
      | inl h ↦ (source_stays K f x h.0, h.1)
      | inr m ↦ (makes x m.0, ([], sym m.0.1 ∙ sym m.1))
    ],
  )

  -- where the source of f has a flow, only sources of K count
  old_asked : first_at K (source f) ≢ None → (v x : ℕ) → IsSourceOf K f v x → HasSource K v x
  old_asked known v x s = elim ((asked v x).0 s) [
    | inl h ↦ h
    | inr m ↦ absurd (known (subst (λ y. first_at K y ≡ None) (sym m.0.1) m.0.0))
  ]

  pub dropped : first_at K (source f) ≢ None → ((x : ℕ) → HasSource K (source f) x → HasSource K (target f) x) → (x : ℕ) → IsSourceOf K f (source f) x → IsSourceOf K f (target f) x
  dropped known within x s = (asked (target f) x).1 (inl (within x (old_asked known (source f) x s)))

  abbrev IsMissing : Type 0
  IsMissing = (x : ℕ) × IsSourceOf K f (source f) x × ¬ IsSourceOf K f (target f) x

  -- a new object is a source of itself
  pub new_missing : first_at K (source f) ≡ None → source f ≢ target f → IsMissing
  new_missing none differ = (
    source f,
    (asked (source f) (source f)).1 (inr ((none, refl), refl)),
    λ s. elim ((asked (target f) (source f)).0 s) [ inl h ↦ absurd (no_source K (source f) none h.0) | inr m ↦ absurd (differ (sym m.1)) ],
  )

  pub missing : first_at K (source f) ≢ None → (x : ℕ) → HasSource K (source f) x → ¬ HasSource K (target f) x → IsMissing
  missing known x has lacks = (x, (asked (source f) x).1 (inl has), λ s. lacks (old_asked known (target f) x s))

  -- a new object has no source
  none_there : (v x : ℕ) → first_at K v ≡ None → ¬ HasSource K v x
  none_there v x none h = elim (path_end K 0 x v h.1.0 h.1.1) [
    | inl e ↦ absurd (no_source K v none (subst (IsSource K) e h.0))
    | inr k ↦ absurd (not_none K v k.0 k.1 none)
  ]

  pub missing_there : AreReached K → (g : Flow) → first_at K (source f) ≡ Some g → first_at K (target f) ≡ None → IsMissing
  missing_there reached g at none =
      let r = reached (source f) g at in
      missing (not_none K (source f) g at) r.0 r.1 (none_there (target f) r.0 none)
