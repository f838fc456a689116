-- How the sources of an object change by a flow, and what the verdict of source mode asks of them.
use Rattle.std.proofs.Common.{◌≡◌, ◌≢◌, ℕ, ◌<◌, ◌↔◌, List, [], ◌∷◌, ◌++◌, Some, None, true, sym, ap, subst, ◌∙◌, arith, ◌⊎◌, inl, inr}
use Rattle.std.specs.Option.{option_or}
use Rattle.std.proofs.lemmas.Bool.{cases_Bool}
use Rattle.std.specs.List.{Contains}
use Rattle.std.proofs.lemmas.List.Elements.{Contains-append_left, Contains-push}
use Rattle.flow_base.specs.declared.types.Flow.{Flow}
use Rattle.reach_model.specs.Flows.{source, target, place}
use Rattle.reach_model.specs.Paths.{Reaches}
use Rattle.reach_model.specs.Sources.{touches, first_at, IsSource}
use Rattle.reach_model.specs.Rows.{IsSourceOf}
use Rattle.reach_model.specs.SourceSets.{HasSource, MakesSource, HasSourceAfter}
use Rattle.reach_model.proofs.PathLemmas.{Below, path_weaker, path_push}
use Rattle.reach_model.proofs.Within.{Among}
use Rattle.reach_model.proofs.LastFlow.{split_new}
use Rattle.reach_model.proofs.FirstFlows.{known_or_not, first_new, first_push, first_apart, source_stays, source_was, touched, touches_source}
use Rattle.reach_model.proofs.KeepsFirst.{path_start}

module _ (K : List Flow) (f : Flow) (before : (g : Flow) → Contains K g → place g < place f) (differ : source f ≢ target f) where
  makes : (x : ℕ) → MakesSource K f x → IsSource (K ++ f ∷ []) x
  makes x m = (f, first_new K f x m.0 (touches_source f x m.1), m.1)

  -- a source after f was one, or f makes it one
  old_or_new : (x : ℕ) → IsSource (K ++ f ∷ []) x → IsSource K x ⊎ MakesSource K f x
  old_or_new x s = elim (known_or_not K x) [
    | inl k ↦ inl (source_was K f x k s)
    | inr n ↦ elim (touched f x (new_touched n)) [
      | inl e ↦ inr (n, e)
      | inr e ↦ let at : Some s.0 ≡ Some f = sym s.1 ∙ first_new K f x n (new_touched n) in let same : s.0 ≡ f = cc in
          absurd (differ (ap source (sym same) ∙ s.2 ∙ sym e))
    ]
  ]
    where
      new_touched : first_at K x ≡ None → touches f x ≡ true
      new_touched n = elim (cases_Bool (touches f x)) [
        | inl t ↦ t
        | inr miss ↦ let gone : first_at (K ++ f ∷ []) x ≡ None = first_push K f x ∙ ap (λ o. option_or o (first_at (f ∷ []) x)) n ∙ first_apart f x miss in
            let clash : None ≡ Some s.0 = sym gone ∙ s.1 in absurd (cc)
      ]

  -- a path over K from an object without flows is empty
  stays_there : (x v : ℕ) → first_at K x ≡ None → Reaches (Contains K) 0 x v → x ≡ v
  stays_there x v n (p, w) = elim (path_start K 0 x v p w) [ inl e ↦ e | inr k ↦ let clash : None ≡ Some k.0 = sym n ∙ k.1 in absurd (cc) ]

  -- what the verdict asks, by the sets before f
  pub source_of : (v x : ℕ) → IsSourceOf K f v x ↔ (HasSource K v x ⊎ (MakesSource K f x × (v ≡ source f)))
  source_of v x = (
    λ s. elim (old_or_new x s.0) [
      | inl old ↦ inl (old, s.1)
      | inr new ↦ inr (new, sym (stays_there x v new.0 s.1) ∙ sym new.1)
    ],
    λ o. elim o [
      | inl h ↦ (source_stays K f x h.0, h.1)
      | inr m ↦ (makes x m.0, ([], sym m.0.1 ∙ sym m.1))
    ],
  )

  wide : (x v : ℕ) → Reaches (Contains K) 0 x v → Reaches (Contains (K ++ f ∷ [])) 0 x v
  wide x v (p, w) = (p, path_weaker (Contains K) (Contains (K ++ f ∷ [])) (λ g c. Contains-append_left K (f ∷ []) g c) 0 0 x v p (omega arith) w)

  through : (x : ℕ) → Reaches (Contains K) 0 x (source f) → Reaches (Contains (K ++ f ∷ [])) 0 x (target f)
  through x (p, w) = (p ++ f ∷ [], path_push (Contains (K ++ f ∷ [])) 0 x p f (path_weaker (Contains K) (Below (Contains (K ++ f ∷ [])) (place f)) (λ g c. (Contains-append_left K (f ∷ []) g c, before g c)) 0 0 x (source f) p (omega arith) w) (Contains-push K f) (omega arith))

  split : (x v : ℕ) → Reaches (Contains (K ++ f ∷ [])) 0 x v → Reaches (Contains K) 0 x v ⊎ ((target f ≡ v) × Reaches (Contains K) 0 x (source f))
  split x v (p, w) =
      let T : Flow → Type 0 = λ g. Unit {0} in
      elim (split_new K f before T 0 x v p (path_weaker (Contains (K ++ f ∷ [])) (Among (K ++ f ∷ []) T) (λ g c. (c, tt)) 0 0 x v p (omega arith) w)) [
        | inl old ↦ inl (p, path_weaker (Among K T) (Contains K) (λ g c. c.0) 0 0 x v p (omega arith) old)
        | inr e ↦ inr (e.3, (e.0, path_weaker (Among K T) (Contains K) (λ g c. c.0) 0 0 x (source f) e.0 (omega arith) e.1))
      ]

  pub sources_after : (v x : ℕ) → HasSource (K ++ f ∷ []) v x ↔ HasSourceAfter K f v x
  sources_after v x = (
    λ h. elim (old_or_new x h.0) [
      | inl old ↦ elim (split x v h.1) [
        | inl r ↦ inl (old, r)
        | inr r ↦ inr (inr (sym r.0, (old, r.1)))
      ]
      | inr new ↦ inr (inl (
        new,
        elim (split x v h.1) [
          | inl r ↦ inl (sym (stays_there x v new.0 r) ∙ sym new.1)
          | inr r ↦ inr (sym r.0)
        ],
      ))
    ],
    λ o. elim o [
      | inl h ↦ (source_stays K f x h.0, wide x v h.1)
      | inr other ↦ elim other [
        | inl m ↦ (
          makes x m.0,
          elim m.1 [
            | inl e ↦ ([], sym m.0.1 ∙ sym e)
            | inr e ↦ subst (λ y. Reaches (Contains (K ++ f ∷ [])) 0 x y) (sym e) (through x ([], sym m.0.1))
          ],
        )
        | inr h ↦ (source_stays K f x h.1.0, subst (λ y. Reaches (Contains (K ++ f ∷ [])) 0 x y) (sym h.0) (through x h.1.1))
      ]
    ],
  )
