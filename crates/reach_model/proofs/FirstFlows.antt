-- The first flow of each object is kept.
use Rattle.std.proofs.Common.{◌≡◌, ℕ, List, [], ◌∷◌, ◌++◌, Option, Some, None, true, false, cond, refl, sym, ap, subst, ◌∙◌, arith, ◌⊎◌, inl, inr}
use Rattle.std.specs.List.{Contains}
use Rattle.std.specs.Option.{option_or}
use Rattle.std.proofs.lemmas.List.Elements.{Contains-append_left, Contains-push}
use Rattle.std.proofs.lemmas.Bool.{or_cases, or_left, or_right, eqb-true, eq-eqb, cases_Bool, cond_both}
use Rattle.flow_base.specs.declared.types.Flow.{Flow}
use Rattle.reach_model.specs.Flows.{source, target, place, IsLawful}
use Rattle.reach_model.specs.Paths.{Path, Reaches}
use Rattle.reach_model.specs.Sources.{touches, first_at, IsSource}
use Rattle.reach_model.proofs.Lawful.{lawful_front, before_last}
use Rattle.reach_model.proofs.PathLemmas.{Below, path_weaker, path_push}
use Rattle.reach_model.proofs.Shadow.{by_last}
use Rattle.reach_model.proofs.Members.{Contains-cons_cases}

-- an object that some flow has at an end
abbrev pub IsKnown : List Flow → ℕ → Type 0
IsKnown F x = (f : Flow) × (first_at F x ≡ Some f)

pub touches_source : (f : Flow) (x : ℕ) → source f ≡ x → touches f x ≡ true
touches_source f x e = or_left _ _ (eq-eqb (source f) x e)

pub touches_target : (f : Flow) (x : ℕ) → target f ≡ x → touches f x ≡ true
touches_target f x e = or_right _ _ (eq-eqb (target f) x e)

pub touched : (f : Flow) (x : ℕ) → touches f x ≡ true → (source f ≡ x) ⊎ (target f ≡ x)
touched f x t = elim (or_cases _ _ t) [ inl s ↦ inl (eqb-true (source f) x s) | inr s ↦ inr (eqb-true (target f) x s) ]

pub known_by : (F : List Flow) (g : Flow) (x : ℕ) → Contains F g → touches g x ≡ true → IsKnown F x
known_by [] g x c t = absurd (omega (arith, c.1))
known_by (f ∷ F) g x c t = elim (Contains-cons_cases F f g c) [
  | inl e ↦ (f, ap (λ b. cond b (Some f) (first_at F x)) (ap (λ h. touches h x) e ∙ t))
  | inr c' ↦ let i = known_by F g x c' t in
      cond_both (touches f x) (Some f) (first_at F x) (λ o. (h : Flow) × (o ≡ Some h)) (λ _. (f, refl)) (λ _. i)
]

pub first_push : (F : List Flow) (f : Flow) (x : ℕ) → first_at (F ++ f ∷ []) x ≡ option_or (first_at F x) (first_at (f ∷ []) x)
first_push [] f x = refl
first_push (g ∷ F) f x = elim (touches g x) as (λ b. cond b (Some g) (first_at (F ++ f ∷ []) x) ≡ option_or (cond b (Some g) (first_at F x)) (first_at (f ∷ []) x)) [
  | true ↦ refl
  | false ↦ first_push F f x
]

pub first_stays : (F : List Flow) (f : Flow) (x : ℕ) → IsKnown F x → first_at (F ++ f ∷ []) x ≡ first_at F x
first_stays F f x (h, e) = first_push F f x ∙ ap (λ o. option_or o (first_at (f ∷ []) x)) e ∙ sym e

-- one flow that has x at no end
pub first_apart : (f : Flow) (x : ℕ) → touches f x ≡ false → first_at (f ∷ []) x ≡ None
first_apart f x t = ap (λ b. cond b (Some f) None) t

or_none : (o : Option Flow) → option_or o None ≡ o
or_none None = refl
or_none (Some h) = refl

-- a flow between known objects is nobody's first
pub first_same : (F : List Flow) (f : Flow) → IsKnown F (source f) → IsKnown F (target f) → (x : ℕ) → first_at (F ++ f ∷ []) x ≡ first_at F x
first_same F f s t x = elim (cases_Bool (touches f x)) [
  | inl on ↦ elim (touched f x on) [
    | inl e ↦ first_stays F f x (subst (IsKnown F) e s)
    | inr e ↦ first_stays F f x (subst (IsKnown F) e t)
  ]
  | inr apart ↦ first_push F f x ∙ ap (option_or (first_at F x)) (first_apart f x apart) ∙ or_none (first_at F x)
]

-- an object that is not known yet is a source where the next flow leaves it
pub first_new : (F : List Flow) (f : Flow) (x : ℕ) → first_at F x ≡ None → touches f x ≡ true → first_at (F ++ f ∷ []) x ≡ Some f
first_new F f x e t = first_push F f x ∙ ap (λ o. option_or o (first_at (f ∷ []) x)) e ∙ ap (λ b. cond b (Some f) None) t

pub known_or_not : (F : List Flow) (x : ℕ) → IsKnown F x ⊎ (first_at F x ≡ None)
known_or_not F x = of (first_at F x) refl
  where
    of : (o : Option Flow) → first_at F x ≡ o → IsKnown F x ⊎ (first_at F x ≡ None)
    of None e = inr e
    of (Some f) e = inl (f, e)

pub source_stays : (F : List Flow) (f : Flow) (x : ℕ) → IsSource F x → IsSource (F ++ f ∷ []) x
source_stays F f x (h, e, s) = (h, first_stays F f x (h, e) ∙ e, s)

pub source_was : (F : List Flow) (f : Flow) (x : ℕ) → IsKnown F x → IsSource (F ++ f ∷ []) x → IsSource F x
source_was F f x k (h, e, s) = (h, sym (first_stays F f x k) ∙ e, s)

-- each known object is reached from a source
pub has_source : (F : List Flow) → IsLawful F → (x : ℕ) → IsKnown F x → (s : ℕ) × IsSource F s × Reaches (Contains F) 0 s x
has_source = by_last (λ F. IsLawful F → (x : ℕ) → IsKnown F x → (s : ℕ) × IsSource F s × Reaches (Contains F) 0 s x) (λ l x k. absurd (none_known x k)) step
  where
    none_known : (x : ℕ) → IsKnown [] x → ⊥
    none_known x (f, e) = cc

    step : (F : List Flow) (f : Flow) → (IsLawful F → (x : ℕ) → IsKnown F x → (s : ℕ) × IsSource F s × Reaches (Contains F) 0 s x)
        → IsLawful (F ++ f ∷ []) → (x : ℕ) → IsKnown (F ++ f ∷ []) x → (s : ℕ) × IsSource (F ++ f ∷ []) s × Reaches (Contains (F ++ f ∷ [])) 0 s x
    step F f ih l x k = elim (known_or_not F x) [
      | inl old ↦ let i = ih (lawful_front F f l) x old in (i.0, source_stays F f i.0 i.1, (i.2.0, wider i.0 x i.2.0 i.2.1))
      | inr new ↦ elim (touched f x (new_touched new k)) [
        | inl e ↦ (x, (f, first_new F f x new (touches_source f x e), e), ([], refl))
        | inr e ↦ elim (known_or_not F (source f)) [
          | inl old ↦ let i = ih (lawful_front F f l) (source f) old in (
            i.0,
            source_stays F f i.0 i.1,
            (
              i.2.0 ++ f ∷ [],
              subst (λ y. Path (Contains (F ++ f ∷ [])) 0 i.0 y (i.2.0 ++ f ∷ [])) e
                  (path_push (Contains (F ++ f ∷ [])) 0 i.0 i.2.0 f
                  (path_weaker (Contains F) (Below (Contains (F ++ f ∷ [])) (place f)) (λ g c. (Contains-append_left F (f ∷ []) g c, before_last F f g l c)) 0 0 i.0 (source f) i.2.0 (omega arith) i.2.1)
                  (Contains-push F f) (omega arith)),
            ),
          )
          | inr fresh ↦ (source f, (f, first_new F f (source f) fresh (touches_source f (source f) refl), refl), (f ∷ [], (Contains-push F f, omega arith, refl, e)))
        ]
      ]
    ]
      where
        wider : (s y : ℕ) (p : List Flow) → Path (Contains F) 0 s y p → Path (Contains (F ++ f ∷ [])) 0 s y p
        wider s y p w = path_weaker (Contains F) (Contains (F ++ f ∷ [])) (λ g c. Contains-append_left F (f ∷ []) g c) 0 0 s y p (omega arith) w

        new_touched : first_at F x ≡ None → IsKnown (F ++ f ∷ []) x → touches f x ≡ true
        new_touched new (h, e) = elim (cases_Bool (touches f x)) [
          | inl t ↦ t
          | inr apart ↦ let none : first_at (F ++ f ∷ []) x ≡ None = first_push F f x ∙ ap (λ o. option_or o (first_at (f ∷ []) x)) new ∙ first_apart f x apart in
              let clash : None ≡ Some h = sym none ∙ e in (cc)
        ]
