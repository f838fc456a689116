-- A flow of a list that meets a condition, or none.
use Rattle.std.proofs.Common.{◌≡◌, ℕ, suc, ◌<◌, List, [], ◌∷◌, ◌++◌, refl, ap, subst, arith, ◌⊎◌, inl, inr}
use Rattle.std.specs.List.{Contains}
use Rattle.std.proofs.lemmas.List.Elements.{Contains-push, Contains-push_cases, Contains-append_left}
use Rattle.std.proofs.lemmas.Bool.{cases_eq, cases_lt}
use Rattle.flow_base.specs.declared.types.Flow.{Flow}
use Rattle.reach_model.specs.Flows.{source, target, place, IsLawful}
use Rattle.reach_model.specs.Rows.{SamePair}
use Rattle.reach_model.proofs.Lawful.{lawful_front, before_last}
use Rattle.reach_model.proofs.Shadow.{by_last}
use Rattle.reach_model.proofs.Members.{Contains-cons_cases}

abbrev pub Decided : Type 0 → Type 0
Decided P = P ⊎ ¬ P

pub both : (P Q : Type 0) → Decided P → Decided Q → Decided (P × Q)
both P Q d e = elim d [ inl p ↦ elim e [ inl q ↦ inl (p, q) | inr m ↦ inr (λ x. m x.1) ] | inr n ↦ inr (λ x. n x.0) ]

pub either : (P Q : Type 0) → Decided P → Decided Q → Decided (P ⊎ Q)
either P Q d e = elim d [ inl p ↦ inl (inl p) | inr n ↦ elim e [ inl q ↦ inl (inr q) | inr m ↦ inr (λ x. elim x [ inl p ↦ n p | inr q ↦ m q ]) ] ]

pub lower : (m n : ℕ) → Decided (m < n)
lower m n = elim (cases_lt m n) [ inl l ↦ inl l | inr h ↦ inr (λ x. omega arith) ]

pub same_pair : (g f : Flow) → Decided (SamePair g f)
same_pair g f = both (source g ≡ source f) (target g ≡ target f) (cases_eq (source g) (source f)) (cases_eq (target g) (target f))

module _ (Q : Flow → Type 0) (decide : (h : Flow) → Decided (Q h)) where
  pub some_or_none : (F : List Flow) → ((h : Flow) × Contains F h × Q h) ⊎ ((h : Flow) → Contains F h → ¬ Q h)
  some_or_none [] = inr (λ h c. absurd (omega (arith, c.1)))
  some_or_none (f ∷ F) = elim (decide f) [
    | inl q ↦ inl (f, (0, omega arith, refl), q)
    | inr n ↦ elim (some_or_none F) [
      | inl s ↦ inl (s.0, (suc (s.1).0, omega (arith, (s.1).1), (s.1).2), s.2)
      | inr m ↦ inr (λ h c. elim (Contains-cons_cases F f h c) [ inl e ↦ subst (λ x. ¬ Q x) e n | inr c' ↦ m h c' ])
    ]
  ]

  pub last_or_none : (F : List Flow) → IsLawful F → ((g : Flow) × Contains F g × Q g × ((h : Flow) → Contains F h → place g < place h → ¬ Q h)) ⊎ ((h : Flow) → Contains F h → ¬ Q h)
  last_or_none = by_last (λ F. IsLawful F → ((g : Flow) × Contains F g × Q g × ((h : Flow) → Contains F h → place g < place h → ¬ Q h)) ⊎ ((h : Flow) → Contains F h → ¬ Q h))
      (λ l. inr (λ h c. absurd (omega (arith, c.1)))) step
    where
      step : (F : List Flow) (f : Flow) → (IsLawful F → ((g : Flow) × Contains F g × Q g × ((h : Flow) → Contains F h → place g < place h → ¬ Q h)) ⊎ ((h : Flow) → Contains F h → ¬ Q h))
          → IsLawful (F ++ f ∷ []) → ((g : Flow) × Contains (F ++ f ∷ []) g × Q g × ((h : Flow) → Contains (F ++ f ∷ []) h → place g < place h → ¬ Q h)) ⊎ ((h : Flow) → Contains (F ++ f ∷ []) h → ¬ Q h)
      step F f ih l = elim (decide f) [
        | inl q ↦ inl (
          f,
          Contains-push F f,
          q,
          λ h c after. absurd (elim (Contains-push_cases F f h c) [
            | inl old ↦ let b = before_last F f h l old in omega arith
            | inr new ↦ omega (arith, ap place new)
          ]),
        )
        | inr n ↦ elim (ih (lawful_front F f l)) [
          | inl g ↦ inl (
            g.0,
            Contains-append_left F (f ∷ []) g.0 g.1,
            g.2,
            λ h c after. elim (Contains-push_cases F f h c) [
              | inl old ↦ g.3 h old after
              | inr new ↦ subst (λ x. ¬ Q x) new n
            ],
          )
          | inr m ↦ inr (λ h c. elim (Contains-push_cases F f h c) [ inl old ↦ m h old | inr new ↦ subst (λ x. ¬ Q x) new n ])
        ]
      ]
