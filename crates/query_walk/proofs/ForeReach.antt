-- What is reached by flows before a place, as the place goes up.
use Rattle.std.proofs.Common.{◌≡◌, ℕ, suc, ◌+◌, ◌≤◌, List, [], ◌∷◌, ◌++◌, sym, subst, arith, ◌⊎◌, inl, inr, refl}
use Rattle.std.proofs.lemmas.Bool.{cases_lt}
use Rattle.flow_base.specs.declared.types.Flow.{Flow}
use Rattle.reach_model.specs.Flows.{source, target, place}
use Rattle.reach_model.specs.Paths.{Path, Reaches}
use Rattle.reach_model.proofs.PathLemmas.{Below, path_weaker, path_push}

-- one flow more
pub reach_more : (S : Flow → Type 0) (b u : ℕ) (f : Flow) → Reaches (Below S b) 0 u (source f) → S f → b ≤ place f → Reaches (Below S (place f + 1)) 0 u (target f)
reach_more S b u f (q, w) s h =
    (q ++ f ∷ [], path_push (Below S (place f + 1)) 0 u q f (path_weaker (Below S b) (Below (Below S (place f + 1)) (place f)) (λ g c. ((c.0, omega (arith, c.1, h)), omega (arith, c.1, h))) 0 0 u (source f) q (omega arith) w) (s, omega arith) (omega arith))

-- Flows that T allows are allowed by S. Those of them from b on that leave what is reached before b enter what is, so they reach
-- nothing more.
module _ (S T : Flow → Type 0) (sub : (f : Flow) → T f → S f) (b u : ℕ) (stays : (f : Flow) → T f → b ≤ place f → Reaches (Below S b) 0 u (source f) → Reaches (Below S b) 0 u (target f)) where
  after : (n x v : ℕ) (p : List Flow) → b ≤ n → Reaches (Below S b) 0 u x → Path T n x v p → Reaches (Below S b) 0 u v
  after n x v [] h r e = subst (λ y. Reaches (Below S b) 0 u y) e r
  after n x v (f ∷ p) h r w =
      let at : n ≤ place f = w.1 in
      after (suc (place f)) (target f) v p (omega arith) (stays f w.0 (omega arith) (subst (λ y. Reaches (Below S b) 0 u y) (sym w.2) r)) w.3

  go : (n x v : ℕ) (q p : List Flow) → n ≤ b → Path (Below S n) 0 u x q → Path T n x v p → Reaches (Below S b) 0 u v
  go n x v q [] h w e = (q, subst (λ y. Path (Below S b) 0 u y q) e (path_weaker (Below S n) (Below S b) (λ g c. (c.0, omega (arith, c.1))) 0 0 u x q (omega arith) w))
  go n x v q (f ∷ p) h w r = elim (cases_lt (place f) b) [
    | inl before ↦
        let s = sub f r.0 in
        let at : n ≤ place f = r.1 in
        let so_far : Path (Below (Below S (suc (place f))) (place f)) 0 u (source f) q = subst (λ y. Path (Below (Below S (suc (place f))) (place f)) 0 u y q) (sym r.2)
        (path_weaker (Below S n) (Below (Below S (suc (place f))) (place f)) (λ g c. ((c.0, omega (arith, c.1)), omega (arith, c.1))) 0 0 u x q (omega arith) w) in
        go (suc (place f)) (target f) v (q ++ f ∷ []) p (omega arith) (path_push (Below S (suc (place f))) 0 u q f so_far (s, omega arith) (omega arith)) r.3
    | inr from ↦
        let there : Reaches (Below S b) 0 u (source f) = (q, subst (λ y. Path (Below S b) 0 u y q) (sym r.2) (path_weaker (Below S n) (Below S b) (λ g c. (c.0, omega (arith, c.1))) 0 0 u x q (omega arith) w)) in
        after (suc (place f)) (target f) v p (omega arith) (stays f r.0 from there) r.3
  ]

  pub reach_no_more : (v : ℕ) → Reaches T 0 u v → Reaches (Below S b) 0 u v
  reach_no_more v (p, w) = go 0 u v [] p (omega arith) refl w

-- what is reached before q + 1 is reached before q, or by a flow at q from what is
module _ (S : Flow → Type 0) (q u : ℕ) where
  step : (n x v : ℕ) (p r : List Flow) → n ≤ q → Path (Below S n) 0 u x p → Path (Below S (q + 1)) n x v r → Reaches (Below S q) 0 u v ⊎ ((f : Flow) × S f × (place f ≡ q) × Reaches (Below S q) 0 u (source f) × (target f ≡ v))
  step n x v p [] h w e = inl (p, subst (λ y. Path (Below S q) 0 u y p) e (path_weaker (Below S n) (Below S q) (λ g c. (c.0, omega (arith, c.1))) 0 0 u x p (omega arith) w))
  step n x v p (f ∷ r) h w t = elim (cases_lt (place f) q) [
    | inl before ↦
        let at : n ≤ place f = t.1 in
        let so_far : Path (Below (Below S (suc (place f))) (place f)) 0 u (source f) p = subst (λ y. Path (Below (Below S (suc (place f))) (place f)) 0 u y p) (sym t.2)
        (path_weaker (Below S n) (Below (Below S (suc (place f))) (place f)) (λ g c. ((c.0, omega (arith, c.1)), omega (arith, c.1))) 0 0 u x p (omega arith) w) in
        step (suc (place f)) (target f) v (p ++ f ∷ []) r (omega arith) (path_push (Below S (suc (place f))) 0 u p f so_far (t.0.0, omega arith) (omega arith)) t.3
    | inr here ↦ inr (
      f,
      t.0.0,
      omega (arith, here, t.0.1),
      (p, subst (λ y. Path (Below S q) 0 u y p) (sym t.2) (path_weaker (Below S n) (Below S q) (λ g c. (c.0, omega (arith, c.1))) 0 0 u x p (omega arith) w)),
      no_later f v r here t.3,
    )
  ]
    where
      no_later : (f : Flow) (v : ℕ) (r : List Flow) → q ≤ place f → Path (Below S (q + 1)) (suc (place f)) (target f) v r → target f ≡ v
      no_later f v [] h e = e
      no_later f v (g ∷ r) h k = absurd (omega (arith, k.1, k.0.1))

  pub reach_step : (v : ℕ) → Reaches (Below S (q + 1)) 0 u v → Reaches (Below S q) 0 u v ⊎ ((f : Flow) × S f × (place f ≡ q) × Reaches (Below S q) 0 u (source f) × (target f ≡ v))
  reach_step v (p, w) = step 0 u v [] p (omega arith) refl w

pub reach_weaker : (S : Flow → Type 0) (a b u v : ℕ) → a ≤ b → Reaches (Below S a) 0 u v → Reaches (Below S b) 0 u v
reach_weaker S a b u v h (p, w) = (p, path_weaker (Below S a) (Below S b) (λ g c. (c.0, omega (arith, c.1))) 0 0 u v p (omega arith) w)

-- before the first place an object reaches itself alone
pub reach_none : (S : Flow → Type 0) (u v : ℕ) → Reaches (Below S 0) 0 u v → u ≡ v
reach_none S u v ([], w) = w
reach_none S u v (f ∷ p, w) = absurd (omega (arith, w.0.1))

pub reach_within : (S : Flow → Type 0) (b u v : ℕ) → Reaches (Below S b) 0 u v → Reaches S 0 u v
reach_within S b u v (p, w) = (p, path_weaker (Below S b) S (λ g c. c.0) 0 0 u v p (omega arith) w)
