-- How a path is taken apart and put together.
use Rattle.std.proofs.Common.{◌≡◌, ℕ, suc, ◌<◌, ◌≤◌, List, [], ◌∷◌, ◌++◌, refl, sym, arith}
use Rattle.flow_base.specs.declared.types.Flow.{Flow}
use Rattle.reach_model.specs.Flows.{source, target, place}
use Rattle.reach_model.specs.Paths.{Path}

-- allowed, and before place b
abbrev pub Below : (Flow → Type 0) → ℕ → Flow → Type 0
Below S b f = S f × (place f < b)

pub path_weaker : (S T : Flow → Type 0) → ((f : Flow) → S f → T f) → (m n u v : ℕ) (p : List Flow) → n ≤ m → Path S m u v p → Path T n u v p
path_weaker S T s m n u v [] h w = w
path_weaker S T s m n u v (f ∷ p) h w =
    (s f w.0, omega (arith, w.1), w.2, path_weaker S T s (suc (place f)) (suc (place f)) (target f) v p (omega arith) w.3)

-- the last flow
pub path_last : (S : Flow → Type 0) (n u v : ℕ) (p : List Flow) (f : Flow) → Path S n u v (p ++ f ∷ []) → Path (Below S (place f)) n u (source f) p × S f × (n ≤ place f) × (target f ≡ v)
path_last S n u v [] f w = (sym w.2, w.0, w.1, w.3)
path_last S n u v (g ∷ p) f w =
    let r = path_last S (suc (place g)) (target g) v p f w.3 in
    let above : suc (place g) ≤ place f = r.2 in
    ((((w.0, above), w.1, w.2, r.0)), r.1, omega (arith, w.1), r.3)

pub path_push : (S : Flow → Type 0) (n u : ℕ) (p : List Flow) (f : Flow) → Path (Below S (place f)) n u (source f) p → S f → n ≤ place f → Path S n u (target f) (p ++ f ∷ [])
path_push S n u [] f w s h = (s, h, sym w, refl)
path_push S n u (g ∷ p) f w s h = (w.0.0, w.1, w.2, path_push S (suc (place g)) (target g) p f w.3 s w.0.1)

-- the whole path is before b where each flow that enters its end is
pub path_tighten : (S : Flow → Type 0) (a b n u v : ℕ) (p : List Flow) → ((g : Flow) → S g → target g ≡ v → place g < a → place g < b) → Path (Below S a) n u v p → Path (Below S b) n u v p
path_tighten S a b n u v [] h w = w
path_tighten S a b n u v (f ∷ []) h w = ((w.0.0, h f w.0.0 w.3 w.0.1), w.1, w.2, w.3)
path_tighten S a b n u v (f ∷ g ∷ p) h w =
    let r = path_tighten S a b (suc (place f)) (target f) v (g ∷ p) h w.3 in
    let low : place g < b = r.0.1 in
    let next : suc (place f) ≤ place g = r.1 in
    ((w.0.0, omega arith), w.1, w.2, r)

-- the whole path is from m on where each flow that leaves its start is
pub path_later : (S : Flow → Type 0) (m n u v : ℕ) (p : List Flow) → ((g : Flow) → S g → source g ≡ u → n ≤ place g → m ≤ place g) → Path S n u v p → Path S m u v p
path_later S m n u v [] h w = w
path_later S m n u v (f ∷ p) h w = (w.0, h f w.0 w.2 w.1, w.2, w.3)
