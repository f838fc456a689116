-- In full mode each path has a kept one through the same objects whose last place is no later.
use Rattle.std.proofs.Common.{◌≡◌, ℕ, suc, ◌≤◌, List, [], ◌∷◌, map, Option, arith}
use Rattle.std.specs.List.{Contains}
use Rattle.flow_base.specs.declared.types.Flow.{Flow}
use Rattle.reach_model.specs.declared.modes.Mode.TheVariants.{Full}
use Rattle.reach_model.specs.Flows.{target, place, IsLawful}
use Rattle.reach_model.specs.Paths.{Path, IsSince, Fore, last_place}
use Rattle.reach_model.specs.Rows.{Row, firsts, lasts, Keeps}
use Rattle.reach_model.proofs.PathLemmas.{path_weaker}
use Rattle.reach_model.proofs.Twins.{full_earlier}
use Rattle.reach_model.proofs.Within.{Among, back_within}
use Rattle.reach_model.proofs.Faithful.{kept_first}
use Rattle.reach_model.proofs.SingleRows.{IsFromFirst, rows_fore}

-- a path up to the place of its last flow
pub upto_last : (S : Flow → Type 0) (n u v : ℕ) (p : List Flow) → Path S n u v p → Path (λ f. S f × (place f ≤ last_place p)) n u v p
upto_last S n u v [] w = w
upto_last S n u v (f ∷ []) w = ((w.0, omega arith), w.1, w.2, w.3)
upto_last S n u v (f ∷ g ∷ p) w =
    let r = upto_last S (suc (place f)) (target f) v (g ∷ p) w.3 in
    let low : place g ≤ last_place (g ∷ p) = r.0.1 in
    let next : suc (place f) ≤ place g = r.1 in
    ((w.0, omega arith), w.1, w.2, r)

pub last_within : (S : Flow → Type 0) (b n u v : ℕ) (p : List Flow) → Path (λ f. S f × (place f ≤ b)) n u v p → last_place p ≤ b
last_within S b n u v [] w = omega arith
last_within S b n u v (f ∷ []) w = w.0.1
last_within S b n u v (f ∷ g ∷ p) w = last_within S b (suc (place f)) (target f) v (g ∷ p) w.3

module _ {F : List Flow} {R : List Row} (l : IsLawful F) (k : Keeps Full F R) where
  pub full_path : (u v : ℕ) (p : List Flow) → Path (Contains F) 0 u v p → (q : List Flow) × Path (Contains (firsts R)) 0 u v q × (map target q ≡ map target p) × (last_place q ≤ last_place p)
  full_path u v p w =
      let T : Flow → Type 0 = λ f. place f ≤ last_place p in
      let r = back_within F (firsts R) l (kept_first l k) T (full_earlier l k) (λ g e cg ce same low s. omega arith) u v p (upto_last (Contains F) 0 u v p w) in
      (r.0, path_weaker (Among (firsts R) T) (Contains (firsts R)) (λ f s. s.0) 0 0 u v r.0 (omega arith) r.1, r.2, last_within (Contains (firsts R)) (last_place p) 0 u v r.0 r.1)

  pub full_fore : (u : ℕ) (s : Option ℕ) (v : ℕ) → IsFromFirst F u s → Fore F u s v → Fore (lasts R) u s v
  full_fore u s v from (p, w) =
      let r = full_path u v p (path_weaker (λ f. Contains F f × IsSince s f) (Contains F) (λ f c. c.0) 0 0 u v p (omega arith) w) in
      rows_fore l tt k u s v r.0 from r.1
