-- In the modes whose rows are single flows, what the kept flows reach is reached from a start that misses no flow.
use Rattle.std.proofs.Common.{◌≡◌, ℕ, suc, ◌≤◌, List, [], ◌∷◌, ◌++◌, Option, refl, sym, ap, subst, arith}
use Rattle.std.specs.List.{Contains}
use Rattle.std.proofs.lemmas.List.{map-append}
use Rattle.flow_base.specs.declared.types.Flow.{Flow}
use Rattle.reach_model.specs.declared.modes.Mode.{Mode}
use Rattle.reach_model.specs.declared.modes.Mode.TheVariants.{Plain, Continuous, Full, Source}
use Rattle.reach_model.specs.declared.modes.Verdict.TheVariants.{Drop, Add, Extend}
use Rattle.reach_model.specs.Flows.{source, target, place, IsLawful}
use Rattle.reach_model.specs.Paths.{Path, IsSince, Fore}
use Rattle.reach_model.specs.Rows.{Row, firsts, lasts, IsVerdict, Keeps, none, more}
use Rattle.reach_model.proofs.Faithful.{since_closed, kept_first}

-- no flow of F that leaves u is before s, so a start at s leaves nothing out
abbrev pub IsFromFirst : List Flow → ℕ → Option ℕ → Type 0
IsFromFirst F u s = (f : Flow) → Contains F f → source f ≡ u → IsSince s f

-- the modes whose rows are single flows
abbrev pub IsSingle : Mode → Type 0
IsSingle Plain = Unit {0}
IsSingle Continuous = ⊥
IsSingle Full = Unit {0}
IsSingle Source = Unit {0}

pub never_extends : (mode : Mode) (F : List Flow) (R : List Row) (f : Flow) (i : ℕ) → IsSingle mode → IsVerdict mode F R f (Extend i) → ⊥
never_extends Plain F R f i s v = v
never_extends Continuous F R f i s v = s
never_extends Full F R f i s v = v
never_extends Source F R f i s v = v

pub singles : {mode : Mode} {F : List Flow} {R : List Row} → IsSingle mode → Keeps mode F R → lasts R ≡ firsts R
singles s none = refl
singles s (more f Drop k v) = singles s k
singles s (more {F} {R} f Add k v) = simp map-append (ap (λ xs. xs ++ f ∷ []) (singles s k))
singles {mode} s (more {F} {R} f (Extend i) k v) = absurd (never_extends mode F R f i s v)

-- a path from the first flow of its start on misses no start
module _ {F : List Flow} (l : IsLawful F) (S : Flow → Type 0) (sub : (f : Flow) → S f → Contains F f) (s : Option ℕ) where
  since_after : (e : Flow) → Contains F e → IsSince s e → (u v : ℕ) (p : List Flow) → Path S (suc (place e)) u v p → Path (λ f. S f × IsSince s f) (suc (place e)) u v p
  since_after e c h u v [] w = w
  since_after e c h u v (f ∷ p) w =
      let after : suc (place e) ≤ place f = w.1 in
      let here = since_closed l s f e (sub f w.0) c (omega arith) h in
      ((w.0, here), w.1, w.2, since_after f (sub f w.0) here (target f) v p w.3)

  pub since_first : (n u v : ℕ) (p : List Flow) → IsFromFirst F u s → Path S n u v p → Path (λ f. S f × IsSince s f) n u v p
  since_first n u v [] h w = w
  since_first n u v (f ∷ p) h w = let here = h f (sub f w.0) w.2 in ((w.0, here), w.1, w.2, since_after f (sub f w.0) here (target f) v p w.3)

pub rows_fore : {mode : Mode} {F : List Flow} {R : List Row} → IsLawful F → IsSingle mode → Keeps mode F R → (u : ℕ) (s : Option ℕ) (v : ℕ) (q : List Flow) → IsFromFirst F u s → Path (Contains (firsts R)) 0 u v q → Fore (lasts R) u s v
rows_fore {R = R} l one k u s v q from w =
    subst (λ K. Fore K u s v) (sym (singles one k)) (q, since_first l (Contains (firsts R)) (kept_first l k) s 0 u v q from w)
