-- Twins for each flow give paths of kept flows that stay within a condition, as a time.
use Rattle.std.proofs.Common.{◌≡◌, ℕ, ◌≤◌, List, length, map, arith}
use Rattle.std.specs.List.{Contains}
use Rattle.flow_base.specs.declared.types.Flow.{Flow}
use Rattle.reach_model.specs.Flows.{target, place, IsLawful}
use Rattle.reach_model.specs.Paths.{Path}
use Rattle.reach_model.specs.Rows.{SamePair}
use Rattle.reach_model.proofs.Lawful.{below_length}
use Rattle.reach_model.proofs.PathLemmas.{Below, path_weaker}
use Rattle.reach_model.proofs.Shadow.{EarlierTwin, LaterTwin, shadow_back, shadow_fore}

-- flows of F that meet T
abbrev pub Among : List Flow → (Flow → Type 0) → Flow → Type 0
Among F T f = Contains F f × T f

-- what holds of a flow holds of each earlier flow of F
abbrev pub ClosedDown : List Flow → (Flow → Type 0) → Type 0
ClosedDown F T = (g e : Flow) → Contains F g → Contains F e → place g ≤ place e → T e → T g

-- what holds of a flow holds of each flow of F of its pair, if it is no later; or no earlier
abbrev pub EarlierInPair : List Flow → (Flow → Type 0) → Type 0
EarlierInPair F T = (g e : Flow) → Contains F g → Contains F e → SamePair g e → place g ≤ place e → T e → T g

abbrev pub LaterInPair : List Flow → (Flow → Type 0) → Type 0
LaterInPair F T = (g e : Flow) → Contains F g → Contains F e → SamePair g e → place e ≤ place g → T e → T g

module _ (F K : List Flow) (l : IsLawful F) (kept : (g : Flow) → Contains K g → Contains F g) (T : Flow → Type 0) where
  pub before_end : (u v : ℕ) (p : List Flow) → Path (Among F T) 0 u v p → Path (Below (Among F T) (length F)) 0 u v p
  before_end u v p w = path_weaker (Among F T) (Below (Among F T) (length F)) (λ f s. (s, below_length l f s.0)) 0 0 u v p (omega arith) w

  pub kept_path : (u v : ℕ) (p : List Flow) → Path (Among K T) 0 u v p → Path (Among F T) 0 u v p
  kept_path u v p w = path_weaker (Among K T) (Among F T) (λ g s. (kept g s.0, s.1)) 0 0 u v p (omega arith) w

  pub back_within : ((e : Flow) → Contains F e → EarlierTwin (Contains K) e) → EarlierInPair F T → (u v : ℕ) (p : List Flow) → Path (Among F T) 0 u v p → (q : List Flow) × Path (Among K T) 0 u v q × (map target q ≡ map target p)
  back_within twin closed u v p w =
      let twins : (e : Flow) → Among F T e → EarlierTwin (Among K T) e = λ e s. let t = twin e s.0 in record {
        by = t.by;
        kept = (t.kept, closed t.by e (kept t.by t.kept) s.0 t.pair t.earlier s.1);
        pair = t.pair;
        earlier = t.earlier;
        after_inflows = λ h k. t.after_inflows h k.0;
      } in
      let r = shadow_back (Among F T) (Among K T) twins p (length F) u v (before_end u v p w) in
      (r.0, path_weaker (Below (Among K T) (length F)) (Among K T) (λ f s. s.0) 0 0 u v r.0 (omega arith) r.1, r.2)

  pub fore_within : ((e : Flow) → Contains F e → LaterTwin (Contains K) e) → LaterInPair F T → (u v : ℕ) (p : List Flow) → Path (Among F T) 0 u v p → (q : List Flow) × Path (Among K T) 0 u v q × (map target q ≡ map target p)
  fore_within twin closed u v p w =
      let twins : (e : Flow) → Among F T e → LaterTwin (Among K T) e = λ e s. let t = twin e s.0 in record {
        by = t.by;
        kept = (t.kept, closed t.by e (kept t.by t.kept) s.0 t.pair t.later s.1);
        pair = t.pair;
        later = t.later;
        before_outflows = λ h k. t.before_outflows h k.0;
      } in
      shadow_fore (Among F T) (Among K T) twins p 0 u v w
