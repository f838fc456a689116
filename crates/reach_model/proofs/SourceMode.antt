-- In source mode a source reaches over the kept flows what it reaches over all.
use Rattle.std.proofs.Common.{◌≡◌, ℕ, ◌<◌, List, [], ◌∷◌, ◌++◌, Option, subst, arith, ◌⊎◌, inl, inr}
use Rattle.std.specs.List.{Contains}
use Rattle.std.proofs.lemmas.List.{map-append}
use Rattle.std.proofs.lemmas.List.Elements.{Contains-append_left, Contains-push}
use Rattle.flow_base.specs.declared.types.Flow.{Flow}
use Rattle.reach_model.specs.declared.modes.Mode.TheVariants.{Source}
use Rattle.reach_model.specs.declared.modes.Verdict.TheVariants.{Drop, Add, Extend}
use Rattle.reach_model.specs.Flows.{source, target, place, IsLawful}
use Rattle.reach_model.specs.Paths.{Path, Reaches, IsUntil, IsSince, Back, Fore}
use Rattle.reach_model.specs.Sources.{IsSource}
use Rattle.reach_model.specs.Rows.{Row, row_of, firsts, lasts, Keeps, none, more}
use Rattle.reach_model.proofs.Lawful.{lawful_front, before_last}
use Rattle.reach_model.proofs.RowFacts.{rows_of}
use Rattle.reach_model.proofs.Twins.{first_there}
use Rattle.reach_model.proofs.PathLemmas.{Below, path_weaker, path_push}
use Rattle.reach_model.proofs.LastFlow.{split_new}
use Rattle.reach_model.proofs.Within.{Among, ClosedDown}
use Rattle.reach_model.proofs.FirstFlows.{source_was}
use Rattle.reach_model.proofs.KeepsFirst.{path_start}
use Rattle.reach_model.proofs.Faithful.{until_closed}
use Rattle.reach_model.proofs.SingleRows.{IsFromFirst, rows_fore}

closed_front : (F : List Flow) (f : Flow) (T : Flow → Type 0) → ClosedDown (F ++ f ∷ []) T → ClosedDown F T
closed_front F f T c g e cg ce = c g e (Contains-append_left F (f ∷ []) g cg) (Contains-append_left F (f ∷ []) e ce)

-- where a path by the flows of F leads from a source, it was one already or the path is empty
pub was_source : (F : List Flow) (f : Flow) (x v : ℕ) → IsSource (F ++ f ∷ []) x → (p : List Flow) → Path (Contains F) 0 x v p → (x ≡ v) ⊎ IsSource F x
was_source F f x v s p w = elim (path_start F 0 x v p w) [ inl e ↦ inl e | inr k ↦ inr (source_was F f x k s) ]

abbrev KeptFrom : List Row → (Flow → Type 0) → ℕ → ℕ → Type 0
KeptFrom R T x v = Reaches (Among (firsts R) T) 0 x v

grow : (R : List Row) (f : Flow) (T : Flow → Type 0) (x v : ℕ) → KeptFrom R T x v → KeptFrom (R ++ row_of f ∷ []) T x v
grow R f T x v (q, w) = (q, path_weaker (Among (firsts R) T) (Among (firsts (R ++ row_of f ∷ [])) T) (λ g s. (rw map-append (Contains-append_left (firsts R) (f ∷ []) g s.0), s.1)) 0 0 x v q (omega arith) w)

-- the kept flow f after a kept path
add : {F : List Flow} {R : List Row} (f : Flow) → IsLawful (F ++ f ∷ []) → Keeps Source F R → (T : Flow → Type 0) (x v : ℕ) → T f → target f ≡ v → KeptFrom R T x (source f) → KeptFrom (R ++ row_of f ∷ []) T x v
add {F} {R} f l k T x v t e (q, w) =
    let R' = R ++ row_of f ∷ [] in
    let K' = Among (firsts R') T in (
      q ++ f ∷ [],
      subst (λ y. Path K' 0 x y (q ++ f ∷ [])) e
          (path_push K' 0 x q f (path_weaker (Among (firsts R) T) (Below K' (place f))
          (λ g s. ((rw map-append (Contains-append_left (firsts R) (f ∷ []) g s.0), s.1), before_last F f g l (first_there R g (rows_of (lawful_front F f l) k) s.0))) 0 0 x (source f) q (omega arith) w)
          (rw map-append (Contains-push (firsts R) f), t) (omega arith)),
    )

plain : (F : List Flow) (T : Flow → Type 0) (x y : ℕ) (q : List Flow) → Path (Among F T) 0 x y q → Path (Contains F) 0 x y q
plain F T x y q w = path_weaker (Among F T) (Contains F) (λ g c. c.0) 0 0 x y q (omega arith) w

-- a path by the flows of F is kept: it is empty, or its start was a source already
front_kept : (F : List Flow) (f : Flow) (R : List Row) (T : Flow → Type 0) (x y : ℕ) → IsSource (F ++ f ∷ []) x
    → ((q : List Flow) → IsSource F x → Path (Among F T) 0 x y q → KeptFrom R T x y) → (q : List Flow) → Path (Among F T) 0 x y q → KeptFrom R T x y
front_kept F f R T x y s ih q w = elim (was_source F f x y s q (plain F T x y q w)) [
  | inl e ↦ ([], e)
  | inr was ↦ ih q was w
]

pub source_path : {F : List Flow} {R : List Row} → IsLawful F → Keeps Source F R → (T : Flow → Type 0) → ClosedDown F T → (x v : ℕ) → IsSource F x → (p : List Flow) → Path (Among F T) 0 x v p → KeptFrom R T x v
source_path l none T closed x v s p w = absurd (no_first s)
  where
    no_first : IsSource [] x → ⊥
    no_first (f, e, t) = cc
source_path l (more {F} {R} f Drop k given) T closed x v s p w =
    let ih = λ (q : List Flow) (was : IsSource F x) (r : Path (Among F T) 0 x v q). source_path (lawful_front F f l) k T (closed_front F f T closed) x v was q r in
    elim (split_new F f (λ g c. before_last F f g l c) T 0 x v p w) [
      | inl front ↦ front_kept F f R T x v s ih p front
      | inr e ↦ let r = given x (s, (e.0, plain F T x (source f) e.0 e.1)) in
          let all = path_weaker (Contains F) (Among F T) (λ g c. (c, closed g f (Contains-append_left F (f ∷ []) g c) (Contains-push F f) (let low : place g < place f = before_last F f g l c in omega arith) e.2)) 0 0 x (target f) r.1.0 (omega arith) r.1.1 in
          front_kept F f R T x v s ih r.1.0 (subst (λ y. Path (Among F T) 0 x y r.1.0) e.3 all)
    ]
source_path l (more {F} {R} f Add k given) T closed x v s p w =
    let ih = λ (y : ℕ) (q : List Flow) (was : IsSource F x) (r : Path (Among F T) 0 x y q). source_path (lawful_front F f l) k T (closed_front F f T closed) x y was q r in
    elim (split_new F f (λ g c. before_last F f g l c) T 0 x v p w) [
      | inl front ↦ grow R f T x v (front_kept F f R T x v s (ih v) p front)
      | inr e ↦ add f l k T x v e.2 e.3 (front_kept F f R T x (source f) s (ih (source f)) e.0 e.1)
    ]
source_path l (more f (Extend i) k given) T closed x v s p w = absurd given

module _ {F : List Flow} {R : List Row} (l : IsLawful F) (k : Keeps Source F R) where
  pub source_back : (v : ℕ) (t : Option ℕ) (x : ℕ) → IsSource F x → Back F v t x → Back (firsts R) v t x
  source_back v t x s (p, w) = source_path l k (IsUntil t) (until_closed l t) x v s p w

  pub source_fore : (x : ℕ) (s : Option ℕ) (v : ℕ) → IsSource F x → IsFromFirst F x s → Fore F x s v → Fore (lasts R) x s v
  source_fore x s v is from (p, w) =
      let whole : Flow → Type 0 = λ f. Unit {0} in
      let r = source_path l k whole (λ g e cg ce low h. tt) x v is p (path_weaker (λ f. Contains F f × IsSince s f) (Among F whole) (λ f c. (c.0, tt)) 0 0 x v p (omega arith) w) in
      rows_fore l tt k x s v r.0 from (path_weaker (Among (firsts R) whole) (Contains (firsts R)) (λ f c. c.0) 0 0 x v r.0 (omega arith) r.1)
