-- Where each flow has a kept one that stands in for it, each path has a kept one.
use Rattle.std.proofs.Common.{◌≡◌, ℕ, suc, ◌<◌, ◌≤◌, List, [], ◌∷◌, ◌++◌, map, refl, sym, ap, subst, ◌∙◌, arith, append_assoc, append-nil}
use Rattle.std.proofs.lemmas.List.{map-append}
use Rattle.flow_base.specs.declared.types.Flow.{Flow}
use Rattle.reach_model.specs.Flows.{source, target, place}
use Rattle.reach_model.specs.Paths.{Path}
use Rattle.reach_model.specs.Rows.{SamePair}
use Rattle.reach_model.proofs.PathLemmas.{Below, path_weaker, path_last, path_push, path_tighten, path_later}

-- a proof by the last item
pub by_last {ℓ} : {A : Type 0} (P : List A → Type ℓ) → P [] → ((xs : List A) (x : A) → P xs → P (xs ++ x ∷ [])) → (xs : List A) → P xs
by_last {A = A} P none more xs = go xs [] none
  where
    go : (todo done : List A) → P done → P (done ++ todo)
    go [] done h = rw append-nil h
    go (x ∷ todo) done h = subst P (append_assoc done (x ∷ []) todo) (go todo (done ++ x ∷ []) (more done x h))

-- a flow of G that stands in for e where a path enters e from before
pub record EarlierTwin (G : Flow → Type 0) (e : Flow) : Type 0 where
  pub by : Flow
  pub kept : G by
  pub pair : SamePair by e
  pub earlier : place by ≤ place e
  pub after_inflows : (h : Flow) → G h → target h ≡ source e → place h < place e → place h < place by

-- a flow of G that stands in for e where a path goes on after e
pub record LaterTwin (G : Flow → Type 0) (e : Flow) : Type 0 where
  pub by : Flow
  pub kept : G by
  pub pair : SamePair by e
  pub later : place e ≤ place by
  pub before_outflows : (h : Flow) → G h → source h ≡ target e → place e < place h → place by < place h

-- a path of G through the same objects, before b
abbrev pub Shadow : (Flow → Type 0) → ℕ → ℕ → ℕ → List Flow → Type 0
Shadow G b u v p = (q : List Flow) × Path (Below G b) 0 u v q × (map target q ≡ map target p)

module _ (S G : Flow → Type 0) (twin : (e : Flow) → S e → EarlierTwin G e) where
  pub shadow_back : (p : List Flow) (b u v : ℕ) → Path (Below S b) 0 u v p → Shadow G b u v p
  shadow_back = by_last (λ p. (b u v : ℕ) → Path (Below S b) 0 u v p → Shadow G b u v p) (λ b u v e. ([], e, refl)) step
    where
      step : (p : List Flow) (e : Flow) → ((b u v : ℕ) → Path (Below S b) 0 u v p → Shadow G b u v p) → (b u v : ℕ) → Path (Below S b) 0 u v (p ++ e ∷ []) → Shadow G b u v (p ++ e ∷ [])
      step p e ih b u v w =
          let r = path_last (Below S b) 0 u v p e w in
          let front = path_weaker (Below (Below S b) (place e)) (Below S (place e)) (λ f s. (s.0.0, s.1)) 0 0 u (source e) p (omega arith) r.0 in
          let i = ih (place e) u (source e) front in
          let c = twin e r.1.0 in
          let low : place e < b = r.1.1 in
          let early : place c.by ≤ place e = c.earlier in
          let tight = path_tighten G (place e) (place c.by) 0 u (source e) i.0 c.after_inflows i.1 in
          let wide = path_weaker (Below G (place c.by)) (Below (Below G b) (place c.by)) (λ f s. let t : place f < place c.by = s.1 in ((s.0, omega arith), s.1)) 0 0 u (source e) i.0 (omega arith) tight in
          let at_twin = subst (λ x. Path (Below (Below G b) (place c.by)) 0 u x i.0) (sym c.pair.0) wide in
          let whole = path_push (Below G b) 0 u i.0 c.by at_twin (c.kept, omega arith) (omega arith) in (
            i.0 ++ c.by ∷ [],
            subst (λ x. Path (Below G b) 0 u x (i.0 ++ c.by ∷ [])) (c.pair.1 ∙ r.3) whole,
            simp map-append (ap (λ xs. xs ++ target c.by ∷ []) i.2 ∙ ap (λ x. map target p ++ x ∷ []) c.pair.1),
          )

module _ (S G : Flow → Type 0) (twin : (e : Flow) → S e → LaterTwin G e) where
  pub shadow_fore : (p : List Flow) (n u v : ℕ) → Path S n u v p → (q : List Flow) × Path G n u v q × (map target q ≡ map target p)
  shadow_fore [] n u v e = ([], e, refl)
  shadow_fore (e ∷ p) n u v w =
      let i = shadow_fore p (suc (place e)) (target e) v w.3 in
      let c = twin e w.0 in
      let late : place e ≤ place c.by = c.later in
      let above : n ≤ place e = w.1 in
      let rest = path_later G (suc (place c.by)) (suc (place e)) (target e) v i.0 c.before_outflows i.1 in (
        c.by ∷ i.0,
        (c.kept, omega arith, c.pair.0 ∙ w.2, subst (λ x. Path G (suc (place c.by)) x v i.0) (sym c.pair.1) rest),
        ap (λ x. x ∷ map target i.0) c.pair.1 ∙ ap (λ xs. target e ∷ xs) i.2,
      )
