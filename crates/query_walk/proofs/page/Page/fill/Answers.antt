use Rattle.std.proofs.Common.{◌≡◌, ℕ, ◌≤◌, List, length, get_or, replicate, sym, ap, subst, ◌∙◌, arith, inl, inr, vec_len}
use Rattle.std.proofs.lemmas.Bool.{cases_lt, eqb-true}
use Rattle.std.proofs.lemmas.List.{get_or-replicate, get_or_past, length-replicate}
use Rattle.query_walk.proofs.page.Page.fill.Goals as goal

-- a new page has 0 at each place, as one without memory
zeros : (n p z : ℕ) → get_or (replicate n z) p z ≡ z
zeros n p z = elim (cases_lt p n) [
  | inl inside ↦ get_or-replicate n p z z inside
  | inr past ↦ get_or_past (replicate n z) p z (simp length-replicate past)
]

pub returns-in_ok-self-inside-clause-same : goal.returns-in_ok-self-inside-clause-same
returns-in_ok-self-inside-clause-same c = λ p.
    let objects = c.self.inside.objects in
    let empty : vec_len objects ≡ 0 = eqb-true (vec_len objects) 0 (sym c.is_empty.ensures ∙ c.if-is_empty.true) in
    let was : get_or c.args.self.now p 0 ≡ 0 = get_or_past c.args.self.now p 0 (subst (λ (L : List ℕ). length L ≤ p) c.self.view_is (omega (arith, empty, objects.ok.0))) in
    ap (λ (L : List ℕ). get_or L p 0) (c.in_ok-self-inside.ensures.items_if_clones_equal (λ y e. e)) ∙ zeros 1024 p 0 ∙ sym was
