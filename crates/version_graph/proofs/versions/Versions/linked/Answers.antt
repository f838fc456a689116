use Rattle.std.proofs.Common.{false, refl, sym, subst, ◌∙◌}
use Rattle.std.proofs.lemmas.Bool.{both_ways, eqb-true, eq-eqb}
use Rattle.version_graph.specs.Tables.{IsLeftOf}
use Rattle.version_graph.proofs.versions.Versions.linked.Goals as goal

pub returns-in-None : goal.returns-in-None
returns-in-None c = λ K s.
    let l = subst (IsLeftOf K c.args.from.0 c.args.to.0) (sym c.in-None.ensures.value) (s.links c.args.from.0 c.args.to.0) in
    (λ t. absurd (both_ways false refl t), λ k. absurd (l k))

pub returns-in-Some : goal.returns-in-Some
returns-in-Some c = λ K s.
    let l = subst (IsLeftOf K c.args.from.0 c.args.to.0) (sym c.in-Some.ensures.value) (s.links c.args.from.0 c.args.to.0) in
    let is = c.current.ensures K s in (
      λ t. l.linked.0 (eqb-true c.in-Some.left.now c.current.result t ∙ is),
      λ k. eq-eqb c.in-Some.left.now c.current.result (l.linked.1 k ∙ sym is),
    )
