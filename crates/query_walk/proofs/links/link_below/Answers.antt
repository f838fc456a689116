use Rattle.std.proofs.Common.{refl, sym, ap, ◌∙◌}
use Rattle.std.proofs.lemmas.Bool.{le-ltb}
use Rattle.query_walk.specs.Links.{link_below}
use Rattle.query_walk.proofs.LinkLemmas.{link_low}
use Rattle.query_walk.proofs.links.link_below.Goals as goal

pub returns-in-Some : goal.returns-in-Some
returns-in-Some c = sym (ap (λ o. link_below o c.args.bound) c.in-Some.is ∙ link_low c.in-Some.index c.args.bound c.if-index-bound.true)

pub returns-in_default : goal.returns-in_default
returns-in_default c = sym (ap (λ o. link_below o c.args.bound) c.in-Some.is ∙ rw (le-ltb c.in-Some.index c.args.bound c.if-index-bound.false) refl)

pub returns-in_default-2 : goal.returns-in_default-2
returns-in_default-2 c = sym (ap (λ o. link_below o c.args.bound) c.in_default.is)
