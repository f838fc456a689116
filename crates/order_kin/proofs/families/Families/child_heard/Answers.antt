use Rattle.std.proofs.Common.{rules, ◌≡◌, ◌∙◌, List, ℕ, subst, Some}
use Rattle.order_kin.specs.Families.{child_by, family_in}
use Rattle.order_kin.proofs.NodeLemmas.{child_there}
use Rattle.order_kin.proofs.families.Families.child_heard.Goals as goal

pub returns-in-Some : goal.returns-in-Some
returns-in-Some c = λ lines stands.
    subst (λ (n : List ℕ). c.child.result ≡ child_by (family_in c.args.self.now.compat n lines).broods (Some c.args.heard)) (c.in_ok-name.ensures ∙ c.node_of.ensures)
    (child_there c.args.self.now c.in_ok-name.name c.in-Some.family.now c.args.heard c.child.result lines (search rules) c.child.ensures stands)
