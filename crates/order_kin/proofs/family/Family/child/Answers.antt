use Rattle.std.proofs.Common.{rules}
use Rattle.order_kin.proofs.FamilyLemmas.{told_so}
use Rattle.order_kin.proofs.family.Family.child.Goals as goal

pub returns-in-Some : goal.returns-in-Some
returns-in-Some c = λ known broods is. told_so c.args.self.now c.args.heard c.in-Forks.answer c.in-Some.brood.now c.told.result known broods c.in-Forks.is
    (search rules) c.told.ensures is
