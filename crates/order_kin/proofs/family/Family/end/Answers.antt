use Rattle.order_kin.proofs.FamilyLemmas.{ended_known, ended_brood}
use Rattle.order_kin.proofs.family.Family.end.Goals as goal

pub returns-clause-known : goal.returns-clause-known
returns-clause-known c = λ p. ended_known c.args.self.now _ c.remove.new.self.keys c.args.pid p c.self.view_is c.remove.ensures.updates.0

pub returns-clause-broods : goal.returns-clause-broods
returns-clause-broods c = λ p. ended_brood c.args.self.now _ c.remove-2.new.self.entries c.args.pid p c.self.view_is c.remove-2.ensures.updates.0
