use Rattle.order_kin.proofs.FamilyLemmas.{taken}
use Rattle.order_kin.proofs.family.Family.take.Goals as goal

pub returns-clause-others : goal.returns-clause-others
returns-clause-others c = taken c.args.self.now _ c.remove.new.self.entries c.args.pid c.self.view_is c.remove.ensures.updates.2
