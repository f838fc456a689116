use Rattle.order_kin.proofs.NodeLemmas.{node_taken}
use Rattle.order_kin.proofs.families.Families.take.Goals as goal

pub returns-clause-others : goal.returns-clause-others
returns-clause-others c = node_taken c.args.self.now _ c.take.new.self c.args.name.now c.self.view_is c.take.ensures.others
