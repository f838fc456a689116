use Rattle.order_kin.proofs.FamilyLemmas.{kept}
use Rattle.order_kin.proofs.family.Family.keep.Goals as goal

pub returns : goal.returns
returns c = kept c.args.self.now _ c.insert.new.self.entries c.args.pid c.args.brood c.self.view_is c.in_ok-insert.ensures.updates.0
