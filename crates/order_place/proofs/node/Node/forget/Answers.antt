use Rattle.order_place.proofs.PlaceLemmas.{forgotten}
use Rattle.order_place.proofs.node.Node.forget.Goals as goal

pub returns : goal.returns
returns c = forgotten c.args.self.now _ c.forget.new.self (c.args.ms, c.args.serial) c.self.view_is c.forget.ensures
