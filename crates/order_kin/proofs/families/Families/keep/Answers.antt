use Rattle.order_kin.proofs.NodeLemmas.{node_kept}
use Rattle.order_kin.proofs.families.Families.keep.Goals as goal

pub returns : goal.returns
returns c = node_kept c.args.self.now _ c.keep.new.self c.args.name c.args.family c.self.view_is c.in_ok-keep.ensures.here c.in_ok-keep.ensures.others
