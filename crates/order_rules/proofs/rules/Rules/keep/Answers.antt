use Rattle.order_rules.proofs.RuleLemmas.{node_kept}
use Rattle.order_rules.proofs.rules.Rules.keep.Goals as goal

pub returns : goal.returns
returns c = node_kept c.args.self.now _ c.keep.new.self c.args.name c.args.table c.self.view_is c.in_ok-keep.ensures.here c.in_ok-keep.ensures.others
