use Rattle.order_rules.proofs.TableLemmas.{has_ended}
use Rattle.order_rules.proofs.table.Table.end.Goals as goal

pub returns : goal.returns
returns c = has_ended c.args.self.now _ c.remove.new.self.entries c.args.pid c.self.view_is c.remove.ensures.updates.0
