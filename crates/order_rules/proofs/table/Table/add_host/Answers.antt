use Rattle.std.proofs.Common.{◌∙◌, sym}
use Rattle.order_rules.proofs.TableLemmas.{host_added}
use Rattle.order_rules.proofs.table.Table.add_host.Goals as goal

pub returns : goal.returns
returns c = host_added c.args.self.now _ c.insert.new.self.keys c.args.host.now c.in_ok-host.host c.self.view_is
    (sym c.is_any.ensures ∙ c.if-is_any.false) c.in_ok-host.ensures c.in_ok-insert.ensures.updates.0
