use Rattle.std.proofs.Common.{sym, subst}
use Rattle.order_queue.specs.Order.{AreInTurn, IsGreatest}
use Rattle.order_queue.proofs.RowLemmas.{in_turn_with}
use Rattle.order_queue.proofs.row.Row.push.Goals as goal

pub invariant_of-self-2 : goal.invariant_of-self-2
invariant_of-self-2 c =
    subst AreInTurn (sym c.in_ok-push_back.ensures.items)
    (in_turn_with c.args.entry c.self.inside.entries.items c.self.invariant (subst (IsGreatest c.args.entry) (sym c.self.view_is) c.requires))
