use Rattle.std.proofs.Common.{rules}
use Rattle.order_calls.proofs.HeldLemmas.{all_kept, closed_thing, range_closed}
use Rattle.order_calls.proofs.held.Held.close_range.Goals as goal

pub returns : goal.returns
returns c = λ n. range_closed _ c.args.self.now c.retain.new.self.entries c.args.first c.args.last n c.self.view_is
    (all_kept _ (closed_thing c.args.first c.args.last) _ (λ k v b w h call. search rules) _ _ n c.retain.ensures.filtered)
