use Rattle.std.proofs.Common.{◌∙◌, ◌&&◌, not, ap, rules}
use Rattle.std.specs.Ordering.{nat_cmp}
use Rattle.std.proofs.lemmas.Map.Keys.{IsDistinct-from_sorted}
use Rattle.order_calls.specs.Deeds.{is_same, gift_of, given}
use Rattle.order_calls.specs.Known.{Fds, thing_of}
use Rattle.order_calls.proofs.HeldLemmas.{changed, given_by}
use Rattle.order_calls.proofs.held.Held.pass_on.Goals as goal

pub returns : goal.returns
returns c = λ n. changed _ (gift_of c.args.ms c.args.pid c.args.parent) _ (λ k v b w h call. search rules) _ c.retain.new.self.entries n
    (IsDistinct-from_sorted nat_cmp _ c.retain.ensures.was_ordered) c.retain.ensures.filtered
    ∙ given_by c.args.ms c.args.pid c.args.parent (c.self.inside.ran && not (is_same 0 n)) _
    ∙ ap (λ (f : Fds). given c.args.ms c.args.pid c.args.parent (thing_of f n)) c.self.view_is
