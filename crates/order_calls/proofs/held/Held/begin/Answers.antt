use Rattle.std.proofs.Common.{◌∙◌, ap}
use Rattle.std.specs.Ordering.{nat_cmp}
use Rattle.std.specs.Map.{lookup}
use Rattle.std.proofs.lemmas.Map.Keys.{IsDistinct-from_sorted}
use Rattle.order_calls.specs.Deeds.{is_same}
use Rattle.order_calls.specs.Known.{Fds}
use Rattle.order_calls.proofs.HeldLemmas.{begun}
use Rattle.order_calls.proofs.held.Held.begin.Goals as goal

pub returns : goal.returns
returns c = λ n. begun c.args.ms c.args.self.now _ c.append.new.self.entries c.args.gift.said c.gift.inside.said.entries n
    (λ q. ap (λ (f : Fds). lookup (is_same q) f.said) c.gift.view_is ∙ c.leave.ensures q)
    (λ q. ap (λ (f : Fds). lookup (is_same q) f.said) c.self.view_is ∙ c.forget.ensures.said q)
    (ap (λ (f : Fds). f.ran) c.self.view_is ∙ c.forget.ensures.ran)
    (IsDistinct-from_sorted nat_cmp _ c.append.ensures.other_was_ordered)
    (c.in_ok-append.ensures.inserts_all.0 n)
