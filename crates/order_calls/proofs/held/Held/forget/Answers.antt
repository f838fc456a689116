use Rattle.std.proofs.Common.{◌∙◌, ap, rules, Some}
use Rattle.std.specs.Prelude.{option_map}
use Rattle.std.specs.Ordering.{nat_cmp}
use Rattle.std.specs.Map.{lookup}
use Rattle.std.proofs.lemmas.Map.Keys.{IsDistinct-from_sorted}
use Rattle.order_calls.specs.Deeds.{is_same, since}
use Rattle.order_calls.specs.Known.{Fds}
use Rattle.order_calls.proofs.HeldLemmas.{changed, all_since}
use Rattle.order_calls.proofs.held.Held.forget.Goals as goal

pub returns-clause-said : goal.returns-clause-said
returns-clause-said c = λ n. changed _ (λ t. Some (since c.args.ms t)) _ (λ k v b w h call. search rules) _ c.retain.new.self.entries n
    (IsDistinct-from_sorted nat_cmp _ c.retain.ensures.was_ordered) c.retain.ensures.filtered
    ∙ all_since c.args.ms _
    ∙ ap (λ (f : Fds). option_map (since c.args.ms) (lookup (is_same n) f.said)) c.self.view_is
