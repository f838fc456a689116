use Rattle.std.proofs.Common.{◌∙◌, ap, rules, ℕ}
use Rattle.std.specs.Prelude.{is_none}
use Rattle.std.specs.Map.{lookup}
use Rattle.std.proofs.lemmas.Map.Made.{filter_same_pairs}
use Rattle.order_calls.specs.declared.held.Thing.{Thing}
use Rattle.order_calls.specs.Deeds.{is_same}
use Rattle.order_calls.specs.Known.{Fds, thing_of, left_by}
use Rattle.order_calls.proofs.HeldLemmas.{left_in}
use Rattle.order_calls.proofs.held.Held.leave.Goals as goal

pub returns : goal.returns
returns c = λ n. left_in c.args.other.now c.self.inside.said.entries c.retain.new.self.entries n
    (filter_same_pairs _ (λ (e : ℕ × Thing). is_none (thing_of c.args.other.now e.0)) _ (λ k v b w h call. search rules) _ _ c.retain.ensures.filtered)
    ∙ ap (λ (f : Fds). left_by (thing_of c.args.other.now n) (lookup (is_same n) f.said)) c.self.view_is
