use Rattle.std.proofs.Common.{rules, ℕ}
use Rattle.std.specs.Prelude.{not}
use Rattle.std.proofs.lemmas.Map.Made.{filter_same_pairs}
use Rattle.order_rules.specs.declared.held.Thing.{Thing}
use Rattle.order_rules.specs.Deeds.{in_range}
use Rattle.order_rules.proofs.FdLemmas.{fds_closed}
use Rattle.order_rules.proofs.fds.Fds.close_range.Goals as goal

pub returns : goal.returns
returns c = λ n. fds_closed c.args.self.now _ c.retain.new.self.entries c.retain-2.new.self.entries c.args.first c.args.last n c.self.view_is
    (filter_same_pairs _ (λ (e : ℕ × Thing). not (in_range c.args.first c.args.last e.0)) _ (λ k v b w h call. search rules) _ _ c.retain.ensures.filtered)
    (filter_same_pairs _ (λ (e : ℕ × Thing). not (in_range c.args.first c.args.last e.0)) _ (λ k v b w h call. search rules) _ _ c.retain-2.ensures.filtered)
