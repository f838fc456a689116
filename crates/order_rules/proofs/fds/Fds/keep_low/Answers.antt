use Rattle.std.proofs.Common.{rules, ℕ}
use Rattle.std.specs.Prelude.{nat_lt}
use Rattle.std.proofs.lemmas.Map.Made.{filter_same_pairs}
use Rattle.order_rules.specs.declared.held.Thing.{Thing}
use Rattle.order_rules.proofs.FdLemmas.{fds_inherited}
use Rattle.order_rules.proofs.fds.Fds.keep_low.Goals as goal

pub returns : goal.returns
returns c = λ n. fds_inherited c.args.self.now _ c.retain.new.self.entries c.retain-2.new.self.entries n c.self.view_is
    (filter_same_pairs _ (λ (e : ℕ × Thing). nat_lt e.0 256) _ (λ k v b w h call. search rules) _ _ c.retain.ensures.filtered)
    (filter_same_pairs _ (λ (e : ℕ × Thing). nat_lt e.0 256) _ (λ k v b w h call. search rules) _ _ c.retain-2.ensures.filtered)
