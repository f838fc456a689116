use Rattle.std.proofs.Common.{rules, arith, nat_le}
use Rattle.std.proofs.lemmas.Bool.Decides.{nat_tests}
use Rattle.std.proofs.lemmas.Fn.{filter_same}
use Rattle.order_kin.specs.declared.brood.Fork.{Fork}
use Rattle.order_kin.specs.declared.brood.Kid.{Kid}
use Rattle.order_kin.proofs.BroodLemmas.{settled_is}
use Rattle.order_kin.proofs.brood.Brood.settle.Goals as goal

pub returns-then-forks_before-kids_before : goal.returns-then-forks_before-kids_before
returns-then-forks_before-kids_before c =
    let forks = filter_same _ (λ (fork : Fork). nat_le c.args.time fork.ms) _ (λ x b f call. search rules) _ _ c.retain.ensures.filtered in
    let kids = filter_same _ (λ (kid : Kid). nat_le c.args.time kid.ms) _ (λ x b f call. search rules) _ _ c.retain-then-forks_before-kids_before.ensures.filtered in
    settled_is c.args.time c.args.self.now _ _ _ _ _ c.self.view_is c.forks_before.ensures c.kids_before.ensures
    (grind (arith, nat_tests, c.if-forks_before-kids_before.true)) forks kids
