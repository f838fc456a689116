use Rattle.std.proofs.Common.{◌≡◌, ◌∙◌, ap, refl, Bool, not, Option, Some, None, List, ℕ, ◌==◌, ◌&&◌, if◌then◌else◌, nat_eq}
use Rattle.std.specs.Map.{lookup}
use Rattle.proc_table.specs.declared.life.Life.{Life as ALife}
use Rattle.proc_table.specs.Table.{at}
use Rattle.fd_table.specs.Table.{held_at}
use Rattle.stored.specs.Words.{goes_on}
use Rattle.flow_events.proofs.Filling.{life_filled}
use Rattle.flow_events.proofs.filled.Filled.fill_life.Goals as goal

pub returns-clause-takes : goal.returns-clause-takes
returns-clause-takes c =
    let found = c.copied.ensures ∙ c.at.ensures.value ∙ ap (λ (all : List (ℕ × ALife)). lookup (nat_eq c.args.pid) all) c.reserve.ensures.same in
    let goes : c.goes_on-goes_on.result ≡ goes_on (at c.args.self.now.procs c.args.pid) c.args.life =
    c.goes_on-goes_on.ensures ∙ ap (λ (o : Option ALife). goes_on o c.args.life) found in
    life_filled _ _ _ _ refl refl refl refl
    (λ p. c.put.ensures.put p ∙ ap (λ (all : List (ℕ × ALife)). if p == c.args.pid then Some c.args.life else lookup (nat_eq p) all) c.reserve.ensures.same)
    (λ p n. c.clear_unless.ensures.held p n ∙ ap (λ (b : Bool). if not b && c.args.pid == p then None else held_at c.args.self.now.fds p n) goes)
    c.clear_unless.ensures.addresses
