use Rattle.std.proofs.Common.{◌∙◌, ap, refl, Some, List, ℕ, ◌==◌, if◌then◌else◌, nat_eq}
use Rattle.std.specs.Map.{lookup}
use Rattle.flow_events.proofs.Filling.{address_filled}
use Rattle.flow_events.proofs.filled.Filled.fill_address.Goals as goal

pub returns-clause-takes : goal.returns-clause-takes
returns-clause-takes c = address_filled _ _ _ _ refl refl refl refl refl
    (λ p n. c.set_address.ensures.held p n ∙ c.reserve.ensures.held p n)
    (λ s. c.set_address.ensures.addresses s
    ∙ ap (λ (all : List (ℕ × List ℕ)). if s == c.args.act then Some c.in_ok-copy.field-0 else lookup (nat_eq s) all) c.reserve.ensures.addresses
    ∙ ap (λ (b : List ℕ). if s == c.args.act then Some b else lookup (nat_eq s) c.args.self.now.fds.addresses) c.in_ok-copy.ensures)
