use Rattle.std.proofs.Common.{◌∙◌, ap, refl, Option, if◌then◌else◌}
use Rattle.acts.specs.declared.held.Held.{Held as AHeld}
use Rattle.acts.specs.Holding.{is_at}
use Rattle.flow_events.proofs.Filling.{held_filled}
use Rattle.flow_events.proofs.filled.Filled.fill_held.Goals as goal

pub returns-clause-takes : goal.returns-clause-takes
returns-clause-takes c = held_filled _ _ _ _ _ refl refl refl refl refl
    (λ p n. c.in_ok-hold.ensures.held p n ∙ ap (λ (h : Option AHeld). if is_at c.args.pid c.args.fd p n then c.args.held.now else h) (c.reserve.ensures.held p n))
    (c.hold.ensures.addresses ∙ c.reserve.ensures.addresses)
