use Rattle.std.proofs.Common.{◌∙◌, ap, None, if◌then◌else◌, subst, sym}
use Rattle.std.specs.Map.{lookup}
use Rattle.order_place.specs.Places.{is_event}
use Rattle.order_place.specs.Events.{IsLatest}
use Rattle.order_place.proofs.EventLemmas.{latest_left}
use Rattle.order_place.proofs.events.Events.forget.Goals as goal

pub invariant_of-self : goal.invariant_of-self
invariant_of-self c = subst (λ l. IsLatest l c.remove.new.self.entries) (sym c.latest_but-self-inside.ensures)
    (latest_left (c.args.ms, c.args.serial) c.self.inside.latest c.self.inside.all.entries c.remove.new.self.entries c.self.invariant c.remove.ensures.updates.0)

pub returns : goal.returns
returns c = λ other. c.remove.ensures.updates.0 other
    ∙ ap (λ es. if is_event (c.args.ms, c.args.serial) other then None else lookup (is_event other) es) c.self.view_is
