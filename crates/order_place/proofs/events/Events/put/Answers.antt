use Rattle.std.proofs.Common.{◌∙◌, ap, Some, if◌then◌else◌}
use Rattle.std.specs.Map.{lookup}
use Rattle.order_place.specs.Places.{is_event}
use Rattle.order_place.proofs.events.Events.put.Goals as goal

pub returns : goal.returns
returns c = λ other. c.in_ok-insert.ensures.updates.0 other
    ∙ ap (λ es. if is_event (c.args.ms, c.args.serial) other then Some c.args.slot else lookup (is_event other) es) c.self.view_is
