use Rattle.std.proofs.Common.{◌∙◌, ap, Option}
use Rattle.order_place.specs.declared.slot.Slot.{Slot}
use Rattle.order_place.specs.Places.{later_of}
use Rattle.order_place.proofs.PlaceLemmas.{held_back}
use Rattle.order_place.proofs.node.Node.hold_back.Goals as goal

pub returns-clause-holds : goal.returns-clause-holds
returns-clause-holds c =
    held_back c.args.self.now _ c.insert.new.self.entries c.args.pid c.args.held c.later_of-slot.result c.self.view_is
    (c.later_of-slot.ensures ∙ ap (λ (o : Option Slot). later_of c.args.held o) c.requires) c.in_ok-insert.ensures.updates.0
