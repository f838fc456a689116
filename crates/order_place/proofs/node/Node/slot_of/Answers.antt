use Rattle.std.proofs.Common.{◌∙◌, sym, ap}
use Rattle.order_place.specs.Places.{Seen, event_at}
use Rattle.order_place.proofs.PlaceLemmas.{held, begun}
use Rattle.order_place.proofs.node.Node.slot_of.Goals as goal

pub returns-in-Some-clause-holds : goal.returns-in-Some-clause-holds
returns-in-Some-clause-holds c = held c.args.self.now (c.args.stamp.now.ms, c.args.stamp.now.number) c.args.most _ _
    (ap (λ (s : Seen). event_at s (c.args.stamp.now.ms, c.args.stamp.now.number)) (sym c.self.view_is) ∙ sym c.in-Some.ensures)

pub returns-clause-holds : goal.returns-clause-holds
returns-clause-holds c = begun c.args.self.now c.first_slot.new.self _ c.put.new.self (c.args.stamp.now.ms, c.args.stamp.now.number) c.args.most _ c.in_ok-slot.slot
    (ap (λ (s : Seen). event_at s (c.args.stamp.now.ms, c.args.stamp.now.number)) (sym c.self.view_is) ∙ sym c.in_default.ensures)
    c.in_ok-slot.ensures.slot c.self-2.view_is c.in_ok-slot.ensures.same c.in_ok-slot.ensures.calls c.in_ok-put.ensures
