use Rattle.order_text.specs.Seen.{stamp_seen}
use Rattle.order_place.specs.Places.{Seen}
use Rattle.order_place.proofs.PlaceLemmas.{seen_next}
use Rattle.order_place.proofs.node.Node.see.Goals as goal

pub returns : goal.returns
returns c =
    let inside : Seen = record { clock = c.self.inside.clock; files = c.self.inside.files; calls = c.self.inside.calls.entries; events = c.self.inside.events } in
    let later : Seen = record { clock = c.self-2.inside.clock; files = c.self-2.inside.files; calls = c.self-2.inside.calls.entries; events = c.self-2.inside.events } in
    seen_next c.args.self.now inside c.see_read.new.self c.slot_of.new.self later c.after-clock.result (stamp_seen c.args.stamp.now) c.args.line.now c.in_ok-call.call c.in_ok-slot.slot
    c.self.view_is c.in_ok-call.ensures.hears c.after-clock.ensures c.in_ok-slot.ensures.holds c.in_ok-slot.ensures.slot c.self-2.view_is
