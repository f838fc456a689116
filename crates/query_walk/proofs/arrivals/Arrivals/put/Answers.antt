use Rattle.std.proofs.Common.{subst}
use Rattle.query_walk.specs.Arrivals.{AddsArrival, Held, IsDue, arrival}
use Rattle.query_walk.proofs.ArrivalLemmas.{due_queued, due_sits}
use Rattle.query_walk.proofs.arrivals.Arrivals.put.Goals as goal

pub returns-then-is_free : goal.returns-then-is_free
returns-then-is_free c =
    let slots = c.self.inside.slots in
    let heap = c.self.inside.queue in
    let new = c.put.new.self in
    subst (λ (held : Held). AddsArrival (IsDue held) (arrival c.args.place c.args.object) (IsDue (record { slots = new; heap = heap }))) c.self.view_is
    (due_sits slots new heap c.args.place c.args.object c.in_ok-put.ensures)

pub returns : goal.returns
returns c =
    let slots = c.self.inside.slots in
    let heap = c.self.inside.queue in
    let new = c.put-2.new.self in
    let one = arrival c.args.place c.args.object in
    subst (λ (held : Held). AddsArrival (IsDue held) one (IsDue (record { slots = slots; heap = new }))) c.self.view_is
    (due_queued slots heap new one c.in_ok-put-2.ensures)
