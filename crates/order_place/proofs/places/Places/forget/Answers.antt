use Rattle.std.proofs.Common.{subst, List, ℕ}
use Rattle.order_place.specs.Nodes.{TurnsTo}
use Rattle.order_place.proofs.TurnLemmas.{forgets_here}
use Rattle.order_place.proofs.places.Places.forget.Goals as goal

pub returns : goal.returns
returns c =
    let inside = c.self.inside in
    let mid = c.turn_to.new.self in
    forgets_here c.args.self.now mid inside.compat inside.clock inside.last inside.name inside.node inside.others c.args.name
    (subst (λ (n : List ℕ). TurnsTo c.args.self.now mid n) c.as_slice.ensures c.in_ok-turn_to.ensures) c.self.view_is
    c.forget.new.self (c.args.ms, c.args.serial) c.forget.ensures
