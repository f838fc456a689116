use Rattle.std.proofs.Common.{◌∙◌, subst, ap, List, ℕ, Bool, max}
use Rattle.order_text.specs.Seen.{stamp_seen}
use Rattle.order_place.specs.Nodes.{TurnsTo, begun}
use Rattle.order_place.proofs.TurnLemmas.{sees_here}
use Rattle.order_place.proofs.places.Places.see.Goals as goal

pub returns-clause-sees : goal.returns-clause-sees
returns-clause-sees c =
    let inside = c.self.inside in
    let mid = c.turn_to.new.self in
    sees_here c.args.self.now mid inside.compat inside.clock inside.last inside.name inside.node inside.others (stamp_seen c.args.stamp.now)
    (subst (λ (n : List ℕ). TurnsTo c.args.self.now mid n) c.node_of.ensures c.in_ok-turn_to.ensures) c.self.view_is
    c.max-self-inside.result c.start_if.new.node c.see_as.new.node c.args.line.now _
    (c.start_if.ensures ∙ ap (λ (b : Bool). begun b inside.node) c.is_boot-starts.ensures)
    c.in_ok-slot.ensures (c.max-self-inside.ensures ∙ ap (λ (t : ℕ). max inside.clock t) c.clock.ensures)
