use Rattle.std.proofs.Common.{◌∙◌, ap, sym, subst, List, ℕ, Some}
use Rattle.std.specs.Map.{lookup}
use Rattle.std.specs.Str.{bytes_eq}
use Rattle.order_place.specs.Nodes.{AllSeen, is_node, TurnsTo}
use Rattle.order_place.proofs.TurnLemmas.{seen_with, not_mine, turned_to}
use Rattle.order_place.proofs.places.Places.turn_to.Goals as goal

pub returns : goal.returns
returns c =
    let inside = c.self.inside in
    let names = c.replace-name_before.ensures in
    let nodes = c.replace-node_before.ensures in
    let new : AllSeen = seen_with inside.compat inside.clock inside.last c.replace-name_before.new.dest c.replace-node_before.new.dest c.keep.new.self in
    subst (λ (n : List ℕ). TurnsTo c.args.self.now new n) c.in_ok-name.ensures
    (turned_to c.args.self.now inside.compat inside.clock inside.last inside.name inside.node inside.others c.taken_of-node.new.nodes c.keep.new.self
    c.in_ok-name.name c.replace-name_before.new.dest c.taken_of-node.result c.replace-node_before.new.dest
    c.self.view_is names.after nodes.after (not_mine inside.name c.in_ok-name.name
    (c.if-eq.ensures ∙ ap (λ (n : List ℕ). bytes_eq n c.args.name.now) c.as_slice.ensures ∙ ap (bytes_eq inside.name) (sym c.in_ok-name.ensures)))
    c.taken_of-node.ensures.node c.taken_of-node.ensures.others
    (ap (λ (n : List ℕ). lookup (is_node n) c.keep.new.self) (sym names.value) ∙ c.in_ok-keep.ensures.here ∙ ap Some nodes.value)
    (λ other isnt. c.in_ok-keep.ensures.others other (ap (λ (n : List ℕ). is_node n other) names.value ∙ isnt)))
