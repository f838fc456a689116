use Rattle.std.proofs.Common.{◌∙◌, ap}
use Rattle.std.specs.Map.{lookup}
use Rattle.order_place.specs.Nodes.{is_node}
use Rattle.order_place.proofs.KeptLemmas.{others_after, others_taken}
use Rattle.order_place.proofs.nodes.Nodes.take.Goals as goal

pub returns-then-not-is_of-clause-others : goal.returns-then-not-is_of-clause-others
returns-then-not-is_of-clause-others g c = λ other isnt.
    others_after c.args.name.now c.self.inside.last c.self.inside.others.entries c.remove.new.self.entries c.remove.ensures.updates.2 other isnt
    ∙ ap (lookup (is_node other)) c.self.view_is

pub returns-in-Some-clause-others : goal.returns-in-Some-clause-others
returns-in-Some-clause-others g c =
    let value = c.take.ensures.value in
    let is = c.in-Some.is in
    let test = c.if-not-is_of.ensures in
    let isnt = c.if-not-is_of.false in
    others_taken c.args.name.now c.self.inside.last c.take.new.self (c.in-Some.field-0-0, c.in-Some.item) c.self.inside.others.entries c.args.self.now c.is_of.result
    c.is_of.ensures (cc) (cc) c.take.ensures.after c.self.view_is
