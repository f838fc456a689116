use Rattle.std.proofs.Common.{◌∙◌, ◌++◌, ◌∷◌, [], length, ◌≡◌, rules}
use Rattle.acts.proofs.KeyNumbers.{flow_added}
use Rattle.acts.proofs.look_back.graph.Graph.add.Goals as goal

pub returns-clause-flows : goal.returns-clause-flows
returns-clause-flows c =
    let flows : c.reserve-2.new.self.items ≡ c.args.self.now.flows = search rules in
    let place : c.len-place.result ≡ length c.args.self.now.flows = search rules in
    flow_added c.args.self.now.flows _ c.enter-from.new.objects.items c.enter-to.new.objects.items c.args.link c.args.taken.now c.enter-from.result c.enter-to.result
    c.enter-from.ensures.there c.enter-to.ensures.objects c.enter-from.ensures.id c.enter-to.ensures.id
    (c.put_last.ensures.last ∙ (λ i. flows i ++ record { from = c.enter-from.result; to = c.enter-to.result; how = c.args.link.how; at = record { ms = c.args.taken.now.ms; place = place i }; serial = c.args.taken.now.serial } ∷ []))
