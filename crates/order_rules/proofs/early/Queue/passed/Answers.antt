use Rattle.std.proofs.Common.{rules, ◌≡◌, ◌<◌, ◌≤◌, sym, subst, refl, ◌∙◌, List, length, drop}
use Rattle.order_rules.specs.declared.early.Early.{Early}
use Rattle.order_rules.specs.Doors.{fresh}
use Rattle.order_rules.proofs.EarlyLemmas.{passed_more, passed_here, passed_all}
use Rattle.order_rules.proofs.early.Queue.passed.Goals as goal

pub loop-count-init : goal.loop-count-init
loop-count-init c = refl

pub returns-then-is_fresh : goal.returns-then-is_fresh
returns-then-is_fresh c =
    let less : c.loop-count.count < length c.self.inside.items.items = search rules in
    subst (λ (items : List Early). drop c.loop-count.count items ≡ fresh c.args.now items) c.self.view_is
    (passed_here c.args.now c.loop-count.count c.self.inside.items.items c.index.result.now less c.index.ensures
    (sym c.is_fresh.ensures ∙ c.if-is_fresh.true) c.loop-count.invariant)

pub loop-count-preserved : goal.loop-count-preserved
loop-count-preserved c =
    let less : c.loop-count.count < length c.self.inside.items.items = search rules in
    passed_more c.args.now c.loop-count.count c.self.inside.items.items c.index.result.now less c.index.ensures
    (sym c.if-is_fresh.false ∙ c.is_fresh.ensures) c.loop-count.invariant

pub returns : goal.returns
returns c =
    let most : length c.self.inside.items.items ≤ c.loop-count.count = search rules in
    let all : length c.self.inside.items.items ≤ c.len.result = search rules in
    subst (λ (items : List Early). drop c.len.result items ≡ fresh c.args.now items) c.self.view_is
    (passed_all c.args.now c.loop-count.count c.len.result c.self.inside.items.items most all c.loop-count.invariant)
