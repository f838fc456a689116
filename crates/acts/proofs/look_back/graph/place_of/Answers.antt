use Rattle.std.proofs.Common.{◌∙◌, sym, arith}
use Rattle.flow_base.specs.contracts.types.KeyPartialEq.TheImpl.{ghosts}
use Rattle.acts.proofs.Entering.{some_place, none_place, within}
use Rattle.acts.proofs.look_back.graph.place_of.Goals as goal

pub returns-in-Some-clause-place : goal.returns-in-Some-clause-place
returns-in-Some-clause-place c = some_place (ghosts.eq c.args.key.now) c.args.objects.now c.in-Some.place (sym c.find.ensures ∙ c.in-Some.is)

pub returns-in-None-clause-place : goal.returns-in-None-clause-place
returns-in-None-clause-place c = none_place (ghosts.eq c.args.key.now) c.args.objects.now (sym c.find.ensures ∙ c.in-None.is)

pub returns-in-Some-clause-within : goal.returns-in-Some-clause-within
returns-in-Some-clause-within c =
    let is = some_place (ghosts.eq c.args.key.now) c.args.objects.now c.in-Some.place (sym c.find.ensures ∙ c.in-Some.is) in
    let few = within (ghosts.eq c.args.key.now) c.args.objects.now in
    omega (arith, is, few)
