use Rattle.std.proofs.Common.{◌∙◌}
use Rattle.std.proofs.lemmas.Result.{on_ok_weaker}
use Rattle.order_place.specs.Places.{node_of}
use Rattle.order_kin.proofs.NodeLemmas.{takes_in}
use Rattle.order_kin.proofs.families.Families.take_in.Goals as goal

pub returns : goal.returns
returns c = on_ok_weaker c.keep.result
    (λ keeps. takes_in c.args.self.now c.take-family.new.self c.keep.new.self (node_of c.args.front.now) c.in_ok-name.name c.args.starts c.args.heard
    c.take-family.result c.start_if.new.family c.hear_if.new.family (c.in_ok-name.ensures ∙ c.node_of.ensures) c.take-family.ensures.here c.start_if.ensures
    c.take-family.ensures.compat c.take-family.ensures.others keeps c.in_ok-hear_if.ensures)
    c.keep.ensures
