use Rattle.std.proofs.Common.{◌∙◌, sym}
use Rattle.order_kin.proofs.FamilyLemmas.{met_now}
use Rattle.order_kin.proofs.family.Family.meet.Goals as goal

pub returns : goal.returns
returns c = met_now c.args.self.now _ c.bear.new.self _ c.insert.new.self.keys c.args.heard c.self.view_is (sym c.contains.ensures ∙ c.if-contains.false)
    c.in_ok-bear.ensures c.self-2.view_is c.in_ok-insert.ensures.updates.0
