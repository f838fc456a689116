use Rattle.std.proofs.lemmas.Result.{on_ok_weaker}
use Rattle.order_kin.proofs.FamilyLemmas.{heard_so}
use Rattle.order_kin.proofs.family.Family.hear.Goals as goal

pub returns : goal.returns
returns c = on_ok_weaker c.follow.result
    (λ follows family stands. heard_so c.args.self.now c.meet.new.self c.follow.new.self c.args.heard family c.in_ok-meet.ensures follows stands)
    c.follow.ensures
