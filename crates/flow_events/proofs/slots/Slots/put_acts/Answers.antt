use Rattle.std.proofs.Common.{◌≤◌, ◌<◌, subst, List, length, arith}
use Rattle.std.proofs.lemmas.List.{take_all}
use Rattle.acts.specs.declared.act.Act.{Act}
use Rattle.flow_events.specs.Since.{HasEach, any_may_put}
use Rattle.flow_events.proofs.Noting.{puts_listed, still_again}
use Rattle.flow_events.proofs.slots.Slots.put_acts.Goals as goal

pub loop-act-preserved : goal.loop-act-preserved
loop-act-preserved c = record {
  stay = still_again c.args.self.now c.loop-act.self c.put_act.new.self c.loop-act.invariant.stay c.put_act.ensures.stay;
  noted =
      let inside : c.loop-act.act-index < length c.args.acts.now = (let t = c.loop-act-test.true in let e = c.loop-act.auto.act-index-end in omega (arith, t, e)) in
      puts_listed c.loop-act.self c.put_act.new.self c.args.acts.now c.loop-act.act-index c.act-item.result inside c.act-item.is c.loop-act.invariant.noted c.put_act.ensures.stay c.in_ok-put_act.ensures.noted;
}

pub returns-clause-noted : goal.returns-clause-noted
returns-clause-noted c =
    let past : length c.args.acts.now ≤ c.loop-act.act-index = (let t = c.loop-act-test.false in let e = c.loop-act.auto.act-index-end in omega (arith, t, e)) in
    subst (λ (l : List Act). HasEach c.loop-act.self (any_may_put l)) (take_all c.loop-act.act-index c.args.acts.now past) c.loop-act.invariant.noted
