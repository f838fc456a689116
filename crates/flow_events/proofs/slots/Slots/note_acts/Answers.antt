use Rattle.std.proofs.Common.{◌≤◌, ◌<◌, subst, List, length, arith}
use Rattle.std.proofs.lemmas.List.{take_all}
use Rattle.acts.specs.declared.act.Act.{Act}
use Rattle.flow_events.specs.Since.{HasThose, any_touches}
use Rattle.flow_events.proofs.Noting.{adds_again, acts_next}
use Rattle.flow_events.proofs.slots.Slots.note_acts.Goals as goal

pub loop-act-preserved : goal.loop-act-preserved
loop-act-preserved c = record {
  adds = adds_again c.args.fds.now c.args.self.now c.loop-act.self c.note_act.new.self c.loop-act.invariant.adds c.note_act.ensures.adds;
  noted =
      let inside : c.loop-act.act-index < length c.args.acts.now = (let t = c.loop-act-test.true in let e = c.loop-act.auto.act-index-end in omega (arith, t, e)) in
      acts_next c.args.fds.now c.loop-act.self c.note_act.new.self c.args.acts.now c.loop-act.act-index c.act-item.result inside c.act-item.is c.loop-act.invariant.noted c.note_act.ensures.adds c.in_ok-note_act.ensures.noted;
}

pub returns-clause-noted : goal.returns-clause-noted
returns-clause-noted c =
    let past : length c.args.acts.now ≤ c.loop-act.act-index = (let t = c.loop-act-test.false in let e = c.loop-act.auto.act-index-end in omega (arith, t, e)) in
    subst (λ (l : List Act). HasThose c.args.fds.now c.loop-act.self (any_touches l)) (take_all c.loop-act.act-index c.args.acts.now past) c.loop-act.invariant.noted
