use Rattle.std.proofs.Common.{◌≡◌, ◌<◌, ◌≤◌, ◌+◌, ◌-◌, subst, List, length, reverse, ◌++◌, arith}
use Rattle.std.proofs.lemmas.List.{take_all}
use Rattle.acts.specs.declared.act.Act.{Act}
use Rattle.flow_events.specs.Since.{ArePids, HasRoom}
use Rattle.flow_events.proofs.SinceLaws.{pids_turned, files_turned, differs_again}
use Rattle.flow_events.proofs.since.Since.note_acts.Goals as goal

pub loop-act-preserved : goal.loop-act-preserved
loop-act-preserved c =
    let inside : c.loop-act.act-index < length c.args.acts.now = (let t = c.loop-act-test.true in let e = c.loop-act.auto.act-index-end in omega (arith, t, e)) in
    let one : length c.args.acts.now - c.loop-act.act-index ≡ (length c.args.acts.now - (c.loop-act.act-index + 1)) + 1 = omega (arith, inside) in
    let before = c.loop-act.invariant in
    record {
      pids = λ b n lives are. pids_turned c.loop-act.self c.note_act.new.self c.args.procs.now c.args.acts.now b n c.loop-act.act-index c.act-item.result inside c.act-item.is lives (before.pids b n lives are) c.note_act.ensures.pids;
      files = λ b n are. files_turned c.loop-act.self c.note_act.new.self c.args.acts.now b n c.loop-act.act-index c.act-item.result inside c.act-item.is (before.files b n are) c.note_act.ensures.files;
      rest = differs_again c.args.self.now c.loop-act.self c.note_act.new.self before.rest c.note_act.ensures.rest;
      room = c.note_act.ensures.room (length c.args.acts.now - (c.loop-act.act-index + 1)) (subst (HasRoom c.loop-act.self) one before.room);
    }

pub returns-clause-pids : goal.returns-clause-pids
returns-clause-pids c = λ b n lives are.
    let past : length c.args.acts.now ≤ c.loop-act.act-index = (let t = c.loop-act-test.false in let e = c.loop-act.auto.act-index-end in omega (arith, t, e)) in
    subst (λ (l : List Act). ArePids c.loop-act.self b (reverse l ++ n)) (take_all c.loop-act.act-index c.args.acts.now past) (c.loop-act.invariant.pids b n lives are)
