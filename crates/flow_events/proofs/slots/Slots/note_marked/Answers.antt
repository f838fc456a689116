use Rattle.std.proofs.Common.{◌≤◌, ◌<◌, ◌∙◌, ap, subst, length, nat_eq, arith}
use Rattle.std.specs.List.{list_any}
use Rattle.std.proofs.lemmas.List.{take_all}
use Rattle.flow_events.proofs.Noting.{HasListed, adds_again, listed_next, listed_marked}
use Rattle.flow_events.proofs.slots.Slots.note_marked.Goals as goal

pub returns-in_err-note-clause-adds : goal.returns-in_err-note-clause-adds
returns-in_err-note-clause-adds c = adds_again c.args.fds.now c.args.self.now c.loop-fd.self c.note.new.self c.loop-fd.invariant.adds c.note.ensures.adds

pub loop-fd-preserved : goal.loop-fd-preserved
loop-fd-preserved c = record {
  adds = adds_again c.args.fds.now c.args.self.now c.loop-fd.self c.note.new.self c.loop-fd.invariant.adds c.note.ensures.adds;
  listed =
      let inside : c.loop-fd.fd-index < length c.as_slice-fd-items.result.now = (let t = c.loop-fd-test.true in let e = c.loop-fd.auto.fd-index-end in omega (arith, t, e)) in
      listed_next c.args.fds.now c.loop-fd.self c.note.new.self c.args.pid c.as_slice-fd-items.result.now c.loop-fd.fd-index inside c.loop-fd.invariant.listed c.note.ensures.adds c.in_ok-note.ensures.noted;
}

pub returns-clause-noted : goal.returns-clause-noted
returns-clause-noted c =
    let list = c.as_slice-fd-items.result.now in
    let past : length list ≤ c.loop-fd.fd-index = (let t = c.loop-fd-test.false in let e = c.loop-fd.auto.fd-index-end in omega (arith, t, e)) in
    listed_marked c.args.fds.now c.loop-fd.self c.args.pid list (λ n. ap (list_any (nat_eq n)) c.as_slice-fd-items.ensures ∙ c.in_ok-marked.ensures.marked n)
    (subst (HasListed c.args.fds.now c.loop-fd.self c.args.pid) (take_all c.loop-fd.fd-index list past) c.loop-fd.invariant.listed)
