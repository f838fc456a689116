use Rattle.std.proofs.Common.{◌∙◌, arith}
use Rattle.flow_events.proofs.CountedBirths.{births_more, births_done}
use Rattle.flow_events.proofs.births.births_in.Goals as goal

pub loop-act-preserved : goal.loop-act-preserved
loop-act-preserved c =
    let kept = c.loop-act.invariant in
    let births = kept.births in
    let few = kept.few in
    let one = c.births_of-births.ensures.births in
    let most = c.births_of-births.ensures.few in
    let more = births_more c.loop-act.act-index c.args.acts.now c.act-item.result c.loop-act-test.true c.act-item.is in
    record {
      births = omega (arith, births, one, more);
      few = omega (arith, few, most);
    }

pub returns : goal.returns
returns c = c.loop-act.invariant.births ∙ births_done c.loop-act.act-index c.args.acts.now c.loop-act-test.false
