use Rattle.std.proofs.Common.{◌-◌, ◌^◌, ◌++◌, reverse, take, subst, arith}
use Rattle.proc_table.specs.Table.{StandsFor}
use Rattle.flow_events.proofs.Numbers.{lives_below}
use Rattle.flow_events.proofs.Rooms.{turned_short, turned_next}
use Rattle.flow_events.proofs.passes.live_through.Goals as goal

pub loop-act-preserved : goal.loop-act-preserved
loop-act-preserved c =
    let kept = c.loop-act.invariant in
    let i = c.loop-act.act-index in
    let acts = c.args.acts.now in
    record {
      next = λ before few stands.
          let short = turned_short i acts before in
          let so_far = kept.next before few stands in
          let below = lives_below c.loop-act.procs (reverse (take i acts) ++ before) (2 ^ 64 - 1) c.each_beginning_is_an_act.ensures so_far (omega (arith, short, few)) in
          subst (StandsFor c.live_on.new.procs) (turned_next i acts before c.act-item.result c.loop-act-test.true c.act-item.is)
          (c.live_on.ensures.next below (reverse (take i acts) ++ before) so_far);
      room = (let a = kept.room in let b = c.live_on.ensures.spare in omega (arith, a, b));
    }
