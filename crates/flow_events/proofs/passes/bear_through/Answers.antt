use Rattle.std.proofs.Common.{◌-◌, ◌^◌, ◌++◌, reverse, take, subst, arith}
use Rattle.flow_events.specs.Births.{BornAs}
use Rattle.flow_events.proofs.Numbers.{born_below}
use Rattle.flow_events.proofs.Rooms.{turned_short, turned_next}
use Rattle.flow_events.proofs.passes.bear_through.Goals as goal

pub loop-act-preserved : goal.loop-act-preserved
loop-act-preserved c =
    let kept = c.loop-act.invariant in
    let i = c.loop-act.act-index in
    let acts = c.args.acts.now in
    record {
      next = λ before few stands.
          let short = turned_short i acts before in
          let so_far = kept.next before few stands in
          let below = born_below c.loop-act.births (reverse (take i acts) ++ before) (2 ^ 64 - 1) so_far (omega (arith, short, few)) in
          subst (BornAs c.act.new.self) (turned_next i acts before c.act-item.result c.loop-act-test.true c.act-item.is)
          (c.act.ensures.next below (reverse (take i acts) ++ before) so_far);
      room = (let a = kept.room in let b = c.act.ensures.spare in omega (arith, a, b));
    }
