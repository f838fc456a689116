use Rattle.std.proofs.Common.{◌+◌, ◌++◌, sym, subst, take, arith}
use Rattle.std.proofs.lemmas.Result.{err_from_is_err_and}
use Rattle.acts.specs.Flows.{acts_of, objects}
use Rattle.flow_events.specs.Added.{IsPast}
use Rattle.flow_events.specs.Drafts.{turned}
use Rattle.flow_events.proofs.CountedBirths.{births_more, births_left, births_within}
use Rattle.flow_events.proofs.Past.{all_past}
use Rattle.flow_events.proofs.UnderWays.{calm_at, one_more, all_done, still_few, turned_more}
use Rattle.flow_events.proofs.draft.Draft.calm_acts.Goals as goal

pub loop-act-preserved : goal.loop-act-preserved
loop-act-preserved c =
    let kept = c.loop-act.invariant in
    let ground = c.args.ground.now in
    let acting = c.args.acting.now in
    record {
      next = λ before now start.
          let way = kept.next before now start in
          let calm = calm_at acting.pid c.loop-act.act-index c.args.acts.now c.act-item.result c.requires.calm c.loop-act-test.true c.act-item.is in
          one_more ground acting c.loop-act.self c.act.new.self before now c.loop-act.act-index c.args.acts.now c.act-item.result c.loop-act-test.true c.act-item.is calm.calm way
          (c.in_ok-act.ensures.next before (turned ground.ms ground.serial (take c.loop-act.act-index c.args.acts.now) ++ now) (still_few ground acting c.loop-act.self c.args.self.now before now c.loop-act.act-index c.args.acts.now start way));
      new = λ start. c.in_ok-act.ensures.new (kept.new start);
      numbered = λ start. c.in_ok-act.ensures.numbered (kept.numbered start);
      fits = c.in_ok-act.ensures.fits;
      more = (let a = c.in_ok-act.ensures.more in let b = kept.more in omega (arith, a, b));
      room = (
          let a = c.in_ok-act.ensures.room in
          let b = kept.room in
          let more = births_more c.loop-act.act-index c.args.acts.now c.act-item.result c.loop-act-test.true c.act-item.is in
          omega (arith, a, b, more)
          );
    }

pub act-requires-clause-room : goal.act-requires-clause-room
act-requires-clause-room c =
    let kept = c.loop-act.invariant.room in
    let room = c.requires.room in
    let left = births_left c.loop-act.act-index c.args.acts.now c.act-item.result c.loop-act-test.true c.act-item.is in
    omega (arith, kept, room, left)

pub returns-clause-room : goal.returns-clause-room
returns-clause-room c =
    let kept = c.loop-act.invariant.room in
    let within = births_within c.loop-act.act-index c.args.acts.now in
    omega (arith, kept, within)

pub returns-clause-next : goal.returns-clause-next
returns-clause-next c = λ before now start.
    all_done c.args.ground.now c.args.acting.now c.loop-act.self before now c.loop-act.act-index c.args.acts.now c.loop-act-test.false (c.loop-act.invariant.next before now start)

pub returns-in_err-act-clause-full : goal.returns-in_err-act-clause-full
returns-in_err-act-clause-full c =
    let p = err_from_is_err_and c.from_residual.result c.from_residual.ensures.1 in
    rw (p.1, p.2) (λ full is before now start.
    let ground = c.args.ground.now in
    let acts = c.args.acts.now in
    let i = c.loop-act.act-index in
    let way = c.loop-act.invariant.next before now start in
    let here = c.in_err-act.ensures.full full is before (turned ground.ms ground.serial (take i acts) ++ now) (still_few ground c.args.acting.now c.loop-act.self c.args.self.now before now i acts start way) in
    all_past _ full ground.ms ground.serial (i + 1) acts now before
    (subst (λ all. IsPast ground.most full (objects (acts_of (all ++ now) ++ acts_of before))) (sym (turned_more ground.ms ground.serial i acts c.act-item.result c.loop-act-test.true c.act-item.is)) here))
