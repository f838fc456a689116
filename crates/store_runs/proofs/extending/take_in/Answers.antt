use Rattle.std.proofs.Common.{◌≡◌, inl}
use Rattle.store_runs.proofs.StoreRuns.{causes_by, over_causes}
use Rattle.store_runs.proofs.extending.take_in.Goals as goal

pub returns-in-Whole-clause-reduced : goal.returns-in-Whole-clause-reduced
returns-in-Whole-clause-reduced g c = λ resume is.
    let same : c.in-Whole.resume ≡ resume = (let whole = c.in-Whole.is in cc) in
    rw (← same) (c.reduce.ensures.run c.args.limits.now)

pub returns-in-Whole-clause-lacks : goal.returns-in-Whole-clause-lacks
returns-in-Whole-clause-lacks g c = rw c.in-Whole.is (c.reduce.ensures.lacks c.args.limits.now)

pub returns-in-Asked-clause-lacks : goal.returns-in-Asked-clause-lacks
returns-in-Asked-clause-lacks g c = rw (c.in-Asked.is, c.halted.ensures) c.watch_on.ensures.lacks

pub returns-in-Whole-clause-causes : goal.returns-in-Whole-clause-causes
returns-in-Whole-clause-causes g c =
    rw c.in-Whole.is (causes_by _ _ _ _ _ _ _ _ _ _ _ _ _ c.reduce.result inl (λ store. store) (λ hidden. hidden) (λ place none. none) (λ kept want none. none) (λ taken had shorter. shorter) c.reduce.ensures.causes)

pub returns-in-Asked-clause-causes : goal.returns-in-Asked-clause-causes
returns-in-Asked-clause-causes g c = rw (c.in-Asked.is, c.halted.ensures) (over_causes _ _ _ _ _ _ _ c.watch_on.result c.watch_on.ensures.causes)

pub returns-in-Asked-clause-heard : goal.returns-in-Asked-clause-heard
returns-in-Asked-clause-heard g c = λ is. rw c.halted.ensures c.watch_on.ensures.heard

pub returns-in-Whole-clause-adds : goal.returns-in-Whole-clause-adds
returns-in-Whole-clause-adds g c = λ resume is.
    let same : c.in-Whole.resume ≡ resume = (let whole = c.in-Whole.is in cc) in
    rw (← same) (c.reduce.ensures.adds c.args.limits.now)

pub returns-in-Asked-clause-watch_adds : goal.returns-in-Asked-clause-watch_adds
returns-in-Asked-clause-watch_adds g c = λ is. c.watch_on.ensures.adds
