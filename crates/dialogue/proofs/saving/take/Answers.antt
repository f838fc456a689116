use Rattle.std.proofs.Common.{rules, ◌≡◌, ◌≤◌, ◌+◌, ℕ, refl, length, arith, sym, ap, subst, ◌∙◌}
use Rattle.std.proofs.lemmas.List.{length-take, length-drop}
use Rattle.std.proofs.lemmas.Result.{err_from_is_err_and}
use Rattle.ingest.specs.Stops.{Stops}
use Rattle.dialogue.specs.Dialogue.{Moment, taken_on}
use Rattle.dialogue.specs.Course.{At, kind_of}
use Rattle.dialogue.proofs.MomentLemmas.{due_weaker, stop_later, take_all, take_both, take_none}
use Rattle.dialogue.proofs.SaveLemmas.{at_taken, ends_at, ends_by, names_none}
use Rattle.dialogue.proofs.AddLemmas.{pace_at, pace_cut, pace_taken}
use Rattle.dialogue.proofs.LackLemmas.{lacks_read}
use Rattle.dialogue.proofs.saving.take.Goals as goal

pub loop-count-init : goal.loop-count-init
loop-count-init g c = record {
  within = omega arith;
  can = c.requires.can;
  at = λ takes start limits m at. subst (λ (x : Moment). At (kind_of g.R.Reducer.mode takes (g.K.Saves.holds start limits)) limits c.args.session.now.engine (g.L.Source.left c.args.log.now) x) (sym (take_none m)) at;
  part = λ takes start limits m at. omega arith;
  lacks = λ takes start limits m at lacks. lacks;
  adds = λ takes start limits m most at pace. pace;
  batch = refl;
  uses = c.saves_lawfully.ensures.uses_same _ _ (g.met.K.Rows.goes_along.same c.args.session.now.engine.joined.keep);
  counts = search rules;
}

pub fill-requires-clause-within : goal.fill-requires-clause-within
fill-requires-clause-within g c = omega (arith, c.in_ok-taken.ensures.within, c.loop-count.session.few)

pub overflow_add-count : goal.overflow_add-count
overflow_add-count g c = omega (arith, c.in_ok-taken.ensures.within, c.loop-count.invariant.within, c.ranges.most.fits)

pub returns-in_err-taken-clause-due : goal.returns-in_err-taken-clause-due
returns-in_err-taken-clause-due g c = λ takes start limits m at.
    let n = c.loop-count.count in
    let room = c.min-room.result in
    let here = c.loop-count.invariant.at takes start limits m at in
    let due = c.in_err-taken.ensures.due limits (taken_on n m) here.stands_at in
    let within : n + room ≤ c.args.most = omega arith in
    let p = err_from_is_err_and c.from_residual.result c.from_residual.ensures.1 in
    rw (p.1, p.2) (due_weaker _ _ _ (λ full over. stop_later c.stops_stay.ensures limits m (n + room) c.args.most full within (subst (λ (x : Moment). Stops limits x.history full) (take_both m n room) over)) due)

pub returns-in_err-taken-clause-ends : goal.returns-in_err-taken-clause-ends
returns-in_err-taken-clause-ends g c = λ takes start limits m at.
    let here = c.loop-count.invariant.at takes start limits m at in
    let p = err_from_is_err_and c.from_residual.result c.from_residual.ensures.1 in
    rw (p.1, p.2) (ends_at g.K.Rows.alike g.K.Saves.can g.K.Saves.holds g.K.Saves.ends g.K.Saves.uses g.K.Saves.rose c.saves_lawfully.ensures start limits g.R.Reducer.mode takes c.loop-count.session.engine _
    c.take_log.new.engine.joined.keep m c.loop-count.count c.args.most c.in_err-taken.field-0.0 c.loop-count.invariant.within (names_none _ _ _ _ _ c.in_err-taken.ensures.causes) c.take_log.ensures.alike here)

pub returns-in_err-fill-clause-ends : goal.returns-in_err-fill-clause-ends
returns-in_err-fill-clause-ends g c = λ takes start limits m at.
    let n = c.loop-count.count in
    let room = c.min-room.result in
    let here = c.loop-count.invariant.at takes start limits m at in
    let step = at_taken g.K.Rows.alike g.K.Saves.can g.K.Saves.holds g.K.Saves.ends g.K.Saves.uses g.K.Saves.rose c.saves_lawfully.ensures start limits g.R.Reducer.mode takes c.loop-count.session.engine
    c.take_log.new.engine (g.L.Source.left c.loop-count.log) (g.L.Source.left c.take_log.new.log) (taken_on n m) room c.in_ok-taken.taken here (c.in_ok-taken.ensures.took limits (taken_on n m) here.stands_at) (c.in_ok-taken.ensures.count limits (taken_on n m) here.stands_at)
    c.in_ok-taken.ensures.part c.take_log.ensures.alike c.take_log.ensures.marked in
    let within : n + room ≤ c.args.most = omega arith in
    let p = err_from_is_err_and c.from_residual-in_err-fill.result c.from_residual-in_err-fill.ensures.1 in
    rw (p.1, p.2) (ends_by g.K.Rows.alike g.K.Saves.can g.K.Saves.holds g.K.Saves.ends g.K.Saves.uses g.K.Saves.rose c.saves_lawfully.ensures start limits c.fill.new.session.engine.joined.keep m (n + room) c.args.most
    c.in_err-fill.field-0.0 within (subst (λ (x : Moment). g.K.Saves.ends start limits c.fill.new.session.engine.joined.keep x c.in_err-fill.field-0.0) (take_both m n room)
    (c.in_err-fill.ensures.ends takes start limits _ (taken_on room (taken_on n m)) step)))

pub returns-then-taken-room-clause-took : goal.returns-then-taken-room-clause-took
returns-then-taken-room-clause-took g c = λ takes start limits m at.
    let n = c.loop-count.count in
    let room = c.min-room.result in
    let here = c.loop-count.invariant.at takes start limits m at in
    let count = c.in_ok-taken.ensures.count limits (taken_on n m) here.stands_at in
    let step = at_taken g.K.Rows.alike g.K.Saves.can g.K.Saves.holds g.K.Saves.ends g.K.Saves.uses g.K.Saves.rose c.saves_lawfully.ensures start limits g.R.Reducer.mode takes c.loop-count.session.engine
    c.take_log.new.engine (g.L.Source.left c.loop-count.log) (g.L.Source.left c.take_log.new.log) (taken_on n m) room c.in_ok-taken.taken here (c.in_ok-taken.ensures.took limits (taken_on n m) here.stands_at) count
    c.in_ok-taken.ensures.part c.take_log.ensures.alike c.take_log.ensures.marked in
    let filled = c.in_ok-fill.ensures.at takes start limits _ (taken_on room (taken_on n m)) step in
    let long = length-take room (taken_on n m).log in
    let rest = length-drop n m.log in
    let less = c.if-taken-room.true in
    let all : length m.log ≤ n + room = omega (arith, count, long, rest, less) in
    let within : n + room ≤ c.args.most = omega arith in
    let whole : length m.log ≤ c.args.most = omega (arith, all, within) in
    subst (λ (x : Moment). At (kind_of g.R.Reducer.mode takes (g.K.Saves.holds start limits)) limits c.fill.new.session.engine (g.L.Source.left c.take_log.new.log) x)
    (take_both m n room ∙ take_all m (n + room) c.args.most all whole) filled

pub returns-then-taken-room-clause-count : goal.returns-then-taken-room-clause-count
returns-then-taken-room-clause-count g c = λ takes start limits m at.
    let n = c.loop-count.count in
    let room = c.min-room.result in
    let here = c.loop-count.invariant.at takes start limits m at in
    let count = c.in_ok-taken.ensures.count limits (taken_on n m) here.stands_at in
    let long = length-take room (taken_on n m).log in
    let rest = length-drop n m.log in
    let low = c.loop-count.invariant.part takes start limits m at in
    let within : n + room ≤ c.args.most = omega arith in
    omega (arith, count, long, rest, c.if-taken-room.true, low, within, length-take c.args.most m.log)

pub loop-count-preserved : goal.loop-count-preserved
loop-count-preserved g c =
    let n = c.loop-count.count in
    let room = c.min-room.result in
    let most_taken = c.in_ok-taken.ensures.within in
    let full : c.in_ok-taken.taken ≡ room = omega (arith, c.if-taken-room.false, most_taken) in
    record {
      within = omega arith;
      can = c.in_ok-fill.ensures.can;
      at = λ takes start limits m at.
          let here = c.loop-count.invariant.at takes start limits m at in
          let step = at_taken g.K.Rows.alike g.K.Saves.can g.K.Saves.holds g.K.Saves.ends g.K.Saves.uses g.K.Saves.rose c.saves_lawfully.ensures start limits g.R.Reducer.mode takes c.loop-count.session.engine
          c.take_log.new.engine (g.L.Source.left c.loop-count.log) (g.L.Source.left c.take_log.new.log) (taken_on n m) room c.in_ok-taken.taken here (c.in_ok-taken.ensures.took limits (taken_on n m) here.stands_at) (c.in_ok-taken.ensures.count limits (taken_on n m) here.stands_at)
          c.in_ok-taken.ensures.part c.take_log.ensures.alike c.take_log.ensures.marked in
          let filled = c.in_ok-fill.ensures.at takes start limits _ (taken_on room (taken_on n m)) step in
          subst (λ (x : Moment). At (kind_of g.R.Reducer.mode takes (g.K.Saves.holds start limits)) limits c.fill.new.session.engine (g.L.Source.left c.take_log.new.log) x)
          (take_both m n room ∙ ap (λ (k : ℕ). taken_on (n + k) m) (sym full)) filled;
      part = λ takes start limits m at.
          let here = c.loop-count.invariant.at takes start limits m at in
          let count = c.in_ok-taken.ensures.count limits (taken_on n m) here.stands_at in
          omega (arith, count, full, length-take room (taken_on n m).log, length-drop n m.log, c.loop-count.invariant.part takes start limits m at);
      lacks = λ takes start limits m at was.
          let here = c.loop-count.invariant.at takes start limits m at in
          let step = at_taken g.K.Rows.alike g.K.Saves.can g.K.Saves.holds g.K.Saves.ends g.K.Saves.uses g.K.Saves.rose c.saves_lawfully.ensures start limits g.R.Reducer.mode takes c.loop-count.session.engine
          c.take_log.new.engine (g.L.Source.left c.loop-count.log) (g.L.Source.left c.take_log.new.log) (taken_on n m) room c.in_ok-taken.taken here (c.in_ok-taken.ensures.took limits (taken_on n m) here.stands_at) (c.in_ok-taken.ensures.count limits (taken_on n m) here.stands_at)
          c.in_ok-taken.ensures.part c.take_log.ensures.alike c.take_log.ensures.marked in
          let left = c.in_ok-taken.ensures.left (taken_on n m).log here.stands_at.told in
          c.in_ok-fill.ensures.lacks takes start limits _ (taken_on room (taken_on n m)) step
          (lacks_read g.K.Rows.alike g.K.Saves.lacks c.lacks_lawfully.ensures start limits g.R.Reducer.mode c.loop-count.session.engine.joined.keep c.take_log.new.engine.joined.keep (taken_on n m).log (g.L.Source.left c.loop-count.log) (g.L.Source.left c.take_log.new.log) c.loop-count.session.unsaved
          c.in_ok-taken.taken c.take_log.ensures.alike here.stands_at.told left (c.loop-count.invariant.lacks takes start limits m at was));
      adds = λ takes start limits m most at pace.
          let here = c.loop-count.invariant.at takes start limits m at in
          let step = at_taken g.K.Rows.alike g.K.Saves.can g.K.Saves.holds g.K.Saves.ends g.K.Saves.uses g.K.Saves.rose c.saves_lawfully.ensures start limits g.R.Reducer.mode takes c.loop-count.session.engine
          c.take_log.new.engine (g.L.Source.left c.loop-count.log) (g.L.Source.left c.take_log.new.log) (taken_on n m) room c.in_ok-taken.taken here (c.in_ok-taken.ensures.took limits (taken_on n m) here.stands_at) (c.in_ok-taken.ensures.count limits (taken_on n m) here.stands_at)
          c.in_ok-taken.ensures.part c.take_log.ensures.alike c.take_log.ensures.marked in
          let taken = pace_taken (g.K.Saves.adds start limits) c.args.session.now.batch c.loop-count.session.engine.joined.keep c.take_log.new.engine.joined.keep c.loop-count.session.unsaved (g.L.Source.left c.loop-count.log) (g.L.Source.left c.take_log.new.log) most
          (taken_on n m).log room c.in_ok-taken.taken (λ k so. c.adds_lawfully.ensures start limits _ _ k c.take_log.ensures.alike so) here.stands_at.told step.stands_at.told (c.in_ok-taken.ensures.count limits (taken_on n m) here.stands_at)
          (c.loop-count.invariant.adds takes start limits m most at pace) in
          pace_at (g.K.Saves.adds start limits) c.loop-count.session.batch c.args.session.now.batch c.fill.new.session.engine.joined.keep c.fill.new.session.unsaved (g.L.Source.left c.take_log.new.log) most c.loop-count.invariant.batch
          (c.in_ok-fill.ensures.adds takes start limits _ (taken_on room (taken_on n m)) most step (pace_at (g.K.Saves.adds start limits) c.args.session.now.batch c.loop-count.session.batch c.take_log.new.engine.joined.keep (c.loop-count.session.unsaved + c.in_ok-taken.taken) (g.L.Source.left c.take_log.new.log) most (sym c.loop-count.invariant.batch) taken));
      batch = c.fill.ensures.batch ∙ c.loop-count.invariant.batch;
      uses = c.saves_lawfully.ensures.uses_both _ _ _ c.loop-count.invariant.uses
          (c.saves_lawfully.ensures.uses_both _ _ _ (c.saves_lawfully.ensures.uses_same _ _ c.take_log.ensures.alike) c.fill.ensures.uses);
      counts = search rules;
    }

pub returns-clause-took : goal.returns-clause-took
returns-clause-took g c = λ takes start limits m at.
    let all : c.loop-count.count ≡ c.args.most = omega arith in
    subst (λ (n : ℕ). At (kind_of g.R.Reducer.mode takes (g.K.Saves.holds start limits)) limits c.loop-count.session.engine (g.L.Source.left c.loop-count.log) (taken_on n m)) all (c.loop-count.invariant.at takes start limits m at)

pub returns-clause-count : goal.returns-clause-count
returns-clause-count g c = λ takes start limits m at.
    let all : c.loop-count.count ≡ c.args.most = omega arith in
    omega (arith, all, c.loop-count.invariant.part takes start limits m at, length-take c.args.most m.log)

pub returns-in_err-taken-clause-lacks : goal.returns-in_err-taken-clause-lacks
returns-in_err-taken-clause-lacks g c = λ takes start limits m at was.
    let n = c.loop-count.count in
    let room = c.min-room.result in
    let here = c.loop-count.invariant.at takes start limits m at in
    let p = err_from_is_err_and c.from_residual.result c.from_residual.ensures.1 in
    let left = c.in_err-taken.ensures.left (taken_on n m).log here.stands_at.told in
    let read = lacks_read g.K.Rows.alike g.K.Saves.lacks c.lacks_lawfully.ensures start limits g.R.Reducer.mode c.loop-count.session.engine.joined.keep c.take_log.new.engine.joined.keep (taken_on n m).log (g.L.Source.left c.loop-count.log) (g.L.Source.left c.take_log.new.log) c.loop-count.session.unsaved
    room c.take_log.ensures.alike here.stands_at.told left (c.loop-count.invariant.lacks takes start limits m at was) in
    let batch = c.loop-count.invariant.batch in
    let few = c.loop-count.session.few in
    rw p.1 (c.lacks_lawfully.ensures.more start limits g.R.Reducer.mode c.take_log.new.engine.joined.keep _ (c.loop-count.session.unsaved + room) c.args.session.now.batch (omega (arith, batch, few)) read)

pub returns-in_err-fill-clause-lacks : goal.returns-in_err-fill-clause-lacks
returns-in_err-fill-clause-lacks g c = λ takes start limits m at was.
    let n = c.loop-count.count in
    let room = c.min-room.result in
    let here = c.loop-count.invariant.at takes start limits m at in
    let step = at_taken g.K.Rows.alike g.K.Saves.can g.K.Saves.holds g.K.Saves.ends g.K.Saves.uses g.K.Saves.rose c.saves_lawfully.ensures start limits g.R.Reducer.mode takes c.loop-count.session.engine
    c.take_log.new.engine (g.L.Source.left c.loop-count.log) (g.L.Source.left c.take_log.new.log) (taken_on n m) room c.in_ok-taken.taken here (c.in_ok-taken.ensures.took limits (taken_on n m) here.stands_at) (c.in_ok-taken.ensures.count limits (taken_on n m) here.stands_at)
    c.in_ok-taken.ensures.part c.take_log.ensures.alike c.take_log.ensures.marked in
    let left = c.in_ok-taken.ensures.left (taken_on n m).log here.stands_at.told in
    let p = err_from_is_err_and c.from_residual-in_err-fill.result c.from_residual-in_err-fill.ensures.1 in
    let lacks = c.in_err-fill.ensures.lacks takes start limits _ (taken_on room (taken_on n m)) step
    (lacks_read g.K.Rows.alike g.K.Saves.lacks c.lacks_lawfully.ensures start limits g.R.Reducer.mode c.loop-count.session.engine.joined.keep c.take_log.new.engine.joined.keep (taken_on n m).log (g.L.Source.left c.loop-count.log) (g.L.Source.left c.take_log.new.log) c.loop-count.session.unsaved
    c.in_ok-taken.taken c.take_log.ensures.alike here.stands_at.told left (c.loop-count.invariant.lacks takes start limits m at was)) in
    rw p.1 (subst (λ (b : ℕ). g.K.Saves.lacks start limits g.R.Reducer.mode c.fill.new.session.engine.joined.keep (g.L.Source.left c.take_log.new.log) b) c.loop-count.invariant.batch lacks)

pub returns-then-taken-room-clause-lacks : goal.returns-then-taken-room-clause-lacks
returns-then-taken-room-clause-lacks g c = λ takes start limits m at was.
    let n = c.loop-count.count in
    let room = c.min-room.result in
    let here = c.loop-count.invariant.at takes start limits m at in
    let step = at_taken g.K.Rows.alike g.K.Saves.can g.K.Saves.holds g.K.Saves.ends g.K.Saves.uses g.K.Saves.rose c.saves_lawfully.ensures start limits g.R.Reducer.mode takes c.loop-count.session.engine
    c.take_log.new.engine (g.L.Source.left c.loop-count.log) (g.L.Source.left c.take_log.new.log) (taken_on n m) room c.in_ok-taken.taken here (c.in_ok-taken.ensures.took limits (taken_on n m) here.stands_at) (c.in_ok-taken.ensures.count limits (taken_on n m) here.stands_at)
    c.in_ok-taken.ensures.part c.take_log.ensures.alike c.take_log.ensures.marked in
    let left = c.in_ok-taken.ensures.left (taken_on n m).log here.stands_at.told in
    c.in_ok-fill.ensures.lacks takes start limits _ (taken_on room (taken_on n m)) step
    (lacks_read g.K.Rows.alike g.K.Saves.lacks c.lacks_lawfully.ensures start limits g.R.Reducer.mode c.loop-count.session.engine.joined.keep c.take_log.new.engine.joined.keep (taken_on n m).log (g.L.Source.left c.loop-count.log) (g.L.Source.left c.take_log.new.log) c.loop-count.session.unsaved
    c.in_ok-taken.taken c.take_log.ensures.alike here.stands_at.told left (c.loop-count.invariant.lacks takes start limits m at was))

pub returns-clause-lacks : goal.returns-clause-lacks
returns-clause-lacks g c = c.loop-count.invariant.lacks

pub returns-in_err-taken-clause-adds : goal.returns-in_err-taken-clause-adds
returns-in_err-taken-clause-adds g c = λ takes start limits m most at pace.
    let n = c.loop-count.count in
    let room = c.min-room.result in
    let here = c.loop-count.invariant.at takes start limits m at in
    let p = err_from_is_err_and c.from_residual.result c.from_residual.ensures.1 in
    rw p.1 (pace_cut (g.K.Saves.adds start limits) c.args.session.now.batch c.loop-count.session.engine.joined.keep c.take_log.new.engine.joined.keep c.loop-count.session.unsaved (g.L.Source.left c.loop-count.log) (g.L.Source.left c.take_log.new.log) most
    (taken_on n m).log room (λ k so. c.adds_lawfully.ensures start limits _ _ k c.take_log.ensures.alike so) here.stands_at.told (c.in_err-taken.ensures.left (taken_on n m).log here.stands_at.told) (c.loop-count.invariant.adds takes start limits m most at pace))

pub returns-in_err-fill-clause-adds : goal.returns-in_err-fill-clause-adds
returns-in_err-fill-clause-adds g c = λ takes start limits m most at pace.
    let n = c.loop-count.count in
    let room = c.min-room.result in
    let here = c.loop-count.invariant.at takes start limits m at in
    let step = at_taken g.K.Rows.alike g.K.Saves.can g.K.Saves.holds g.K.Saves.ends g.K.Saves.uses g.K.Saves.rose c.saves_lawfully.ensures start limits g.R.Reducer.mode takes c.loop-count.session.engine
    c.take_log.new.engine (g.L.Source.left c.loop-count.log) (g.L.Source.left c.take_log.new.log) (taken_on n m) room c.in_ok-taken.taken here (c.in_ok-taken.ensures.took limits (taken_on n m) here.stands_at) (c.in_ok-taken.ensures.count limits (taken_on n m) here.stands_at)
    c.in_ok-taken.ensures.part c.take_log.ensures.alike c.take_log.ensures.marked in
    let taken = pace_taken (g.K.Saves.adds start limits) c.args.session.now.batch c.loop-count.session.engine.joined.keep c.take_log.new.engine.joined.keep c.loop-count.session.unsaved (g.L.Source.left c.loop-count.log) (g.L.Source.left c.take_log.new.log) most
    (taken_on n m).log room c.in_ok-taken.taken (λ k so. c.adds_lawfully.ensures start limits _ _ k c.take_log.ensures.alike so) here.stands_at.told step.stands_at.told (c.in_ok-taken.ensures.count limits (taken_on n m) here.stands_at)
    (c.loop-count.invariant.adds takes start limits m most at pace) in
    let p = err_from_is_err_and c.from_residual-in_err-fill.result c.from_residual-in_err-fill.ensures.1 in
    rw p.1 (pace_at (g.K.Saves.adds start limits) c.loop-count.session.batch c.args.session.now.batch c.fill.new.session.engine.joined.keep 0 (g.L.Source.left c.take_log.new.log) most c.loop-count.invariant.batch
    (c.in_err-fill.ensures.adds takes start limits _ (taken_on room (taken_on n m)) most step (pace_at (g.K.Saves.adds start limits) c.args.session.now.batch c.loop-count.session.batch c.take_log.new.engine.joined.keep (c.loop-count.session.unsaved + c.in_ok-taken.taken) (g.L.Source.left c.take_log.new.log) most (sym c.loop-count.invariant.batch) taken)))

pub returns-then-taken-room-clause-adds : goal.returns-then-taken-room-clause-adds
returns-then-taken-room-clause-adds g c = λ takes start limits m most at pace.
    let n = c.loop-count.count in
    let room = c.min-room.result in
    let here = c.loop-count.invariant.at takes start limits m at in
    let step = at_taken g.K.Rows.alike g.K.Saves.can g.K.Saves.holds g.K.Saves.ends g.K.Saves.uses g.K.Saves.rose c.saves_lawfully.ensures start limits g.R.Reducer.mode takes c.loop-count.session.engine
    c.take_log.new.engine (g.L.Source.left c.loop-count.log) (g.L.Source.left c.take_log.new.log) (taken_on n m) room c.in_ok-taken.taken here (c.in_ok-taken.ensures.took limits (taken_on n m) here.stands_at) (c.in_ok-taken.ensures.count limits (taken_on n m) here.stands_at)
    c.in_ok-taken.ensures.part c.take_log.ensures.alike c.take_log.ensures.marked in
    let taken = pace_taken (g.K.Saves.adds start limits) c.args.session.now.batch c.loop-count.session.engine.joined.keep c.take_log.new.engine.joined.keep c.loop-count.session.unsaved (g.L.Source.left c.loop-count.log) (g.L.Source.left c.take_log.new.log) most
    (taken_on n m).log room c.in_ok-taken.taken (λ k so. c.adds_lawfully.ensures start limits _ _ k c.take_log.ensures.alike so) here.stands_at.told step.stands_at.told (c.in_ok-taken.ensures.count limits (taken_on n m) here.stands_at)
    (c.loop-count.invariant.adds takes start limits m most at pace) in
    pace_at (g.K.Saves.adds start limits) c.loop-count.session.batch c.args.session.now.batch c.fill.new.session.engine.joined.keep c.fill.new.session.unsaved (g.L.Source.left c.take_log.new.log) most c.loop-count.invariant.batch
    (c.in_ok-fill.ensures.adds takes start limits _ (taken_on room (taken_on n m)) most step (pace_at (g.K.Saves.adds start limits) c.args.session.now.batch c.loop-count.session.batch c.take_log.new.engine.joined.keep (c.loop-count.session.unsaved + c.in_ok-taken.taken) (g.L.Source.left c.take_log.new.log) most (sym c.loop-count.invariant.batch) taken))

pub returns-clause-adds : goal.returns-clause-adds
returns-clause-adds g c = c.loop-count.invariant.adds
