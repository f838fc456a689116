use Rattle.std.proofs.Common.{Bool, ℕ, ◌≡◌, ◌≤◌, ◌-◌, length}
use Rattle.flow_base.specs.declared.limits.Limits.{Limits}
use Rattle.dialogue.specs.Dialogue.{Moment, taken_on}
use Rattle.dialogue.specs.Course.{At, GoesUp, kind_of}
use Rattle.dialogue.specs.Saves.{KeepsPace, Start}
use Rattle.dialogue.proofs.saving.take.Given as goal

-- the first `count` bytes were taken
abbrev pub invariant-loop-count : goal.invariant-loop-count
invariant-loop-count g l =
    let source = g.L.Source in
    let saves = g.K.Saves in
    record {
      within : l.count ≤ l.most;
      can : saves.can l.session.engine.joined.keep;
      at : (takes : Bool) (start : Start g.row.K.Denot) (limits : Limits) (m : Moment) → At (kind_of g.R.Reducer.mode takes (saves.holds start limits)) limits l.initial.session.engine (source.left l.initial.log) m
          → At (kind_of g.R.Reducer.mode takes (saves.holds start limits)) limits l.session.engine (source.left l.log) (taken_on l.count m);
      part : (takes : Bool) (start : Start g.row.K.Denot) (limits : Limits) (m : Moment) → At (kind_of g.R.Reducer.mode takes (saves.holds start limits)) limits l.initial.session.engine (source.left l.initial.log) m → l.count ≤ length m.log;
      lacks : (takes : Bool) (start : Start g.row.K.Denot) (limits : Limits) (m : Moment) → At (kind_of g.R.Reducer.mode takes (saves.holds start limits)) limits l.initial.session.engine (source.left l.initial.log) m
          → saves.lacks start limits g.R.Reducer.mode l.initial.session.engine.joined.keep (source.left l.initial.log) l.initial.session.unsaved
          → saves.lacks start limits g.R.Reducer.mode l.session.engine.joined.keep (source.left l.log) l.session.unsaved;
      adds : (takes : Bool) (start : Start g.row.K.Denot) (limits : Limits) (m : Moment) (most : ℕ) → At (kind_of g.R.Reducer.mode takes (saves.holds start limits)) limits l.initial.session.engine (source.left l.initial.log) m
          → KeepsPace (saves.adds start limits) l.initial.session.batch l.initial.session.engine.joined.keep l.initial.session.unsaved (source.left l.initial.log) most
          → KeepsPace (saves.adds start limits) l.initial.session.batch l.session.engine.joined.keep l.session.unsaved (source.left l.log) most;
      batch : l.session.batch ≡ l.initial.session.batch;
      uses : saves.uses l.initial.session.engine.joined.keep l.session.engine.joined.keep;
      counts : GoesUp (source.faults l.initial.log) (source.faults l.log) (source.spent l.initial.log) (source.spent l.log);
    }

abbrev pub decreases-loop-count : goal.decreases-loop-count
decreases-loop-count g l = l.most - l.count
