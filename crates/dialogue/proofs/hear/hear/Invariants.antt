use Rattle.std.proofs.Common.{false, ◌≡◌, ◌*◌, ℕ, length, take, ◌+◌, ◌-◌, ◌≤◌, Ok}
use Rattle.flow_base.specs.declared.limits.Limits.{Limits}
use Rattle.audit_lex.specs.History.{History}
use Rattle.dialogue.specs.declared.halt.Turn.TheVariants as turn
use Rattle.dialogue.specs.Dialogue.{Moment, nothing_beyond}
use Rattle.dialogue.specs.Course.{kind_of, At, GoesUp}
use Rattle.dialogue.specs.Hearing.{Holds, Heard}
use Rattle.dialogue.specs.Settles.{settles_since}
use Rattle.dialogue.specs.Saves.{KeepsPace, Start}
use Rattle.dialogue.proofs.hear.hear.Given as goal

-- the first `at` bytes were heard
abbrev pub invariant-loop-at : goal.invariant-loop-at
invariant-loop-at g l =
    let source = g.L.Source in
    let sink = g.O.Sink in
    record {
      within : l.at ≤ length l.piece;
      lines : l.cut.lines ≤ l.initial.cut.lines + l.at;
      heard : (start : Start g.row.K.Denot) (limits : Limits) (m : Moment) (h : History) → At (kind_of g.R.Reducer.mode l.takes (g.K.Saves.holds start limits)) limits l.initial.session.engine (source.left l.initial.log) m → Holds limits l.initial.cut h →
          Heard (kind_of g.R.Reducer.mode l.takes (g.K.Saves.holds start limits)) limits nothing_beyond l.cut l.session.engine (source.left l.log) (sink.written l.initial.out) (sink.written l.out) (Ok turn.More) m h (take l.at l.piece);
      lacks : (start : Start g.row.K.Denot) (limits : Limits) (m : Moment) (h : History) → At (kind_of g.R.Reducer.mode l.takes (g.K.Saves.holds start limits)) limits l.initial.session.engine (source.left l.initial.log) m → Holds limits l.initial.cut h
          → g.K.Saves.lacks start limits g.R.Reducer.mode l.initial.session.engine.joined.keep (source.left l.initial.log) l.initial.session.unsaved
          → g.K.Saves.lacks start limits g.R.Reducer.mode l.session.engine.joined.keep (source.left l.log) l.session.unsaved;
      adds : (start : Start g.row.K.Denot) (limits : Limits) (m : Moment) (h : History) (most : ℕ) → At (kind_of g.R.Reducer.mode l.takes (g.K.Saves.holds start limits)) limits l.initial.session.engine (source.left l.initial.log) m → Holds limits l.initial.cut h
          → KeepsPace (g.K.Saves.adds start limits) l.initial.session.batch l.initial.session.engine.joined.keep l.initial.session.unsaved (source.left l.initial.log) most
          → KeepsPace (g.K.Saves.adds start limits) l.initial.session.batch l.session.engine.joined.keep l.session.unsaved (source.left l.log) (most + settles_since limits h (take l.at l.piece) * l.initial.session.batch);
      batch : l.session.batch ≡ l.initial.session.batch;
      can : g.K.Saves.can l.session.engine.joined.keep;
      uses : g.K.Saves.uses l.initial.session.engine.joined.keep l.session.engine.joined.keep;
      alike : l.takes ≡ false → g.K.Rows.alike l.initial.session.engine.joined.keep l.session.engine.joined.keep;
      log : GoesUp (source.faults l.initial.log) (source.faults l.log) (source.spent l.initial.log) (source.spent l.log);
      out : GoesUp (sink.faults l.initial.out) (sink.faults l.out) (sink.spent l.initial.out) (sink.spent l.out);
    }

abbrev pub decreases-loop-at : goal.decreases-loop-at
decreases-loop-at g l = length l.piece - l.at
