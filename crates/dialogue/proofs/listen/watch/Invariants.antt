use Rattle.std.proofs.Common.{false, ◌≡◌, ◌+◌, ◌*◌, ℕ, List, [], length, take, drop, ◌-◌, ◌≤◌, Some, Ok}
use Rattle.dialogue.specs.declared.halt.Turn.TheVariants as turn
use Rattle.dialogue.specs.Dialogue.{Moment, nothing_beyond}
use Rattle.dialogue.specs.Course.{kind_of, At, GoesUp}
use Rattle.dialogue.specs.Hearing.{Heard}
use Rattle.dialogue.specs.Settles.{settles_since}
use Rattle.dialogue.specs.Saves.{KeepsPace, Start}
use Rattle.dialogue.proofs.listen.watch.Given as goal

-- the first `heard` bytes of the questions were heard, and the rest is left
abbrev pub invariant-loop-buf : goal.invariant-loop-buf
invariant-loop-buf g l =
    let log = g.L.Source in
    let questions = g.Q.Source in
    let sink = g.O.Sink in
    record {
      within : l.heard ≤ l.limits.input;
      room : length l.buf.items ≡ 65536;
      lines : l.cut.lines ≤ l.heard;
      left : (q : List ℕ) → questions.left l.initial.questions ≡ Some q → questions.left l.questions ≡ Some (drop l.heard q);
      part : (q : List ℕ) → questions.left l.initial.questions ≡ Some q → l.heard ≤ length q;
      heard : (start : Start g.row.K.Denot) (m : Moment) (q : List ℕ) → At (kind_of g.R.Reducer.mode l.takes (g.K.Saves.holds start l.limits)) l.limits l.initial.session.engine (log.left l.initial.log) m → questions.left l.initial.questions ≡ Some q →
          Heard (kind_of g.R.Reducer.mode l.takes (g.K.Saves.holds start l.limits)) l.limits nothing_beyond l.cut l.session.engine (log.left l.log) (sink.written l.initial.out) (sink.written l.out) (Ok turn.More) m [] (take l.heard q);
      lacks : (start : Start g.row.K.Denot) (m : Moment) (q : List ℕ) → At (kind_of g.R.Reducer.mode l.takes (g.K.Saves.holds start l.limits)) l.limits l.initial.session.engine (log.left l.initial.log) m → questions.left l.initial.questions ≡ Some q
          → g.K.Saves.lacks start l.limits g.R.Reducer.mode l.initial.session.engine.joined.keep (log.left l.initial.log) l.initial.session.unsaved
          → g.K.Saves.lacks start l.limits g.R.Reducer.mode l.session.engine.joined.keep (log.left l.log) l.session.unsaved;
      adds : (start : Start g.row.K.Denot) (m : Moment) (q : List ℕ) (most : ℕ) → At (kind_of g.R.Reducer.mode l.takes (g.K.Saves.holds start l.limits)) l.limits l.initial.session.engine (log.left l.initial.log) m → questions.left l.initial.questions ≡ Some q
          → KeepsPace (g.K.Saves.adds start l.limits) l.initial.session.batch l.initial.session.engine.joined.keep l.initial.session.unsaved (log.left l.initial.log) most
          → KeepsPace (g.K.Saves.adds start l.limits) l.initial.session.batch l.session.engine.joined.keep l.session.unsaved (log.left l.log) (most + settles_since l.limits [] (take l.heard q) * l.initial.session.batch);
      batch : l.session.batch ≡ l.initial.session.batch;
      can : g.K.Saves.can l.session.engine.joined.keep;
      uses : g.K.Saves.uses l.initial.session.engine.joined.keep l.session.engine.joined.keep;
      alike : l.takes ≡ false → g.K.Rows.alike l.initial.session.engine.joined.keep l.session.engine.joined.keep;
      log_up : GoesUp (log.faults l.initial.log) (log.faults l.log) (log.spent l.initial.log) (log.spent l.log);
      questions_up : GoesUp (questions.faults l.initial.questions) (questions.faults l.questions) (questions.spent l.initial.questions) (questions.spent l.questions);
      out_up : GoesUp (sink.faults l.initial.out) (sink.faults l.out) (sink.spent l.initial.out) (sink.spent l.out);
    }

abbrev pub decreases-loop-buf : goal.decreases-loop-buf
decreases-loop-buf g l = l.limits.input - l.heard
