use Rattle.std.proofs.Common.{ℕ, List, Some, length, ◌-◌, ◌≤◌, ◌≡◌}
use Rattle.flow_base.specs.declared.limits.Limits.{Limits}
use Rattle.dialogue.specs.Dialogue.{Moment, taken_on}
use Rattle.dialogue.specs.Course.{CountsOn, GoesUp, StandsAt}
use Rattle.dialogue.specs.Saves.{LeavesAllBut}
use Rattle.dialogue.proofs.log.take_log.Given as goal

-- the first `count` bytes were taken
abbrev pub invariant-loop-count : goal.invariant-loop-count
invariant-loop-count g l =
    let source = g.L.Source in
    record {
      within : l.count ≤ l.most;
      at : (limits : Limits) (m : Moment) → StandsAt limits l.initial.engine (source.left l.initial.log) m → StandsAt limits l.engine (source.left l.log) (taken_on l.count m);
      part : (limits : Limits) (m : Moment) → StandsAt limits l.initial.engine (source.left l.initial.log) m → l.count ≤ length m.log;
      left : (bytes : List ℕ) → source.left l.initial.log ≡ Some bytes → LeavesAllBut l.count bytes (source.left l.log);
      counted : CountsOn l.initial.engine.part l.engine.part l.count;
      alike : g.K.Rows.alike l.initial.engine.joined.keep l.engine.joined.keep;
      marked : l.engine.joined.tables.marked ≡ l.initial.engine.joined.tables.marked;
      counts : GoesUp (source.faults l.initial.log) (source.faults l.log) (source.spent l.initial.log) (source.spent l.log);
    }

abbrev pub decreases-loop-count : goal.decreases-loop-count
decreases-loop-count g l = l.most - l.count
