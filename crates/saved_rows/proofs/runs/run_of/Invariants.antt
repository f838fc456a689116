use Rattle.std.proofs.Common.{◌<◌, ◌≤◌, ◌-◌, length, slice_index_or}
use Rattle.saved_rows.specs.declared.runs.Run.{Run}
use Rattle.saved_rows.proofs.runs.run_of.Given as goal

-- the run at low doesn't begin after the row, and that at high, if there is one, does
abbrev pub invariant-loop-high : goal.invariant-loop-high
invariant-loop-high l = record {
  low : l.low < l.high;
  high : l.high ≤ length l.runs;
  begun : (d : Run) → (slice_index_or l.runs l.low d).first ≤ l.index;
  before : (d : Run) → l.high < length l.runs → l.index < (slice_index_or l.runs l.high d).first;
}

abbrev pub decreases-loop-high : goal.decreases-loop-high
decreases-loop-high l = l.high - l.low
