use Rattle.std.proofs.Common.{◌≡◌, ◌≤◌, List, take, Some}
use Rattle.reach_model.specs.Rows.{Row}
use Rattle.query_walk.specs.Walks.{SameRows}
use Rattle.kept_flows.specs.KeptFlows.{AreCounted}
use Rattle.kept_flows.proofs.restoring.recall_all.Given as goal

-- the tables hold the rows so far, and are theirs if they are told
abbrev pub invariant-loop-index : goal.invariant-loop-index
invariant-loop-index g l = record {
  held : (S : List Row) × AreCounted S l.index (g.W.Rows.known l.initial.rows) × g.M.Reducer.holds l.reducer S;
  stands : (R : List Row) → g.W.Rows.rows l.initial.rows ≡ Some R → g.M.Reducer.stands_for l.reducer (take l.index R);
  holds : (R : List Row) → g.W.Rows.rows l.initial.rows ≡ Some R → g.M.Reducer.holds l.reducer (take l.index R);
  same : SameRows g.W.Rows.rows g.W.Rows.count g.W.Rows.known l.initial.rows l.rows;
  later : g.W.Rows.faults l.initial.rows ≤ g.W.Rows.faults l.rows;
  stays : g.W.Rows.spent l.initial.rows → g.W.Rows.spent l.rows;
  alike : g.W.Rows.alike l.initial.rows l.rows;
}
