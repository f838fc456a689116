use Rattle.std.proofs.Common.{◌≡◌, ◌+◌, ◌≤◌, List, length, drop, Some}
use Rattle.std.specs.List.{count_by}
use Rattle.reach_model.specs.Marks.{IsMarked}
use Rattle.reach_model.specs.Rows.{Row, firsts}
use Rattle.query_walk.specs.Links.{enters_marked}
use Rattle.query_walk.specs.Walks.{SameRows}
use Rattle.query_walk.specs.Waiting.{Waits}
use Rattle.query_walk.specs.WayBack.{IsBackAt}
use Rattle.query_walk.proofs.Observed.{AreObserved}
use Rattle.query_walk.proofs.way_back.walk_back.Given as goal

-- the rows from `below` on are done, and those of them that enter a marked object were read
abbrev pub invariant-loop-index : goal.invariant-loop-index
invariant-loop-index g l = record {
  room : l.back.waiting.rows ≡ g.W.Rows.count l.initial.rows;
  len : length l.back.marks ≡ g.W.Rows.known l.initial.rows;
  itself : IsMarked l.back.marks l.fn.of.0;
  observed : (R : List Row) → g.W.Rows.rows l.initial.rows ≡ Some R → AreObserved R (g.W.Rows.count l.initial.rows) (g.W.Rows.known l.initial.rows);
  low : l.below ≤ g.W.Rows.count l.initial.rows;
  exact : (R : List Row) → g.W.Rows.rows l.initial.rows ≡ Some R → IsBackAt (firsts R) (g.W.Rows.known l.initial.rows) l.below l.fn.of.0 l.until l.back.marks (Waits l.back.waiting) l.back.hops.items;
  steps : (R : List Row) → g.W.Rows.rows l.initial.rows ≡ Some R → l.steps ≡ l.initial.steps + count_by (enters_marked l.back.marks) (drop l.below (firsts R));
  same : SameRows g.W.Rows.rows g.W.Rows.count g.W.Rows.known l.initial.rows l.rows;
  later : g.W.Rows.faults l.initial.rows ≤ g.W.Rows.faults l.rows;
  stays : g.W.Rows.spent l.initial.rows → g.W.Rows.spent l.rows;
  alike : g.W.Rows.alike l.initial.rows l.rows;
}

abbrev pub decreases-loop-index : goal.decreases-loop-index
decreases-loop-index g l = l.below
