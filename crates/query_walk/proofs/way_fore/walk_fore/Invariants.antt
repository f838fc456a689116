use Rattle.std.proofs.Common.{◌≡◌, ◌+◌, ◌-◌, ◌≤◌, ◌^◌, List, length, Some}
use Rattle.std.specs.List.{count_by}
use Rattle.reach_model.specs.Marks.{IsMarked}
use Rattle.reach_model.specs.Rows.{Row, firsts, lasts}
use Rattle.query_walk.specs.Links.{leaves_marked}
use Rattle.query_walk.specs.Walks.{SameRows}
use Rattle.query_walk.specs.Arrivals.{AreAtBelow, IsDue, place_after}
use Rattle.query_walk.specs.WayFore.{IsForeAt}
use Rattle.query_walk.proofs.Observed.{AreObserved}
use Rattle.query_walk.proofs.way_fore.walk_fore.Given as goal

-- the flows up to the place are done, and the rows that leave a marked object were read
abbrev pub invariant-loop-next : goal.invariant-loop-next
invariant-loop-next g l = record {
  len : length l.fore.marks ≡ g.W.Rows.known l.fn.rows;
  itself : IsMarked l.fore.marks l.fn.of.0;
  observed : (R : List Row) → g.W.Rows.rows l.fn.rows ≡ Some R → AreObserved R (length (firsts R)) (g.W.Rows.known l.fn.rows);
  below : AreAtBelow (g.W.Rows.known l.fn.rows) (IsDue l.fore.waiting);
  exact : (R : List Row) → g.W.Rows.rows l.fn.rows ≡ Some R → IsForeAt (lasts R) (g.W.Rows.known l.fn.rows) (place_after l.after) l.fn.of.0 l.since l.fore.marks (IsDue l.fore.waiting);
  steps : (R : List Row) → g.W.Rows.rows l.fn.rows ≡ Some R → l.steps ≡ l.fn.steps + count_by (leaves_marked l.fore.marks) (firsts R);
  same : SameRows g.W.Rows.rows g.W.Rows.count g.W.Rows.known l.fn.rows l.rows;
  later : g.W.Rows.faults l.fn.rows ≤ g.W.Rows.faults l.rows;
  stays : g.W.Rows.spent l.fn.rows → g.W.Rows.spent l.rows;
  alike : g.W.Rows.alike l.fn.rows l.rows;
}

abbrev pub decreases-loop-next : goal.decreases-loop-next
decreases-loop-next g l = 2 ^ 64 - place_after l.after
