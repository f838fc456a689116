use Rattle.std.proofs.Common.{◌≡◌, ◌<◌, ◌≤◌, List, length, Some}
use Rattle.std.specs.Option.{IfSome}
use Rattle.reach_model.specs.Rows.{Row}
use Rattle.reach_rows.specs.Kept.{AreRows}
use Rattle.query_walk.specs.Links.{link_end}
use Rattle.query_walk.specs.Walks.{SameRows}
use Rattle.query_walk.specs.Arrivals.{AreAtBelow, IsDue, place_after}
use Rattle.query_walk.proofs.Leaving.{IsLeftAt}
use Rattle.query_walk.proofs.way_fore.leave.Given as goal

-- the rows out of the object that the link leads past were read, and their arrivals wait
abbrev pub invariant-loop-link : goal.invariant-loop-link
invariant-loop-link g l = record {
  inside : IfSome l.link (λ i. i < g.W.Rows.count l.initial.rows);
  lawful : (R : List Row) → g.W.Rows.rows l.initial.rows ≡ Some R → AreRows R;
  counted : (R : List Row) → g.W.Rows.rows l.initial.rows ≡ Some R → length R ≡ g.W.Rows.count l.initial.rows;
  below : AreAtBelow (g.W.Rows.known l.initial.rows) (IsDue l.initial.waiting) → AreAtBelow (g.W.Rows.known l.initial.rows) (IsDue l.waiting);
  told : (R : List Row) → g.W.Rows.rows l.initial.rows ≡ Some R → IsLeftAt R l.marks l.fn.of.0 (place_after l.after) l.since l.link (IsDue l.initial.waiting) (IsDue l.waiting) l.initial.steps l.steps;
  same : SameRows g.W.Rows.rows g.W.Rows.count g.W.Rows.known l.initial.rows l.rows;
  later : g.W.Rows.faults l.initial.rows ≤ g.W.Rows.faults l.rows;
  stays : g.W.Rows.spent l.initial.rows → g.W.Rows.spent l.rows;
  alike : g.W.Rows.alike l.initial.rows l.rows;
}

abbrev pub decreases-loop-link : goal.decreases-loop-link
decreases-loop-link g l = link_end l.link
