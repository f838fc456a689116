use Rattle.std.proofs.Common.{◌≡◌, ℕ, ◌+◌, ◌<◌, ◌≤◌, List, length, take, drop, Some}
use Rattle.std.specs.List.{count_by}
use Rattle.std.specs.Option.{IfSome}
use Rattle.reach_model.specs.Rows.{Row, firsts}
use Rattle.reach_rows.specs.Kept.{IsLastOf, Enters}
use Rattle.query_walk.specs.Links.{link_end, enters}
use Rattle.query_walk.specs.Walks.{SameRows}
use Rattle.query_walk.proofs.links.last_into_before.Given as goal

-- the link names the last row into the object before some row n, and those from n on were read
abbrev pub invariant-loop-link : goal.invariant-loop-link
invariant-loop-link g l = record {
  inside : IfSome l.link (λ i. i < g.W.Rows.count l.initial.rows);
  told : (R : List Row) → g.W.Rows.rows l.initial.rows ≡ Some R → (n : ℕ) × (n ≤ length (firsts R)) × (l.before ≤ n) × IsLastOf (take n (firsts R)) (Enters l.fn.of.0) l.link × (l.steps ≡ l.initial.steps + count_by (enters l.fn.of.0) (drop n (firsts R)));
  same : SameRows g.W.Rows.rows g.W.Rows.count g.W.Rows.known l.initial.rows l.rows;
  later : g.W.Rows.faults l.initial.rows ≤ g.W.Rows.faults l.rows;
  stays : g.W.Rows.spent l.initial.rows → g.W.Rows.spent l.rows;
  alike : g.W.Rows.alike l.initial.rows l.rows;
}

abbrev pub decreases-loop-link : goal.decreases-loop-link
decreases-loop-link g l = link_end l.link
