use Rattle.std.proofs.Common.{◌≡◌, ◌++◌, length, reverse}
use Rattle.flow_events.proofs.parts.newest_first.Given as goal

-- the items that were turned stood last
abbrev pub invariant-loop-item : goal.invariant-loop-item
invariant-loop-item g l = l.fn.items ≡ l.items ++ reverse l.turned

abbrev pub decreases-loop-item : goal.decreases-loop-item
decreases-loop-item g l = length l.items
