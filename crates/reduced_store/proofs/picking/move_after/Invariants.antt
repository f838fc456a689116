use Rattle.std.proofs.Common.{◌≡◌, ◌++◌, reverse, length}
use Rattle.reduced_store.proofs.picking.move_after.Given as goal

-- what was moved, and the rest after it
abbrev pub invariant-loop-row : goal.invariant-loop-row
invariant-loop-row l = l.to ++ reverse l.turned ≡ l.initial.to ++ reverse l.initial.turned

abbrev pub decreases-loop-row : goal.decreases-loop-row
decreases-loop-row l = length l.turned
