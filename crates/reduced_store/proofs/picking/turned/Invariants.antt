use Rattle.std.proofs.Common.{◌≡◌, ◌++◌, reverse, length}
use Rattle.reduced_store.proofs.picking.turned.Given as goal

-- the rows so far, turned, and then the rest
abbrev pub invariant-loop-row : goal.invariant-loop-row
invariant-loop-row l = l.turned ++ reverse l.rows ≡ reverse l.initial.rows

abbrev pub decreases-loop-row : goal.decreases-loop-row
decreases-loop-row l = length l.rows
