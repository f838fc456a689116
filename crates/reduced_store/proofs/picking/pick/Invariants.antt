use Rattle.std.proofs.Common.{◌≡◌, ◌++◌, reverse, length}
use Rattle.std.specs.Prelude.{filter}
use Rattle.reduced_store.specs.Reading.{is_of_table, closes}
use Rattle.reduced_store.proofs.picking.pick.Given as goal

-- what was moved, and of the rest what belongs after it
abbrev pub invariant-loop-row : goal.invariant-loop-row
invariant-loop-row l =
    (l.tables ++ filter is_of_table (reverse l.turned) ≡ l.initial.tables ++ filter is_of_table (reverse l.initial.turned))
    × (l.closing ++ filter closes (reverse l.turned) ≡ l.initial.closing ++ filter closes (reverse l.initial.turned))

abbrev pub decreases-loop-row : goal.decreases-loop-row
decreases-loop-row l = length l.turned
