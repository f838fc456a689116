use Rattle.std.proofs.Common.{take, []}
use Rattle.reduced_store.specs.Taking.{HasTaken}
use Rattle.reduced_store.proofs.taking.take_rows.Given as goal

-- the rows so far were taken
abbrev pub invariant-loop-row : goal.invariant-loop-row
invariant-loop-row l = HasTaken l.fn.to l.to (record { entities = []; extends = [] }) l.around (take l.row-index l.rows)
