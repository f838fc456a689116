use Rattle.std.proofs.Common.{◌≡◌, ◌++◌, take}
use Rattle.saved_rows.proofs.settling.remember.Given as goal

-- the rows so far are remembered
abbrev pub invariant-loop-row : goal.invariant-loop-row
invariant-loop-row l = l.kept.rows ≡ l.fn.kept.rows ++ take l.row-index l.rows
