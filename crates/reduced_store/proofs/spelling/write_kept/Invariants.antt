use Rattle.std.proofs.Common.{◌≡◌, ◌++◌, take}
use Rattle.std.specs.List.{flat_map, All}
use Rattle.row_codec.specs.Rows.{row, Fits}
use Rattle.saved_rows.specs.Saved.{as_kept}
use Rattle.reduced_store.proofs.spelling.write_kept.Given as goal

-- the Kept rows of the rows so far stand after the bytes, and each of them fits
abbrev pub invariant-loop-row : goal.invariant-loop-row
invariant-loop-row l = (l.to ≡ l.fn.to ++ flat_map (λ r. row (as_kept r)) (take l.row-index l.rows)) × All (λ r. Fits (as_kept r)) (take l.row-index l.rows)
