use Rattle.std.proofs.Common.{◌≡◌, ◌++◌, take}
use Rattle.std.specs.List.{flat_map, All}
use Rattle.row_codec.specs.Rows.{row, Fits}
use Rattle.row_codec.specs.declared.rows.StoreRow.TheVariants.{Extend}
use Rattle.reduced_store.proofs.spelling.write_extends.Given as goal

-- the Extend rows so far stand after the bytes, and each of them fits
abbrev pub invariant-loop-row : goal.invariant-loop-row
invariant-loop-row l = (l.to ≡ l.fn.to ++ flat_map (λ e. row (Extend e)) (take l.row-index l.rows)) × All (λ e. Fits (Extend e)) (take l.row-index l.rows)
