use Rattle.std.proofs.Common.{◌≡◌, ◌++◌, length}
use Rattle.std.specs.List.{flat_map, All}
use Rattle.row_codec.specs.Rows.{row, Fits}
use Rattle.row_codec.proofs.payload.all_rows.Given as goal

-- the bytes are the spellings of the rows so far, and what is left
abbrev pub invariant-loop-rest : goal.invariant-loop-rest
invariant-loop-rest l = All Fits l.rows × (l.bytes ≡ flat_map row l.rows ++ l.rest)

-- each row takes a byte at least
abbrev pub decreases-loop-rest : goal.decreases-loop-rest
decreases-loop-rest l = length l.rest
