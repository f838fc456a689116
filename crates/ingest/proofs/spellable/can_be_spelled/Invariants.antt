use Rattle.std.proofs.Common.{take}
use Rattle.std.specs.List.{All}
use Rattle.row_codec.specs.Rows.{CanBeSpelled}
use Rattle.ingest.proofs.spellable.can_be_spelled.Given as goal

-- the rows so far can be spelled
abbrev pub invariant-loop-row : goal.invariant-loop-row
invariant-loop-row l = All CanBeSpelled (take l.row-index l.rows)
