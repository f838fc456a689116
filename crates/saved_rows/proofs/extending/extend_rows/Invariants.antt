use Rattle.std.proofs.Common.{◌≡◌, take}
use Rattle.std.specs.List.{flat_map}
use Rattle.saved_rows.specs.Joining.{extend_of, mark_in}
use Rattle.saved_rows.proofs.extending.extend_rows.Given as goal

-- the Extend rows of the listed rows so far
abbrev pub invariant-loop-row : goal.invariant-loop-row
invariant-loop-row l = l.extends ≡ flat_map (λ k. extend_of (mark_in l.renewed.entries k) k) (take l.row-index l.row-items)
