use Rattle.std.proofs.Common.{take}
use Rattle.flow_events.specs.Filling.{HasRows, IsWithin}
use Rattle.flow_events.proofs.filled.fill_all.Given as goal

-- what the rows so far say was taken
abbrev pub invariant-loop-row : goal.invariant-loop-row
invariant-loop-row l = record {
  rows : HasRows l.filled (take l.row-index l.rows);
  within : IsWithin l.fn.limits l.filled;
}
