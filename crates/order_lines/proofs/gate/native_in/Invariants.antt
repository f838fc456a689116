use Rattle.std.proofs.Common.{◌≡◌, drop}
use Rattle.order_lines.specs.Gate.{native_in}
use Rattle.order_lines.proofs.gate.native_in.Given as goal

-- no row so far has the number
abbrev pub invariant-loop-row : goal.invariant-loop-row
invariant-loop-row l = native_in l.number l.rows ≡ native_in l.number (drop l.row-index l.rows)
