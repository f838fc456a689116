use Rattle.std.proofs.Common.{◌≡◌, ◌++◌, take}
use Rattle.std.specs.List.{flat_map, All}
use Rattle.row_codec.specs.State.{bad, FitsBad}
use Rattle.row_codec.proofs.tail.put_listed.Given as goal

-- the malformed lines so far stand after the bytes, and each of them fits
abbrev pub invariant-loop-bad : goal.invariant-loop-bad
invariant-loop-bad l = (l.to ≡ l.fn.to ++ flat_map bad (take l.bad-index l.listed)) × All FitsBad (take l.bad-index l.listed)
