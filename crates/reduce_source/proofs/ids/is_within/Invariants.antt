use Rattle.std.proofs.Common.{ℕ, ◌/◌, ◌<◌}
use Rattle.reduce_source.specs.Pools.{Has}
use Rattle.reduce_source.proofs.ids.is_within.Given as goal

-- no number of the pages so far is missing
abbrev pub invariant-loop-place : goal.invariant-loop-place
invariant-loop-place l = (n : ℕ) → n / 8192 < l.place → Has l.pools l.small n → Has l.pools l.large n
