use Rattle.std.proofs.Common.{ℕ, ◌<◌, ◌/◌}
use Rattle.reduce_source.specs.BitsOf.{HasBit}
use Rattle.reduce_source.proofs.block.Block.is_within.Given as goal

-- no bit of the words so far is missing
abbrev pub invariant-loop-place : goal.invariant-loop-place
invariant-loop-place l = (j : ℕ) → j / 64 < l.place → HasBit l.self.words j → HasBit l.large.words j
