use Rattle.std.proofs.Common.{ℕ, ◌<◌, get_or}
use Rattle.reduce_source.specs.BitsOf.{HasBit}
use Rattle.reduce_source.specs.Blocks.{words_of}
use Rattle.reduce_source.proofs.page.Page.is_within.Given as goal

-- no bit of the blocks so far is missing
abbrev pub invariant-loop-place : goal.invariant-loop-place
invariant-loop-place l = (k j : ℕ) → k < l.place → HasBit (words_of l.slots (get_or l.self.ids k 0)) j → HasBit (words_of l.slots (get_or l.large.ids k 0)) j
