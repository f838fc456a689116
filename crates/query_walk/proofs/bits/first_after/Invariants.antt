use Rattle.std.proofs.Common.{ℕ, ◌+◌, ◌*◌, ◌/◌, ◌<◌, ◌≤◌}
use Rattle.query_walk.specs.Bits.{IsSet}
use Rattle.query_walk.proofs.bits.first_after.Given as goal

-- none of the words so far has a place that is set
abbrev pub invariant-loop-index : goal.invariant-loop-index
invariant-loop-index l = (p : ℕ) → 64 * l.word + 64 ≤ p → p / 64 < l.index → ¬ IsSet l.words p
