use Rattle.std.proofs.Common.{◌≡◌, ℕ, ◌<◌, ◌≤◌, length, get_or, bit_or}
use Rattle.reduce_source.proofs.block.Block.union.Given as goal

-- the words so far are joined, and the others are as before
abbrev pub invariant-loop-place : goal.invariant-loop-place
invariant-loop-place l = record {
  len : length l.words ≡ 8;
  done : (k : ℕ) → k < l.place → get_or l.words k 0 ≡ bit_or (get_or l.self.words k 0) (get_or l.other.words k 0);
  rest : (k : ℕ) → l.place ≤ k → get_or l.words k 0 ≡ get_or l.self.words k 0;
}
