use Rattle.std.proofs.Common.{◌≡◌, ℕ, ◌/◌, ◌<◌, ◌≤◌, ◌↔◌, ◌⊎◌, length}
use Rattle.reduce_source.specs.BitsOf.{HasBit}
use Rattle.reduce_source.specs.Pools.{AreHeldIn, ChangesBoth, words_at}
use Rattle.reduce_source.proofs.ids.Ids.join.Given as goal

-- the blocks of the pages so far are joined, and those of the others are as before
abbrev pub invariant-loop-place : goal.invariant-loop-place
invariant-loop-place l = record {
  done : (k : ℕ) → k / 16 < l.place → (j : ℕ) → HasBit (words_at l.pools l.self-inside.ids.items k) j
      ↔ (HasBit (words_at l.initial.pools l.initial.self-inside.ids.items k) j ⊎ HasBit (words_at l.initial.pools l.more k) j);
  words : (k : ℕ) → l.place ≤ k / 16 → words_at l.pools l.self-inside.ids.items k ≡ words_at l.initial.pools l.initial.self-inside.ids.items k;
  held : AreHeldIn l.object l.pools l.self-inside.ids.items;
  places : length l.self-inside.ids.items ≡ length l.initial.self-inside.ids.items;
  changes : ChangesBoth l.object l.place l.initial.pools l.pools;
}
