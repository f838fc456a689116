use Rattle.std.proofs.Common.{◌≡◌, ℕ, ◌<◌, ◌≤◌, ◌↔◌, ◌⊎◌, length, get_or}
use Rattle.reduce_source.specs.BitsOf.{HasBit}
use Rattle.reduce_source.specs.Blocks.{words_of}
use Rattle.reduce_source.specs.Pages.{PutsPage}
use Rattle.reduce_source.proofs.page.Page.join.Given as goal

-- the blocks of the places so far are joined, and those of the others and their ids are as before
abbrev pub invariant-loop-place : goal.invariant-loop-place
invariant-loop-place l = record {
  len : length l.ids ≡ 16;
  done : (k : ℕ) → k < l.place → (j : ℕ) → HasBit (words_of l.blocks.slots.items (get_or l.ids k 0)) j
      ↔ (HasBit (words_of l.initial.blocks.slots.items (get_or l.self.ids k 0)) j ⊎ HasBit (words_of l.initial.blocks.slots.items (get_or l.other.ids k 0)) j);
  rest : (k : ℕ) → l.place ≤ k → get_or l.ids k 0 ≡ get_or l.self.ids k 0;
  words : (k : ℕ) → l.place ≤ k → k < 16 → words_of l.blocks.slots.items (get_or l.ids k 0) ≡ words_of l.initial.blocks.slots.items (get_or l.self.ids k 0);
  puts : PutsPage l.object l.place (λ k. get_or l.self.ids k 0) (λ k. get_or l.ids k 0) l.initial.blocks.slots l.blocks.slots;
}
