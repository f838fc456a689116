use Rattle.std.proofs.Common.{◌≡◌, ℕ, ◌-◌, ◌≤◌, [], length, get_or}
use Rattle.reduce_source.proofs.shared.Shared.grow.Given as goal

-- no list of ids has changed
abbrev pub invariant-loop-alloc : goal.invariant-loop-alloc
invariant-loop-alloc l = record {
  more : length l.initial.self.sets.items ≤ length l.self.sets.items;
  places : (v : ℕ) → get_or l.self.sets.items v [] ≡ get_or l.initial.self.sets.items v [];
  pools : l.self.pools ≡ l.initial.self.pools;
  width : l.self.width ≡ l.initial.self.width;
}

abbrev pub decreases-loop-alloc : goal.decreases-loop-alloc
decreases-loop-alloc l = l.objects - length l.self.sets.items
