use Rattle.std.proofs.Common.{◌≡◌, ℕ, ◌-◌, ◌≤◌, max, length}
use Rattle.reduce_source.specs.Sets.{standing_at}
use Rattle.reduce_source.proofs.standing.grow.Given as goal

-- no standing has changed
abbrev pub invariant-loop-standings : goal.invariant-loop-standings
invariant-loop-standings l = record {
  from : length l.initial.standings.items ≤ length l.standings.items;
  to : length l.standings.items ≤ max (length l.initial.standings.items) l.objects;
  same : (x : ℕ) → standing_at l.standings.items x ≡ standing_at l.initial.standings.items x;
}

abbrev pub decreases-loop-standings : goal.decreases-loop-standings
decreases-loop-standings l = l.objects - length l.standings.items
