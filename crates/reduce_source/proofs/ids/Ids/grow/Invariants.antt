use Rattle.std.proofs.Common.{◌≡◌, ℕ, ◌-◌, ◌≤◌, length, max, get_or}
use Rattle.reduce_source.proofs.ids.Ids.grow.Given as goal

-- no id has changed, and none is gone
abbrev pub invariant-loop-self : goal.invariant-loop-self
invariant-loop-self l = record {
  longer : length l.initial.self-inside.ids.items ≤ length l.self-inside.ids.items;
  most : length l.self-inside.ids.items ≤ max (length l.initial.self-inside.ids.items) l.places;
  same : (place : ℕ) → get_or l.self-inside.ids.items place 0 ≡ get_or l.initial.self-inside.ids.items place 0;
}

abbrev pub decreases-loop-self : goal.decreases-loop-self
decreases-loop-self l = l.places - length l.self-inside.ids.items
