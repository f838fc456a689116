use Rattle.std.proofs.Common.{◌≡◌, ◌≤◌, ◌+◌, true, length, min, take}
use Rattle.std.specs.List.{list_any}
use Rattle.flow_base.specs.declared.types.Key.{Key}
use Rattle.flow_base.specs.contracts.types.KeyPartialEq.TheImpl.{ghosts}
use Rattle.entity_names.specs.Known.{names_at, saved_at, capacity_at}
use Rattle.entity_names.proofs.entities.Entities.reserve.Given as goal

-- the names stay, and the keys so far have their room
abbrev pub invariant-loop-key : goal.invariant-loop-key
invariant-loop-key l = record {
  rest : l.self ≡ record l.fn.self { names = l.self.names };
  names : (k : Key) → names_at l.self k ≡ names_at l.fn.self k;
  saved : (k : Key) → saved_at l.self k ≡ saved_at l.fn.self k;
  room : (k : Key) → list_any (ghosts.eq k) (take l.key-index l.named) ≡ true → min l.fn.self.most_names (length (names_at l.fn.self k) + length l.named) ≤ capacity_at l.self k;
}
