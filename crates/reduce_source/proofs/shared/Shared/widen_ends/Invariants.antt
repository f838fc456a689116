use Rattle.std.proofs.Common.{◌≡◌, ◌↔◌, ℕ, ◌<◌, length, get_or}
use Rattle.flow_base.specs.declared.types.Flow.{Flow}
use Rattle.reduce_source.specs.Shelves.{HasNumber, IsWide}
use Rattle.reduce_source.proofs.shared.Shared.widen_ends.Given as goal

-- the ends of the flows so far have all pages
abbrev pub invariant-loop-flow : goal.invariant-loop-flow
invariant-loop-flow l = record {
  wide : (k : ℕ) (d : Flow) → k < l.flow-index → IsWide l.self (get_or l.flows k d);
  same : (v n : ℕ) → HasNumber l.self v n ↔ HasNumber l.initial.self v n;
  objects : length l.self.sets.items ≡ length l.initial.self.sets.items;
  pools : l.self.pools ≡ l.initial.self.pools;
  width : l.self.width ≡ l.initial.self.width;
}
