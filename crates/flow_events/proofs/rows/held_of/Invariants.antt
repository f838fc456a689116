use Rattle.std.proofs.Common.{◌≡◌, ◌==◌, ℕ, None}
use Rattle.std.specs.Prelude.{if◌then◌else◌}
use Rattle.std.specs.List.{list_any}
use Rattle.std.specs.List.Sorted.{IsStrictlySortedBy}
use Rattle.std.specs.Map.{keys_of}
use Rattle.store_check.specs.Store.{newer}
use Rattle.flow_events.specs.Rows.{found, live_word, slot_cmp}
use Rattle.flow_events.proofs.rows.held_of.Given as goal

-- what the pids so far hold
abbrev pub invariant-loop-pid : goal.invariant-loop-pid
invariant-loop-pid l = record {
  found_is : (q : ℕ × ℕ) → found slot_cmp l.held.entries q ≡ newer (found slot_cmp l.initial.held.entries q) (if list_any (λ pid. q.0 == pid.now) l.yielded then live_word l.since l.lives.entries l.fds q else None);
  sorted : IsStrictlySortedBy slot_cmp (keys_of l.held.entries);
}
