use Rattle.std.proofs.Common.{◌≡◌, ◌==◌, ℕ, length, None}
use Rattle.std.specs.Prelude.{◌||◌, if◌then◌else◌}
use Rattle.std.specs.List.Sorted.{IsStrictlySortedBy}
use Rattle.std.specs.Map.{keys_of}
use Rattle.store_check.specs.Store.{newer}
use Rattle.flow_events.specs.Rows.{found, only_if, slot_cmp, touched_word}
use Rattle.flow_events.specs.Since.{is_touched}
use Rattle.flow_events.proofs.Holding.{entry_word}
use Rattle.flow_events.proofs.rows.put_entries.Given as goal

-- with the entries that are left it is what it will be
abbrev pub invariant-loop-entry : goal.invariant-loop-entry
invariant-loop-entry l = record {
  found_is : (q : ℕ × ℕ) → newer (found slot_cmp l.held.entries q) (if l.pid == q.0 then only_if (l.all || is_touched l.since q) (entry_word l.entries q.1) else None) ≡ newer (found slot_cmp l.fn.held.entries q) (if l.pid == q.0 then touched_word l.all l.since l.fds q else None);
  sorted : IsStrictlySortedBy slot_cmp (keys_of l.fn.held.entries) → IsStrictlySortedBy slot_cmp (keys_of l.held.entries);
}

abbrev pub decreases-loop-entry : goal.decreases-loop-entry
decreases-loop-entry l = length l.entries
