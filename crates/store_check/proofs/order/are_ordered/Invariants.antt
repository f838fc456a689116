use Rattle.std.proofs.Common.{ℕ, ◌+◌, ◌<◌, ◌≤◌, slice_index_or}
use Rattle.row_codec.specs.declared.rows.StoreRow.{StoreRow}
use Rattle.store_check.specs.Order.{MayFollow}
use Rattle.store_check.proofs.order.are_ordered.Given as goal

-- each row below i stands after the one before it
abbrev pub invariant-loop-i : goal.invariant-loop-i
invariant-loop-i l = (k : ℕ) (d : StoreRow) → k + 1 < l.i → MayFollow (slice_index_or l.rows k d) (slice_index_or l.rows (k + 1) d)
