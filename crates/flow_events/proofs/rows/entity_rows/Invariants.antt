use Rattle.std.proofs.Common.{◌≡◌, ◌++◌, map, length, reverse}
use Rattle.row_codec.specs.declared.rows.StoreRow.TheVariants as row
use Rattle.flow_events.proofs.rows.entity_rows.Given as goal

-- the rows so far are those of the keys that are gone
abbrev pub invariant-loop-key : goal.invariant-loop-key
invariant-loop-key l = map row.Entity l.fn.keys ≡ l.rows ++ map row.Entity (reverse l.keys)

abbrev pub decreases-loop-key : goal.decreases-loop-key
decreases-loop-key l = length l.keys
