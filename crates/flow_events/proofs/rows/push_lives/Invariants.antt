use Rattle.std.proofs.Common.{◌≡◌, ◌++◌, map, length}
use Rattle.stored.specs.Batch.{life_row}
use Rattle.flow_events.proofs.rows.push_lives.Given as goal

-- the rows so far are those of the entries that are gone
abbrev pub invariant-loop-pid : goal.invariant-loop-pid
invariant-loop-pid l = l.fn.rows ++ map life_row l.fn.lives.entries ≡ l.rows ++ map life_row l.lives.entries

abbrev pub decreases-loop-pid : goal.decreases-loop-pid
decreases-loop-pid l = length l.lives.entries
