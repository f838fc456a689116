use Rattle.std.proofs.Common.{◌==◌}
use Rattle.std.specs.List.{list_any}
use Rattle.std.specs.Ordering.{nat_cmp}
use Rattle.proc_table.specs.Table.{at}
use Rattle.flow_events.proofs.Collecting.{Collects}
use Rattle.flow_events.proofs.rows.lives_of.Given as goal

-- the lives of the pids so far
abbrev pub invariant-loop-pid : goal.invariant-loop-pid
invariant-loop-pid l = Collects nat_cmp l.lives.entries (λ p. list_any (λ pid. p == pid.now) l.yielded) (at l.procs)
