use Rattle.std.proofs.Common.{◌≡◌, take}
use Rattle.std.specs.Prelude.{None}
use Rattle.std.specs.List.{fold}
use Rattle.order_kin.specs.Broods.{sooner}
use Rattle.order_kin.proofs.brood.Brood.next.Given as goal

-- the time of the next of the forks so far
abbrev pub invariant-loop-fork : goal.invariant-loop-fork
invariant-loop-fork l = l.next ≡ fold (sooner l.ms l.serial) None (take l.fork-index l.fork-items)
