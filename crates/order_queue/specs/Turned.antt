-- Lines in a heap whose greatest element is taken first.
use Rattle.std.specs.declared.cmp.Reverse.{Reverse}
use Rattle.order_queue.specs.declared.waiting.Waiting.{Waiting}

-- the line under a reversed order
abbrev pub turned : Reverse Waiting → Waiting
turned r = r.0
