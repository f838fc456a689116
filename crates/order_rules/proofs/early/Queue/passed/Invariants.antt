use Rattle.std.proofs.Common.{◌≡◌, drop}
use Rattle.order_rules.specs.Doors.{fresh}
use Rattle.order_rules.proofs.early.Queue.passed.Given as goal

-- those before it wait no more
abbrev pub invariant-loop-count : goal.invariant-loop-count
invariant-loop-count l = fresh l.now (drop l.count l.self-inside.items.items) ≡ fresh l.now l.self-inside.items.items
