use Rattle.std.proofs.Common.{◌≡◌, drop}
use Rattle.order_rules.proofs.early.Queue.pass.Given as goal

-- as many were taken out
abbrev pub invariant-loop : goal.invariant-loop
invariant-loop l = l.self-inside.items.items ≡ drop l.counter l.initial.self-inside.items.items
