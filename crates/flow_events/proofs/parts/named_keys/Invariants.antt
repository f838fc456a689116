use Rattle.std.proofs.Common.{◌≡◌, map, take}
use Rattle.flow_events.proofs.parts.named_keys.Given as goal

-- the keys so far
abbrev pub invariant-loop-one : goal.invariant-loop-one
invariant-loop-one l = l.keys ≡ map (λ g. g.key) (take l.one-index l.given)
