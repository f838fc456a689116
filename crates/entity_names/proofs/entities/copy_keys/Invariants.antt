use Rattle.std.proofs.Common.{◌≡◌, take}
use Rattle.entity_names.proofs.entities.copy_keys.Given as goal

-- copies of the keys so far
abbrev pub invariant-loop-key : goal.invariant-loop-key
invariant-loop-key l = l.copies ≡ take l.key-index l.keys
