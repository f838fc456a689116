use Rattle.std.proofs.Common.{◌≡◌, ◌++◌, map, take}
use Rattle.entity_names.specs.Known.{pairs_of}
use Rattle.entity_names.proofs.key_names.push_new.Given as goal

-- the names so far, each with the key
abbrev pub invariant-loop-text : goal.invariant-loop-text
invariant-loop-text l = pairs_of l.found ≡ pairs_of l.fn.found ++ map (λ text. (l.key, text)) (take l.text-index l.text-items)
