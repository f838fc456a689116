use Rattle.std.proofs.Common.{◌≡◌, ◌++◌, map, take}
use Rattle.std.specs.List.{join_with_byte}
use Rattle.name_text.proofs.pieces.put_joined.Given as goal

-- the pieces so far stand behind the text
abbrev pub invariant-loop-index : goal.invariant-loop-index
invariant-loop-index l = l.text.items ≡ l.initial.text.items ++ join_with_byte l.byte (map (λ p. p.now) (take l.index l.pieces))
