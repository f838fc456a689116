use Rattle.std.proofs.Common.{◌≡◌, ◌++◌, length, take}
use Rattle.std.specs.List.{flat_map}
use Rattle.row_codec.specs.Parsing.{text}
use Rattle.row_codec.specs.Fields.{n4}
use Rattle.row_codec.proofs.texts.put_lines.Given as goal

-- the number of the lines, and those so far, stand after the bytes
abbrev pub invariant-loop-line : goal.invariant-loop-line
invariant-loop-line l = l.to ≡ l.fn.to ++ (n4 (length l.fn.lines) ++ flat_map text (take l.line-index l.fn.lines))
