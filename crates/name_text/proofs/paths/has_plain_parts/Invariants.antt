use Rattle.std.proofs.Common.{◌≡◌, drop}
use Rattle.name_text.specs.PlainPaths.{plain_from}
use Rattle.name_text.proofs.paths.has_plain_parts.Given as goal

-- the parts so far are names, and the rest of the text decides
abbrev pub invariant-loop-byte : goal.invariant-loop-byte
invariant-loop-byte l = plain_from 0 l.text ≡ plain_from l.begun (drop l.byte-index l.text)
