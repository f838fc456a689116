use Rattle.std.proofs.Common.{◌≡◌, ◌-◌}
use Rattle.row_codec.specs.Parsing.{many_at, text_at}
use Rattle.row_codec.proofs.Loop.{with_earlier}
use Rattle.row_codec.proofs.texts.texts.Given as goal

-- the lines so far, and those still to be read, are those of all the bytes
abbrev pub invariant-loop : goal.invariant-loop
invariant-loop l = with_earlier l.lines (many_at text_at (l.count - l.counter) l.rest) ≡ many_at text_at l.count l.bytes
