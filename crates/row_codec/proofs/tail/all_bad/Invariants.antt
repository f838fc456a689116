use Rattle.std.proofs.Common.{◌≡◌, ◌-◌}
use Rattle.row_codec.specs.Parsing.{many_at}
use Rattle.row_codec.specs.State.{bad_at}
use Rattle.row_codec.proofs.Loop.{with_earlier}
use Rattle.row_codec.proofs.tail.all_bad.Given as goal

-- the malformed lines so far, and those still to be read, are those of all the bytes
abbrev pub invariant-loop : goal.invariant-loop
invariant-loop l = with_earlier l.listed (many_at bad_at (l.count - l.counter) l.rest) ≡ many_at bad_at l.count l.bytes
