use Rattle.std.proofs.Common.{◌≡◌, take}
use Rattle.std.specs.Option.{option_map}
use Rattle.stored.specs.Words.{state_of}
use Rattle.ingest.proofs.restoring.last_state.Given as goal

-- it is the last State of the rows so far
abbrev pub invariant-loop-row : goal.invariant-loop-row
invariant-loop-row l = record { found : option_map (λ state. state.now) l.found ≡ state_of (take l.row-index l.rows) }
