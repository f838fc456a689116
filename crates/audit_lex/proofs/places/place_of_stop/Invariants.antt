use Rattle.std.proofs.Common.{◌<◌, ◌-◌, length}
use Rattle.audit_lex.proofs.OtherTokens.{HasNoStop}
use Rattle.audit_lex.proofs.places.place_of_stop.Given as goal

-- no place so far is a stop
abbrev pub invariant-loop-place : goal.invariant-loop-place
invariant-loop-place l = record {
  within : l.place < length l.text;
  before : HasNoStop l.first l.text l.place;
}

abbrev pub decreases-loop-place : goal.decreases-loop-place
decreases-loop-place l = length l.text - l.place
