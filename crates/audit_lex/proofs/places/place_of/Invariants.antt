use Rattle.std.proofs.Common.{◌-◌, ◌≤◌, ◌+◌}
use Rattle.audit_lex.proofs.PlaceLemmas.{HasNone}
use Rattle.audit_lex.proofs.places.place_of.Given as goal

-- the byte isn't among those so far
abbrev pub invariant-loop-place : goal.invariant-loop-place
invariant-loop-place l = record {
  before : HasNone l.byte l.text l.place;
  within : l.place ≤ l.last + 32;
}

abbrev pub decreases-loop-place : goal.decreases-loop-place
decreases-loop-place l = l.last - l.place
