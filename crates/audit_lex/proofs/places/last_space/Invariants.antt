use Rattle.std.proofs.Common.{◌≤◌}
use Rattle.audit_lex.proofs.places.last_space.Given as goal

abbrev pub invariant-loop-place : goal.invariant-loop-place
invariant-loop-place l = l.place ≤ l.end

abbrev pub decreases-loop-place : goal.decreases-loop-place
decreases-loop-place l = l.place
