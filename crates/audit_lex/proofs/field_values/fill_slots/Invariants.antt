use Rattle.std.proofs.Common.{length}
use Rattle.audit_lex.specs.Slots.{held}
use Rattle.audit_lex.specs.Runs.{IsReadTo}
use Rattle.audit_lex.proofs.field_values.fill_slots.Given as goal

abbrev pub invariant-loop-run : goal.invariant-loop-run
invariant-loop-run l = IsReadTo l.kind l.raw l.run (held l.slots.values)

abbrev pub decreases-loop-run : goal.decreases-loop-run
decreases-loop-run l = length l.run.rest.now
