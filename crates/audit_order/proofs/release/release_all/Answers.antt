use Rattle.std.proofs.Common.{rules, ◌∙◌}
use Rattle.audit_order.specs.Sorted.{state_of}
use Rattle.audit_order.proofs.TurnLemmas.{free_may}
use Rattle.audit_order.proofs.release.release_all.Goals as goal

pub loop-sorter-preserved : goal.loop-sorter-preserved
loop-sorter-preserved g c = record {
  goes = λ at free before lines s. c.in_ok-release_least.ensures.goes at (free_may (state_of c.loop-sorter.sorter) at free) before lines (c.loop-sorter.invariant.goes at free before lines s);
  counts = search rules;
  bounds = c.release_least.ensures.bounds ∙ c.loop-sorter.invariant.bounds;
}
