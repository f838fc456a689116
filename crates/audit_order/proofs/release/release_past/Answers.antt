use Rattle.std.proofs.Common.{rules, ◌∙◌, ap, sym}
use Rattle.audit_order.specs.declared.bounds.Bounds.{Bounds}
use Rattle.audit_order.specs.Turns.{Between}
use Rattle.audit_order.proofs.SortLemmas.{past_goes}
use Rattle.audit_order.proofs.release.release_past.Goals as goal

pub loop-sorter-preserved : goal.loop-sorter-preserved
loop-sorter-preserved g c = record {
  goes = λ before lines s. c.in_ok-release_least.ensures.goes Between
      (past_goes c.loop-sorter.sorter _ (ap (λ (b : Bounds). b.window) c.loop-sorter.invariant.bounds) (sym c.is_ripe.ensures.past ∙ c.loop-sorter-test.true))
      before lines (c.loop-sorter.invariant.goes before lines s);
  counts = search rules;
  bounds = c.release_least.ensures.bounds ∙ c.loop-sorter.invariant.bounds;
}
