use Rattle.std.proofs.Common.{rules, ◌∙◌, ap, arith}
use Rattle.audit_order.specs.declared.bounds.Bounds.{Bounds}
use Rattle.audit_order.proofs.SortLemmas.{over_goes, none_left}
use Rattle.audit_order.proofs.release.make_room.Goals as goal

pub loop-sorter-preserved : goal.loop-sorter-preserved
loop-sorter-preserved g c = record {
  goes = λ at of before lines s. c.in_ok-release_least.ensures.goes at
      (over_goes c.loop-sorter.sorter _ c.args.more at (ap (λ (b : Bounds). b.memory) c.loop-sorter.invariant.bounds) (c.is_over.ensures.over c.loop-sorter-test.true) of)
      before lines (c.loop-sorter.invariant.goes at of before lines s);
  counts = search rules;
  bounds = c.release_least.ensures.bounds ∙ c.loop-sorter.invariant.bounds;
  fewer = omega (arith, c.in_ok-release_least.ensures.fewer, c.loop-sorter.invariant.fewer);
}

pub returns-clause-none : goal.returns-clause-none
returns-clause-none g c = λ none. none_left _ _ none c.loop-sorter.invariant.fewer
