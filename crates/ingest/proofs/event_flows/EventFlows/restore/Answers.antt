use Rattle.std.proofs.Common.{arith, ◌∙◌}
use Rattle.ingest.specs.Events.{flows_in, taken_in}
use Rattle.ingest.proofs.Following.{never_marked}
use Rattle.ingest.proofs.Together.{together_as}
use Rattle.ingest.proofs.event_flows.EventFlows.restore.Goals as goal

pub restore-requires-clause-few : goal.restore-requires-clause-few
restore-requires-clause-few g c = omega (arith, c.requires.together.kept_of.counted, c.requires.together.safe.flows_few)

pub invariant_of-result : goal.invariant_of-result
invariant_of-result g c = record {
  s = c.requires.waits.0;
  join_is = c.requires.waits.1;
  bounds = c.requires.limits;
  together = together_as c.args.join.clock.effective c.args.tables _ c.in-Ok.kept.kept c.in-Ok.ensures.kept c.requires.together;
}

pub returns-in-Ok-clause-stands : goal.returns-in-Ok-clause-stands
returns-in-Ok-clause-stands g c = λ limits s released left. record {
  limits_are = left.limits_are;
  join = left.join_is;
  released_last = left.released_last;
  excess = left.excess;
  counts = c.restore-in-Ok.ensures.parts ∙ left.counts;
  tables = left.tables_are;
  marked = never_marked _ (taken_in limits released) c.requires.unmarked;
  kept_are = c.in-Ok.ensures.stands (flows_in limits released) left.rows left.told_are (c.flows_of_acts_are_lawful.ensures (taken_in limits released) left.in_time.rise).lawful left.keeps;
  in_time = left.in_time;
  fits = left.fits;
}
