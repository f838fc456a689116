use Rattle.std.proofs.Common.{◌∙◌, sym, ap, Err}
use Rattle.ingest.proofs.Releasing.{joined_at, goes_on, owed, all_done}
use Rattle.ingest.proofs.event_flows.EventFlows.release.Goals as goal

pub loop-self-preserved : goal.loop-self-preserved
loop-self-preserved g c = record {
  follows = λ limits s released stands few.
      let w = c.loop-self.invariant.follows limits s released stands few in
      let own = joined_at limits _ _ w.rest _ c.self.view_is w.stands in
      goes_on limits s released _ _ w (sym (c.ripe.ensures.ripe limits w.rest own.join) ∙ c.loop-self-test.true) c.in-Ok.ensures.next;
  few = λ records few. c.in-Ok.ensures.few records (c.loop-self.invariant.few records few);
  alike = g.met.K.Rows.goes_along.next _ _ _ c.loop-self.invariant.alike c.in-Ok.ensures.alike;
  marked = c.in-Ok.ensures.marked ∙ c.loop-self.invariant.marked;
}

pub returns-in-Err-clause-owed : goal.returns-in-Err-clause-owed
returns-in-Err-clause-owed g c = λ limits s released stands few.
    let w = c.loop-self.invariant.follows limits s released stands few in
    let own = joined_at limits _ _ w.rest _ c.self.view_is w.stands in
    owed limits s released _ _ c.in-Err.why w (sym (c.ripe.ensures.ripe limits w.rest own.join) ∙ c.loop-self-test.true) c.in-Err.ensures.refused (λ full is. c.in-Err.ensures.full full (ap Err is))

pub returns-clause-ok : goal.returns-clause-ok
returns-clause-ok g c = λ limits s released stands few.
    let w = c.loop-self.invariant.follows limits s released stands few in
    let own = joined_at limits _ _ w.rest _ c.self.view_is w.stands in
    all_done limits s released _ w (sym (c.ripe.ensures.ripe limits w.rest own.join) ∙ c.loop-self-test.false)
