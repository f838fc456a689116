use Rattle.std.proofs.Common.{refl}
use Rattle.name_text.specs.Addresses.{text_of}
use Rattle.ingest.specs.Events.{taken_in}
use Rattle.ingest.proofs.FewActs.{few_at, few_still}
use Rattle.ingest.proofs.Following.{in_time_by, stands_marked}
use Rattle.ingest.proofs.Releasing.{joined_at}
use Rattle.ingest.proofs.Together.{in_time_marked}
use Rattle.ingest.proofs.event_flows.EventFlows.remember.Goals as goal

pub invariant_of-self : goal.invariant_of-self
invariant_of-self g c =
    let w = c.self.invariant in
    let bounds = c.remember.ensures.limits _ w.bounds in
    in_time_by _ _ _ _ _ bounds.limits_are (in_time_marked _ _ _ _ _ w c.remember.ensures.counts (c.remember.ensures.safe w.together.safe) bounds)

pub returns-clause-stands : goal.returns-clause-stands
returns-clause-stands g c = λ limits s released stands.
    let own = joined_at limits _ _ s released c.self.view_is stands in
    let both = c.remember.ensures.marks text_of (taken_in limits released) own.tables in
    stands_marked limits _ _ s released own c.remember.ensures.counts.limits refl refl refl refl both.0 both.1

pub returns-clause-few : goal.returns-clause-few
returns-clause-few g c = λ records f. few_still _ _ records (few_at _ _ records c.self.view_is f) refl c.remember.ensures.counts.acts
