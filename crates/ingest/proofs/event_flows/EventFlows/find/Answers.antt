use Rattle.ingest.proofs.Answered.{if_ok_so}
use Rattle.ingest.proofs.Named.{found_so}
use Rattle.ingest.proofs.Releasing.{joined_at}
use Rattle.ingest.proofs.event_flows.EventFlows.find.Goals as goal

pub returns : goal.returns
returns g c =
    if_ok_so c.find.result _ _ (λ ids found limits s released stands.
    let own = joined_at limits _ _ s released c.self.view_is stands in
    found_so limits _ s released own _ own.limits_are c.self.invariant.bounds _ c.args.text.now ids c.entities.ensures.same found)
    c.find.ensures
