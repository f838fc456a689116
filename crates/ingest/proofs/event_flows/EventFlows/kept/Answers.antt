use Rattle.std.proofs.Common.{◌∙◌, sym}
use Rattle.ingest.specs.Events.{flows_in}
use Rattle.ingest.proofs.Asked.{so_many}
use Rattle.ingest.proofs.Releasing.{joined_at}
use Rattle.ingest.proofs.event_flows.EventFlows.kept.Goals as goal

pub returns : goal.returns
returns g c = λ limits s released stands.
    let own = joined_at limits _ _ s released c.self.view_is stands in
    so_many _ _ (flows_in limits released) _ (sym c.mode.ensures.own ∙ c.mode.ensures.mode) c.count.ensures own.kept_are
