use Rattle.std.proofs.Common.{ap, arith, length}
use Rattle.ingest.specs.Events.{flows_in}
use Rattle.ingest.specs.Parts.{Joined}
use Rattle.ingest.proofs.Releasing.{joined_at}
use Rattle.ingest.proofs.event_flows.EventFlows.ask.Goals as goal

pub ask-requires : goal.ask-requires
ask-requires g c =
    let same = ap (λ (j : Joined _). length j.tables.entities.keys) c.self.view_is in
    let known = c.self.invariant.together.kept_of.known in
    record { known = omega (arith, c.requires.known, known, same) }

pub returns-clause-never : goal.returns-clause-never
returns-clause-never g c = λ never limits s released stands.
    let own = joined_at limits _ _ s released c.self.view_is stands in
    c.ask.ensures.never never (flows_in limits released) own.kept_are
