use Rattle.std.proofs.Common.{ap, arith, length}
use Rattle.ingest.specs.Events.{flows_in}
use Rattle.ingest.specs.Parts.{Joined}
use Rattle.ingest.proofs.Releasing.{joined_at}
use Rattle.ingest.proofs.event_flows.EventFlows.path.Goals as goal

pub path-requires : goal.path-requires
path-requires g c =
    let same = ap (λ (j : Joined _). length j.tables.entities.keys) c.self.view_is in
    let known = c.self.invariant.together.kept_of.known in
    record { known = (omega (arith, c.requires.from, known, same), omega (arith, c.requires.to, known, same)) }

pub returns-clause-never : goal.returns-clause-never
returns-clause-never g c = λ never limits s released stands.
    let own = joined_at limits _ _ s released c.self.view_is stands in
    c.path.ensures.never never (flows_in limits released) own.kept_are
