use Rattle.call_acts.proofs.EventLaws.{event_admitted}
use Rattle.call_acts.proofs.laws.event_acts_are_admitted.Goals as goal

pub returns : goal.returns
returns c = event_admitted
