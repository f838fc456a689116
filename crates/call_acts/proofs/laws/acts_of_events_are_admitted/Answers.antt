use Rattle.call_acts.proofs.EventLaws.{events_admitted}
use Rattle.call_acts.proofs.laws.acts_of_events_are_admitted.Goals as goal

pub returns : goal.returns
returns c = events_admitted
