use Rattle.call_acts.proofs.RowShapes.{one_event}
use Rattle.call_acts.proofs.laws.acts_are_of_one_event.Goals as goal

pub returns : goal.returns
returns c = one_event
