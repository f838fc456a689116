use Rattle.call_acts.proofs.RowSizes.{event_few}
use Rattle.call_acts.proofs.laws.acts_are_few.Goals as goal

pub returns : goal.returns
returns c = event_few
