use Rattle.call_acts.proofs.EventLaws.{of_caller}
use Rattle.call_acts.proofs.laws.acts_are_of_the_caller.Goals as goal

pub returns : goal.returns
returns c = of_caller
