use Rattle.call_acts.proofs.EventLaws.{open_nothing}
use Rattle.call_acts.proofs.laws.other_calls_open_nothing.Goals as goal

pub returns : goal.returns
returns c = open_nothing
