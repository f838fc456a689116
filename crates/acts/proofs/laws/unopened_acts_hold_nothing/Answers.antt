use Rattle.acts.proofs.Unopened.{nothing_held}
use Rattle.acts.proofs.laws.unopened_acts_hold_nothing.Goals as goal

pub returns : goal.returns
returns c = nothing_held
