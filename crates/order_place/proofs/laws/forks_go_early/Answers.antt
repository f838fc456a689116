use Rattle.order_place.proofs.ClockLemmas.{forks_go_early}
use Rattle.order_place.proofs.laws.forks_go_early.Goals as goal

pub returns : goal.returns
returns c = forks_go_early
