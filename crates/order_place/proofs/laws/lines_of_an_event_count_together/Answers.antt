use Rattle.order_place.proofs.ClockLemmas.{together}
use Rattle.order_place.proofs.laws.lines_of_an_event_count_together.Goals as goal

pub returns : goal.returns
returns c = together
