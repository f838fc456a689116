use Rattle.order_place.proofs.ClockLemmas.{keeps_order}
use Rattle.order_place.proofs.laws.calls_of_a_process_keep_their_order.Goals as goal

pub returns : goal.returns
returns c = keeps_order
