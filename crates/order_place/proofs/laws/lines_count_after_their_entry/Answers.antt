use Rattle.order_place.proofs.ClockLemmas.{after_entry}
use Rattle.order_place.proofs.laws.lines_count_after_their_entry.Goals as goal

pub returns : goal.returns
returns c = after_entry
