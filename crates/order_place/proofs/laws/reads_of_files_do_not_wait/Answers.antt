use Rattle.order_place.proofs.ClockLemmas.{files_soon}
use Rattle.order_place.proofs.laws.reads_of_files_do_not_wait.Goals as goal

pub returns : goal.returns
returns c = files_soon
