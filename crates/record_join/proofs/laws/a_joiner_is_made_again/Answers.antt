use Rattle.record_join.proofs.Again.{made_again}
use Rattle.record_join.proofs.laws.a_joiner_is_made_again.Goals as goal

pub returns : goal.returns
returns c = made_again
