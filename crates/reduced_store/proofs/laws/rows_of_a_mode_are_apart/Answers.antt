use Rattle.reduced_store.proofs.FillLemmas.{kept_apart}
use Rattle.reduced_store.proofs.laws.rows_of_a_mode_are_apart.Goals as goal

pub returns : goal.returns
returns c = λ mode F R l k. kept_apart l k
