use Rattle.reach_rows.proofs.AskedLemmas.{first_told}
use Rattle.reach_rows.proofs.laws.first_flows_are_told.Goals as goal

pub returns : goal.returns
returns c = λ mode F R l k. first_told l k
