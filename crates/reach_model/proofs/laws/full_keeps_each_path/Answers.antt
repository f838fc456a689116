use Rattle.reach_model.proofs.laws.full_keeps_each_path.Goals as goal
use Rattle.reach_model.proofs.FullMode.{full_path}
use Rattle.reach_model.proofs.TheLaws.{nothing_else}

pub returns-clause-there : goal.returns-clause-there
returns-clause-there c = λ F R l k. full_path l k

pub returns-clause-no_more : goal.returns-clause-no_more
returns-clause-no_more c = nothing_else
