use Rattle.reach_model.proofs.laws.rows_are_faithful.Goals as goal
use Rattle.reach_model.proofs.TheLaws.{answers}

pub returns : goal.returns
returns c = answers
