use Rattle.reach_model.proofs.laws.rows_are_determined.Goals as goal
use Rattle.reach_model.proofs.Determined.{same_rows}
use Rattle.reach_model.proofs.Exists.{some_rows}

pub returns-clause-some : goal.returns-clause-some
returns-clause-some c = some_rows

pub returns-clause-one : goal.returns-clause-one
returns-clause-one c = λ mode F R S l k m. same_rows l k m
