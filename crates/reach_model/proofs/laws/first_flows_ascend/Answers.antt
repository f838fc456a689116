use Rattle.reach_model.proofs.laws.first_flows_ascend.Goals as goal
use Rattle.reach_model.proofs.Redundant.{ascends}

pub returns : goal.returns
returns c = λ mode F R l k. ascends l k
