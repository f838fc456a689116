use Rattle.reach_model.proofs.SameIds.{same_ids}
use Rattle.reach_model.proofs.lists.ascending_ids_are_one.Goals as goal

pub returns : goal.returns
returns c = same_ids
