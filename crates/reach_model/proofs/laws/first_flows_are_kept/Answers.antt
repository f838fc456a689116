use Rattle.reach_model.proofs.laws.first_flows_are_kept.Goals as goal
use Rattle.reach_model.proofs.KeepsFirst.{first_kept}
use Rattle.reach_model.proofs.RowNumbers.{known_kept, numbered_kept}

pub returns-clause-first : goal.returns-clause-first
returns-clause-first c = λ mode F R l k. first_kept l k

pub returns-clause-known : goal.returns-clause-known
returns-clause-known c = λ mode F R l k. known_kept l k

pub returns-clause-numbered : goal.returns-clause-numbered
returns-clause-numbered c = λ mode F R l k n. numbered_kept l k n
