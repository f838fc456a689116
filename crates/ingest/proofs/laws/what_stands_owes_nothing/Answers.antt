use Rattle.ingest.proofs.Quiet.{stands_owes}
use Rattle.ingest.proofs.laws.what_stands_owes_nothing.Goals as goal

pub returns : goal.returns
returns g c = λ limits engine h stands. stands_owes limits engine h stands
