use Rattle.ingest.proofs.Quiet.{owes_stands}
use Rattle.ingest.proofs.laws.what_owes_nothing_stands.Goals as goal

pub returns : goal.returns
returns g c = λ limits engine h w none. owes_stands limits engine h w none
