use Rattle.reach_model.proofs.Currents.{current}
use Rattle.reach_model.proofs.laws.inflows_open_versions.Goals as goal

pub returns : goal.returns
returns c = λ K x i j d. current K x i j d
