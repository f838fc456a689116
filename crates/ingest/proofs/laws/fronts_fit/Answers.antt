use Rattle.ingest.proofs.Limiting.{front_fits}
use Rattle.ingest.proofs.laws.fronts_fit.Goals as goal

pub returns : goal.returns
returns c = front_fits
