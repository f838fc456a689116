use Rattle.ingest.proofs.Limiting.{stop_stays}
use Rattle.ingest.proofs.laws.stops_stay.Goals as goal

pub returns : goal.returns
returns c = stop_stays
