use Rattle.ingest.proofs.Limiting.{fits_never_stops}
use Rattle.ingest.proofs.laws.what_fits_never_stops.Goals as goal

pub returns : goal.returns
returns c = fits_never_stops
