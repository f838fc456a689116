use Rattle.ingest.proofs.Staying.{saved_still}
use Rattle.ingest.proofs.store_laws.what_is_saved_stays_saved.Goals as goal

pub returns : goal.returns
returns g c = saved_still g.D.Disk.state g.D.Disk.faults g.D.Disk.spent
