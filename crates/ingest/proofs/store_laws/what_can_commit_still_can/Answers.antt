use Rattle.ingest.proofs.Staying.{can_still}
use Rattle.ingest.proofs.store_laws.what_can_commit_still_can.Goals as goal

pub returns : goal.returns
returns g c = can_still g.D.Disk.state g.D.Disk.faults g.D.Disk.spent
