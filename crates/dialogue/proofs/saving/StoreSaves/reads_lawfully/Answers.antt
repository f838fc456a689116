use Rattle.dialogue.proofs.SaveLemmas.{reads_on_disk}
use Rattle.dialogue.proofs.saving.StoreSaves.reads_lawfully.Goals as goal

pub returns : goal.returns
returns g c = reads_on_disk g.D.Disk.state g.D.Disk.faults g.D.Disk.spent g.met.D.Disk.lawful
