use Rattle.dialogue.proofs.AddLemmas.{adds_lawfully}
use Rattle.dialogue.proofs.saving.StoreSaves.adds_lawfully.Goals as goal

pub returns : goal.returns
returns g c = adds_lawfully g.D.Disk.state
