use Rattle.dialogue.proofs.LackLemmas.{lacks_lawfully}
use Rattle.dialogue.proofs.saving.StoreSaves.lacks_lawfully.Goals as goal

pub returns : goal.returns
returns g c = lacks_lawfully g.D.Disk.state
