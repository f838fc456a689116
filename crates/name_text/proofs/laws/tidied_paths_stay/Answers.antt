use Rattle.name_text.proofs.TidyLemmas.{stays}
use Rattle.name_text.proofs.laws.tidied_paths_stay.Goals as goal

pub returns : goal.returns
returns c = stays
