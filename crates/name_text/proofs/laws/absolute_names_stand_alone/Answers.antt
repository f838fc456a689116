use Rattle.name_text.proofs.TidyLemmas.{alone}
use Rattle.name_text.proofs.laws.absolute_names_stand_alone.Goals as goal

pub returns : goal.returns
returns c = alone
