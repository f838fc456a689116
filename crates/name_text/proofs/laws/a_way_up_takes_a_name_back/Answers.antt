use Rattle.name_text.proofs.TidyLemmas.{way_up}
use Rattle.name_text.proofs.laws.a_way_up_takes_a_name_back.Goals as goal

pub returns : goal.returns
returns c = way_up
