use Rattle.reduced_store.proofs.PickedLemmas.{others_say_same}
use Rattle.reduced_store.proofs.laws.others_say_what_all_rows_say.Goals as goal

pub returns : goal.returns
returns c = others_say_same
