use Rattle.reduced_store.proofs.RestoreLemmas.{found_restored}
use Rattle.reduced_store.proofs.laws.what_is_found_can_be_restored.Goals as goal

pub returns : goal.returns
returns c = found_restored c.equal_keys_are_one.ensures.exact
