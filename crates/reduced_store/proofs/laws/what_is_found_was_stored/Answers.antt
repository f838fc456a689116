use Rattle.reduced_store.proofs.StoringLemmas.{was_stored}
use Rattle.reduced_store.proofs.laws.what_is_found_was_stored.Goals as goal

pub returns : goal.returns
returns c = was_stored c.payloads_are_apart.ensures c.a_disk_reads_in_one_way.ensures.one_list
