use Rattle.reduced_store.proofs.NoBadLemmas.{stored_bad}
use Rattle.reduced_store.proofs.laws.a_store_is_no_bad_store.Goals as goal

pub returns : goal.returns
returns c = λ text limits mode bytes m place lawful stored.
    stored_bad c.payloads_are_apart.ensures c.a_disk_reads_in_one_way.ensures.one_list c.a_disk_reads_in_one_way.ensures.no_store text limits mode bytes m place lawful stored
