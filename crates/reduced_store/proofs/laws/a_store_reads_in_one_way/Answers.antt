use Rattle.reduced_store.proofs.NoBadLemmas.{bad_at_one_place, bad_nowhere, begins_once, reads_mode, reads_others}
use Rattle.reduced_store.proofs.laws.a_store_reads_in_one_way.Goals as goal

pub returns-clause-mode : goal.returns-clause-mode
returns-clause-mode c = reads_mode c.payloads_are_apart.ensures c.a_disk_reads_in_one_way.ensures.one_list

pub returns-clause-others : goal.returns-clause-others
returns-clause-others c = reads_others c.payloads_are_apart.ensures c.a_disk_reads_in_one_way.ensures.one_list

pub returns-clause-last : goal.returns-clause-last
returns-clause-last c = begins_once c.a_disk_reads_in_one_way.ensures.one_list

pub returns-clause-one_place : goal.returns-clause-one_place
returns-clause-one_place c =
    bad_at_one_place c.payloads_are_apart.ensures c.a_disk_reads_in_one_way.ensures.one_list c.a_disk_reads_in_one_way.ensures.one_place c.a_disk_reads_in_one_way.ensures.no_store

pub returns-clause-never_bad : goal.returns-clause-never_bad
returns-clause-never_bad c = bad_nowhere c.payloads_are_apart.ensures c.a_disk_reads_in_one_way.ensures.one_list c.a_disk_reads_in_one_way.ensures.no_store
