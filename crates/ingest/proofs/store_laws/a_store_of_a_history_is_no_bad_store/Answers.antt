use Rattle.name_text.specs.Addresses.{text_of}
use Rattle.ingest.specs.Events.{events_of, taken_in}
use Rattle.ingest.specs.Storing.{moment_of}
use Rattle.ingest.proofs.Rejoined.{all_go}
use Rattle.ingest.proofs.store_laws.a_store_of_a_history_is_no_bad_store.Goals as goal

pub returns : goal.returns
returns c = λ limits mode bytes h part place stores.
    c.a_store_is_no_bad_store.ensures text_of limits mode bytes (moment_of limits h part) place
    (c.flows_of_acts_are_lawful.ensures (taken_in limits (events_of limits h)) (all_go limits h).in_time.rise).lawful stores.store
