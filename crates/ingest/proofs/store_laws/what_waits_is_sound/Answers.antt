use Rattle.ingest.proofs.SoundRows.{closed_sound, found_sound}
use Rattle.ingest.proofs.store_laws.what_waits_is_sound.Goals as goal

pub returns-clause-rows : goal.returns-clause-rows
returns-clause-rows c = closed_sound c.a_joiner_is_made_again.ensures c.states_are_sound.ensures

pub returns-clause-found : goal.returns-clause-found
returns-clause-found c =
    found_sound c.a_joiner_is_made_again.ensures c.states_are_sound.ensures c.what_is_found_was_stored.ensures c.what_is_found_can_be_restored.ensures
