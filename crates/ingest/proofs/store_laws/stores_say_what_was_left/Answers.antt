use Rattle.ingest.proofs.Rejoined.{were_left}
use Rattle.ingest.proofs.store_laws.stores_say_what_was_left.Goals as goal

pub returns : goal.returns
returns c = were_left
