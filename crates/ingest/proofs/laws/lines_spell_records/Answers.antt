use Rattle.ingest.proofs.Reading.{spelled_to, spelled_from}
use Rattle.ingest.proofs.laws.lines_spell_records.Goals as goal

pub returns : goal.returns
returns c = λ limit line made. (spelled_to limit line made, spelled_from limit line made)
