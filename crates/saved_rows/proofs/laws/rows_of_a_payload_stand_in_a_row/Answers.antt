use Rattle.saved_rows.proofs.SpelledLemmas.{spelled_from}
use Rattle.saved_rows.proofs.laws.rows_of_a_payload_stand_in_a_row.Goals as goal

pub returns : goal.returns
returns c = spelled_from
