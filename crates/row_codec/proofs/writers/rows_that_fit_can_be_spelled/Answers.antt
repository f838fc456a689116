use Rattle.row_codec.proofs.SpelledLaws.{spelled}
use Rattle.row_codec.proofs.writers.rows_that_fit_can_be_spelled.Goals as goal

pub returns : goal.returns
returns c = λ rows fit k d lt. spelled _ (fit k d lt)
