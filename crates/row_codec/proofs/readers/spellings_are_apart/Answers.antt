use Rattle.row_codec.specs.Rows.{row, Fits, row_at}
use Rattle.row_codec.proofs.ExactLaws.{apart}
use Rattle.row_codec.proofs.RowLaws.{exact-row}
use Rattle.row_codec.proofs.readers.spellings_are_apart.Goals as goal

pub returns : goal.returns
returns c = λ r s x y fits_r fits_s e. apart row row_at Fits exact-row r s x y fits_r fits_s e
