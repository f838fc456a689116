use Rattle.saved_rows.proofs.RowLemmas.{rows_raised, rows_stay}
use Rattle.saved_rows.proofs.laws.saved_rows_outlive_commits.Goals as goal

pub returns-clause-kept : goal.returns-clause-kept
returns-clause-kept c = rows_stay

pub returns-clause-raised : goal.returns-clause-raised
returns-clause-raised c = rows_raised
