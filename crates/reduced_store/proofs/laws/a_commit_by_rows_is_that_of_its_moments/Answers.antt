use Rattle.reduced_store.proofs.CommitLemmas.{commits_by_rows}
use Rattle.reduced_store.proofs.laws.a_commit_by_rows_is_that_of_its_moments.Goals as goal

pub returns : goal.returns
returns c = commits_by_rows
