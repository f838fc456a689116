use Rattle.reach_model.proofs.laws.rows_tell_the_verdict.Goals as goal
use Rattle.reach_model.proofs.ByRows.{verdict_by_rows}

pub returns : goal.returns
returns c = verdict_by_rows
