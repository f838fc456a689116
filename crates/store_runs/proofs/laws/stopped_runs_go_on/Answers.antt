use Rattle.store_runs.proofs.ResumeLemmas.{goes_on}
use Rattle.store_runs.proofs.laws.stopped_runs_go_on.Goals as goal

pub returns : goal.returns
returns c = λ limits mode h before log bytes taken reached. goes_on limits mode h before log bytes taken reached
