use Rattle.record_join.proofs.Turns.{ends, one_release, one_left}
use Rattle.record_join.proofs.laws.releases_end.Goals as goal

pub returns-clause-ends : goal.returns-clause-ends
returns-clause-ends c = ends

pub returns-clause-events : goal.returns-clause-events
returns-clause-events c = one_release

pub returns-clause-left : goal.returns-clause-left
returns-clause-left c = one_left
