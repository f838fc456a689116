use Rattle.record_join.proofs.Dated.{dated}
use Rattle.record_join.proofs.laws.events_are_dated.Goals as goal

pub returns : goal.returns
returns c = dated
