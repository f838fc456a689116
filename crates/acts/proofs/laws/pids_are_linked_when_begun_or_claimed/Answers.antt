use Rattle.acts.proofs.Beginnings.{linked_by_beginnings}
use Rattle.acts.proofs.laws.pids_are_linked_when_begun_or_claimed.Goals as goal

pub returns : goal.returns
returns c = linked_by_beginnings
