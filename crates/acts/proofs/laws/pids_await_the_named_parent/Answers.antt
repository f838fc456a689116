use Rattle.acts.proofs.Beginnings.{awaited_by_beginnings}
use Rattle.acts.proofs.laws.pids_await_the_named_parent.Goals as goal

pub returns : goal.returns
returns c = awaited_by_beginnings
