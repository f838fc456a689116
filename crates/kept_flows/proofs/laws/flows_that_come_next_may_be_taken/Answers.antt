use Rattle.kept_flows.proofs.Next.{come_next_may}
use Rattle.kept_flows.proofs.laws.flows_that_come_next_may_be_taken.Goals as goal

pub returns : goal.returns
returns c = come_next_may
