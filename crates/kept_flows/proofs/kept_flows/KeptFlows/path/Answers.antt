use Rattle.kept_flows.proofs.OnlyMemory.{only_memory}
use Rattle.kept_flows.proofs.kept_flows.KeptFlows.path.Goals as goal

pub returns-clause-always : goal.returns-clause-always
returns-clause-always g c = λ never told. only_memory _ _ _ _ _ _ never told c.find_way.ensures.cause
