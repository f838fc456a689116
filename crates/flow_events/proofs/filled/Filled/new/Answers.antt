use Rattle.std.proofs.Common.{refl}
use Rattle.flow_events.proofs.Filling.{nothing_filled}
use Rattle.flow_events.proofs.filled.Filled.new.Goals as goal

pub returns-clause-rows : goal.returns-clause-rows
returns-clause-rows c = nothing_filled _ c.new.ensures c.new-2.ensures.held c.new-2.ensures.addresses c.new-3.ensures c.new-4.ensures.names c.new-4.ensures.keys refl refl
