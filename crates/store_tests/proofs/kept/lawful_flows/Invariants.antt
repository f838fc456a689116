use Rattle.std.proofs.Common.{◌≤◌}
use Rattle.std.specs.List.{Contains}
use Rattle.flow_base.specs.declared.types.Flow.{Flow}
use Rattle.reach_model.specs.Flows.{time}
use Rattle.reach_model.specs.Numbers.{IsLawfulWith}
use Rattle.store_tests.proofs.kept.lawful_flows.Given as goal

-- the flows so far are lawful, and none is later than `last`
abbrev pub invariant-loop-from : goal.invariant-loop-from
invariant-loop-from l = record {
  lawful : IsLawfulWith l.count l.flows;
  last : (g : Flow) → Contains l.flows g → time g ≤ l.last;
}
