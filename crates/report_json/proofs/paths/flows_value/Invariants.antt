use Rattle.std.proofs.Common.{◌≡◌, map, take}
use Rattle.serde_json.specs.View.{view}
use Rattle.report_json.specs.Replies.{flow_data}
use Rattle.report_json.proofs.paths.flows_value.Given as goal

-- the flows so far
abbrev pub invariant-loop-flow : goal.invariant-loop-flow
invariant-loop-flow l = map view l.list.items ≡ map flow_data (take l.flow-index l.flows)
