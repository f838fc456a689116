use Rattle.std.proofs.Common.{◌≡◌, map, take}
use Rattle.serde_json.specs.View.{view}
use Rattle.report_json.specs.Replies.{bad_data}
use Rattle.report_json.proofs.counts.bads_value.Given as goal

-- the lines so far
abbrev pub invariant-loop-bad : goal.invariant-loop-bad
invariant-loop-bad l = map view l.list.items ≡ map bad_data (take l.bad-index l.bads)
