use Rattle.std.proofs.Common.{◌≡◌, map, take}
use Rattle.serde_json.specs.View.{view}
use Rattle.report_json.specs.Replies.{id_data}
use Rattle.report_json.proofs.reply.ids_value.Given as goal

-- the numbers so far
abbrev pub invariant-loop-id : goal.invariant-loop-id
invariant-loop-id l = map view l.list.items ≡ map id_data (take l.id-index l.ids)
