use Rattle.std.proofs.Common.{rules}
use Rattle.flow_events.proofs.SlotLaws.{puts_at_mark}
use Rattle.flow_events.proofs.since.Since.new.Goals as goal

pub returns : goal.returns
returns c = λ before is. record {
  known_is = is;
  pids_are = search rules;
  files_are = search rules;
  sockets_are = search rules;
  slots_are = search rules;
  puts_are = puts_at_mark c.new-2.result before;
}
