-- What a State says of the reader of lines and of the counts of events.
use Rattle.flow_base.specs.declared.limits.Limits.{Limits}
use Rattle.row_codec.specs.declared.state.StateRow.{StateRow}
use Rattle.ingest.specs.Parts.{Reader}
use Rattle.ingest.specs.declared.event_counts.EventCounts.{EventCounts}

-- the reader that has the counts, the tail and the bytes
abbrev pub reader_of : Limits → StateRow → Reader
reader_of limits s = record {
  limits = limits;
  cut = record { limit = limits.line; lines = s.lines; tail = s.tail; long = s.long };
  tally = record { used = s.used; other = s.other; blank = s.blank; malformed = s.malformed; bad = s.bad };
  bytes = s.taken;
}

-- the counts of events
abbrev pub counts_said : StateRow → EventCounts
counts_said s = record { events = s.events; late = s.late; unmapped = s.unmapped }
