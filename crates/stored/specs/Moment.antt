-- What stands at a moment of a history, as far as a store says it.
use Rattle.std.specs.Prelude.{ℕ, Bool, true, false, ◌+◌, List, [], length, Option, Some, None}
use Rattle.audit_lex.specs.declared.header.EventKey.{EventKey}
use Rattle.audit_lex.specs.declared.tally.Tally.{Tally}
use Rattle.record_join.specs.Events.{Joining}
use Rattle.record_join.specs.History.{start}
use Rattle.acts.specs.declared.act.Taken.{Taken}
use Rattle.acts.specs.Flows.{flows}
use Rattle.row_codec.specs.declared.state.StateRow.{StateRow}

-- The acts that were taken, newest first; what waits, with the clock and the records in excess; the counts of lines and
-- of events; the bytes taken, and those of this part; and the line that has begun.
pub record Moment : Type 0 where
  pub taken : List Taken
  pub join : Joining
  pub tally : Tally
  pub events : ℕ
  pub late : ℕ
  pub unmapped : ℕ
  pub bytes : ℕ
  pub part : ℕ
  pub long : Bool
  pub tail : List ℕ

-- the moment before the first byte
abbrev pub nothing : Moment
nothing = record {
  taken = [];
  join = start;
  tally = record { used = 0; other = 0; blank = 0; malformed = 0; bad = [] };
  events = 0;
  late = 0;
  unmapped = 0;
  bytes = 0;
  part = 0;
  long = false;
  tail = [];
}

-- whether a number was seen at all
abbrev pub is_there : {A : Type 0} → Option A → Bool
is_there None = false
is_there (Some a) = true

-- a time, or 0 if there is none
abbrev pub time_or_zero : Option ℕ → ℕ
time_or_zero None = 0
time_or_zero (Some ms) = ms

-- the time of a key, or 0
abbrev pub ms_or_zero : Option EventKey → ℕ
ms_or_zero None = 0
ms_or_zero (Some key) = key.ms

-- the serial of a key, or 0
abbrev pub serial_or_zero : Option EventKey → ℕ
serial_or_zero None = 0
serial_or_zero (Some key) = key.serial

-- the State of a moment
abbrev pub state_at : Moment → StateRow
state_at m = record {
  taken = m.bytes;
  part = m.part;
  lines = m.tally.used + m.tally.other + m.tally.blank + m.tally.malformed;
  used = m.tally.used;
  other = m.tally.other;
  blank = m.tally.blank;
  malformed = m.tally.malformed;
  excess = m.join.excess;
  events = m.events;
  late = m.late;
  unmapped = m.unmapped;
  flows = length (flows m.taken);
  acts = length m.taken;
  seen = is_there m.join.clock.seen;
  greatest = time_or_zero m.join.clock.seen;
  released = is_there m.join.clock.released;
  released_ms = ms_or_zero m.join.clock.released;
  released_serial = serial_or_zero m.join.clock.released;
  effective = m.join.clock.effective;
  long = m.long;
  tail = m.tail;
  bad = m.tally.bad;
}
