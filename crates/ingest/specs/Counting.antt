-- What is counted of a history.
use Rattle.std.specs.Prelude.{ℕ, ◌+◌, Bool, true, false, List, [], ◌∷◌, length, count_by}
use Rattle.flow_base.specs.declared.limits.Limits.{Limits}
use Rattle.audit_lex.specs.History.{History, Step, Byte, Settle, lines_of}
use Rattle.audit_lex.specs.LineClass.{class_of}
use Rattle.audit_lex.specs.Tally.{Classed, tally_of}
use Rattle.audit_lex.specs.declared.tally.Tally.{Tally}
use Rattle.record_join.specs.declared.event.Event.{Event}
use Rattle.ingest.specs.EventActs.{is_unmapped}
use Rattle.ingest.specs.declared.event_counts.EventCounts.{EventCounts}

-- a byte of the log
abbrev pub is_byte : Step → Bool
is_byte (Byte b) = true
is_byte Settle = false

-- how many bytes a history has
abbrev pub bytes_in : History → ℕ
bytes_in h = count_by is_byte h

-- lines with their classes, the first of them with this number
abbrev pub classed_from : ℕ → ℕ → List (List ℕ) → List Classed
classed_from limit number [] = []
classed_from limit number (line ∷ lines) = record { number = number; class = class_of limit line } ∷ classed_from limit (number + 1) lines

-- the counts of lines, which are numbered from 1
abbrev pub tally_of_lines : Limits → List (List ℕ) → Tally
tally_of_lines limits lines = tally_of limits.shown (classed_from limits.line 1 lines)

-- the counts of a history's lines
abbrev pub tally_in : Limits → History → Tally
tally_in limits h = tally_of_lines limits (lines_of h)

-- how many lines were counted
abbrev pub total : Tally → ℕ
total tally = tally.used + tally.other + tally.blank + tally.malformed

-- the counts of events: all of them, those that are late, and those whose call isn't mapped
abbrev pub counts_in : List Event → EventCounts
counts_in events = record { events = length events; late = count_by (λ e. e.late) events; unmapped = count_by is_unmapped events }
