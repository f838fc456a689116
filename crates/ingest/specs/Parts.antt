-- What the two parts of an engine hold: the reader of lines, and the joiner with its flows.
use Rattle.std.specs.Prelude.{ℕ}
use Rattle.flow_base.specs.declared.limits.Limits.{Limits}
use Rattle.audit_lex.specs.LineCut.{Cutter}
use Rattle.audit_lex.specs.declared.tally.Tally.{Tally}
use Rattle.record_join.specs.StandsFor.{Joiner}
use Rattle.flow_events.specs.declared.tables.Tables.{Tables}
use Rattle.kept_flows.specs.KeptFlows.{KeptFlows}
use Rattle.ingest.specs.declared.event_counts.EventCounts.{EventCounts}

-- the limits, the line that has begun, the counts of lines, and how many bytes were taken
pub record Reader : Type 0 where
  pub limits : Limits
  pub cut : Cutter
  pub tally : Tally
  pub bytes : ℕ

-- the limits, what waits, the tables and kept flows of the events that were followed, the rows `keep` that keep these flows,
-- and the counts of events and of records in excess
pub record Joined (K : Type 0) : Type 0 where
  pub limits : Limits
  pub join : Joiner
  pub tables : Tables
  pub kept : KeptFlows
  pub keep : K
  pub counts : EventCounts
  pub excess : ℕ

-- both, and how many bytes were taken since this part of the log began
pub record Engine (K : Type 0) : Type 0 where
  pub reader : Reader
  pub joined : Joined K
  pub part : ℕ
