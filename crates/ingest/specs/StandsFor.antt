-- What an engine stands for.
use Rattle.std.specs.Prelude.{◌≡◌, ◌≤◌, ◌+◌, ◌^◌, ℕ, List, [], length, true, false, None}
use Rattle.std.specs.List.{Contains}
use Rattle.flow_base.specs.declared.limits.Limits.{Limits}
use Rattle.audit_lex.specs.History.{History}
use Rattle.audit_lex.specs.LineCut.{Cutter, StandsFor as CutStandsFor}
use Rattle.audit_lex.specs.declared.tally.Tally.{Tally}
use Rattle.record_join.specs.Events.{Joining}
use Rattle.record_join.specs.StandsFor.{Joiner, StandsFor as JoinStandsFor}
use Rattle.name_text.specs.Addresses.{text_of}
use Rattle.acts.specs.declared.act.Taken.{Taken}
use Rattle.acts.specs.Flows.{latest, TimesNeverFall}
use Rattle.flow_events.specs.declared.tables.Tables.{Tables}
use Rattle.flow_events.specs.Remembering.{StandsMarked}
use Rattle.flow_events.specs.Standing.{StandsFor as TablesStandFor, HasLimits}
use Rattle.kept_flows.specs.KeptFlows.{KeptFlows, StandsFor as KeptStandsFor}
use Rattle.store_check.specs.Conditions.{begun}
use Rattle.record_join.specs.declared.event.Event.{Event}
use Rattle.ingest.specs.Clocks.{HasReleased}
use Rattle.ingest.specs.Counting.{bytes_in, tally_in, counts_in, total}
use Rattle.ingest.specs.Events.{taken_in, flows_in, state_of, events_of}
use Rattle.ingest.specs.Parts.{Reader, Joined, Engine}
use Rattle.ingest.specs.Stops.{Fits, full_of}
use Rattle.ingest.specs.Together.{GoTogether}

-- the lines of the history were cut and counted, and the rest is held
pub record ReaderStandsFor (limits : Limits) (reader : Reader) (h : History) : Type 0 where
  pub limits_are : reader.limits ≡ limits
  pub cut : CutStandsFor reader.cut h
  pub line : reader.cut.limit ≡ limits.line
  pub tally : reader.tally ≡ tally_in limits h
  pub bytes : reader.bytes ≡ bytes_in h

-- no byte of a line has come
pub record HasNoTail (reader : Reader) : Type 0 where
  pub tail : reader.cut.tail ≡ []
  pub long : reader.cut.long ≡ false

-- the tail is that of a line that may go on: it has no line feed, and isn't held once the line is too long
pub record IsHeld (cut : Cutter) : Type 0 where
  pub no_feed : ¬ Contains cut.tail 10
  pub short : length cut.tail ≤ cut.limit
  pub none : cut.long ≡ true → cut.tail ≡ []

-- Each line that ended or began took a byte, each that ended was counted, few are listed, and there may be this many bytes. So no
-- count comes to its end, whatever the reader stands for.
pub record IsWithin (limits : Limits) (cut : Cutter) (tally : Tally) (bytes : ℕ) : Type 0 where
  pub line : cut.limit ≡ limits.line
  pub held : IsHeld cut
  pub paid : cut.lines + begun cut.long cut.tail ≤ bytes
  pub counted : total tally ≡ cut.lines
  pub listed : length tally.bad ≤ limits.shown
  pub within : bytes ≤ limits.input
  pub input : limits.input ≤ 2 ^ 60

-- the joiner stands for something that waits, and the tables and kept flows go together, none of which is later than what the
-- joiner released last
pub record IsInTime (limits : Limits) (join : Joiner) (tables : Tables) (kept : KeptFlows) : Type 0 where
  pub s : Joining
  pub join_is : JoinStandsFor limits join s
  pub bounds : HasLimits limits tables
  pub together : GoTogether join.clock.effective tables kept

-- the times of the acts never fall, and none is later than what was released last
pub record AreInTime (taken : List Taken) (s : Joining) : Type 0 where
  pub rise : TimesNeverFall taken
  pub later : latest taken ≤ s.clock.effective

-- this waits, and these events were released, counted and followed; what came since a mark of the tables is remembered
pub record JoinedStandsFor {K : Type 0} (limits : Limits) (joined : Joined K) (s : Joining) (released : List Event) : Type 0 where
  pub limits_are : joined.limits ≡ limits
  pub join : JoinStandsFor limits joined.join s
  pub released_last : HasReleased s.clock released
  pub excess : joined.excess ≡ s.excess
  pub counts : joined.counts ≡ counts_in released
  pub tables : TablesStandFor text_of joined.tables (taken_in limits released)
  pub marked : StandsMarked text_of joined.tables (taken_in limits released)
  pub kept_are : KeptStandsFor joined.kept (flows_in limits released)
  pub in_time : AreInTime (taken_in limits released) s
  pub fits : full_of limits released ≡ None

-- whatever limits and released events the joined parts stand for, this holds of them
abbrev pub WhereJoined : {K : Type 0} → Joined K → (Limits → List Event → Type 0) → Type 0
WhereJoined joined P = (limits : Limits) (s : Joining) (released : List Event)
    → JoinedStandsFor limits joined s released → P limits released

-- the same of what waits too
abbrev pub WhereWaiting : {K : Type 0} → Joined K → (Limits → Joining → List Event → Type 0) → Type 0
WhereWaiting joined P = (limits : Limits) (s : Joining) (released : List Event)
    → JoinedStandsFor limits joined s released → P limits s released

-- whatever history the reader and the joined parts stand for, this holds of it
abbrev pub WhereRead : {K : Type 0} → Reader → Joined K → (Limits → History → Type 0) → Type 0
WhereRead reader joined P = (limits : Limits) (h : History) → ReaderStandsFor limits reader h
    → JoinedStandsFor limits joined (state_of limits h) (events_of limits h) → P limits h

-- the engine has read the history, joined its records and followed its events, and no limit is passed
pub record StandsFor {K : Type 0} (limits : Limits) (engine : Engine K) (h : History) : Type 0 where
  pub reader : ReaderStandsFor limits engine.reader h
  pub joined : JoinedStandsFor limits engine.joined (state_of limits h) (events_of limits h)
  pub fits : Fits limits h
