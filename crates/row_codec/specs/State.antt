-- The fields of a State row.
use Rattle.std.specs.Prelude.{◌≡◌, ℕ, zero, suc, ◌<◌, ◌^◌, List, [], ◌∷◌, ◌++◌, length, Option, Some, None, Bool, true, false, ⊤}
use Rattle.std.specs.List.{AllByRecursion}
use Rattle.flow_base.specs.declared.types.Bad.{Bad}
use Rattle.row_codec.specs.declared.state.StateRow.{StateRow}
use Rattle.row_codec.specs.declared.counts.Counts.{Counts}
use Rattle.row_codec.specs.declared.clock.Clock.{Clock}
use Rattle.row_codec.specs.declared.tail.Lines.{Lines}
use Rattle.row_codec.specs.Parsing.{Parsed, both_at, seen_at, byte_at, text, text_at, list, list_at}
use Rattle.row_codec.specs.Fields.{n4, n4_at, n8, n8_at, flag, flag_at}

-- ---- thirteen counts of n8

abbrev pub counts : Counts → List ℕ
counts c = n8 c.taken ++ (n8 c.part ++ (n8 c.lines ++ (n8 c.used ++ (n8 c.other ++ (n8 c.blank ++ (n8 c.malformed ++ (n8 c.excess ++ (n8 c.events ++ (n8 c.late ++ (n8 c.unmapped ++ (n8 c.flows ++ n8 c.acts)))))))))))

-- the counts of lines by class fit
pub record FitsClassCounts (c : Counts) : Type 0 where
  pub lines : c.lines < 2 ^ 64
  pub used : c.used < 2 ^ 64
  pub other : c.other < 2 ^ 64
  pub blank : c.blank < 2 ^ 64
  pub malformed : c.malformed < 2 ^ 64

-- the counts of events, flows and acts fit
pub record FitsEventCounts (c : Counts) : Type 0 where
  pub excess : c.excess < 2 ^ 64
  pub events : c.events < 2 ^ 64
  pub late : c.late < 2 ^ 64
  pub unmapped : c.unmapped < 2 ^ 64
  pub flows : c.flows < 2 ^ 64
  pub acts : c.acts < 2 ^ 64

pub record FitsCounts (c : Counts) : Type 0 where
  pub taken : c.taken < 2 ^ 64
  pub part : c.part < 2 ^ 64
  pub classes : FitsClassCounts c
  pub events : FitsEventCounts c

abbrev pub Thirteen : Type 0
Thirteen = ℕ × (ℕ × (ℕ × (ℕ × (ℕ × (ℕ × (ℕ × (ℕ × (ℕ × (ℕ × (ℕ × (ℕ × (ℕ))))))))))))

abbrev pub counts_of : Thirteen → Counts
counts_of p = record {
  taken = p.0;
  part = p.1.0;
  lines = p.1.1.0;
  used = p.1.1.1.0;
  other = p.1.1.1.1.0;
  blank = p.1.1.1.1.1.0;
  malformed = p.1.1.1.1.1.1.0;
  excess = p.1.1.1.1.1.1.1.0;
  events = p.1.1.1.1.1.1.1.1.0;
  late = p.1.1.1.1.1.1.1.1.1.0;
  unmapped = p.1.1.1.1.1.1.1.1.1.1.0;
  flows = p.1.1.1.1.1.1.1.1.1.1.1.0;
  acts = p.1.1.1.1.1.1.1.1.1.1.1.1;
}

abbrev pub counts_at : List ℕ → Parsed Counts
counts_at = seen_at (λ p. Some (counts_of p)) (both_at n8_at (both_at n8_at (both_at n8_at (both_at n8_at (both_at n8_at (both_at n8_at (both_at n8_at (both_at n8_at (both_at n8_at (both_at n8_at (both_at n8_at (both_at n8_at (n8_at)))))))))))))

-- ---- a number after a flag: it is 0 if the flag is 0

abbrev pub IsUnset : Bool → ℕ → Type 0
IsUnset true n = ⊤
IsUnset false n = n ≡ 0

-- ---- the clock: seen flag and greatest n8; released flag, ms n8, serial n4; effective n8

abbrev pub clock : Clock → List ℕ
clock c = (flag c.seen ++ n8 c.greatest) ++ ((flag c.released ++ (n8 c.released_ms ++ n4 c.released_serial)) ++ n8 c.effective)

pub record FitsClock (c : Clock) : Type 0 where
  pub greatest : c.greatest < 2 ^ 64
  pub released_ms : c.released_ms < 2 ^ 64
  pub released_serial : c.released_serial < 2 ^ 32
  pub effective : c.effective < 2 ^ 64
  pub unseen : IsUnset c.seen c.greatest
  pub unreleased_ms : IsUnset c.released c.released_ms
  pub unreleased_serial : IsUnset c.released c.released_serial

abbrev pub Seen : Type 0
Seen = Bool × ℕ

abbrev pub seen_of : Bool → ℕ → Option Seen
seen_of true n = Some (true, n)
seen_of false zero = Some (false, 0)
seen_of false (suc n) = None

abbrev pub seen_flag_at : List ℕ → Parsed Seen
seen_flag_at = seen_at (λ p. seen_of p.0 p.1) (both_at flag_at n8_at)

abbrev pub Released : Type 0
Released = Bool × (ℕ × ℕ)

abbrev pub released_of : Bool → ℕ → ℕ → Option Released
released_of true ms serial = Some (true, (ms, serial))
released_of false zero zero = Some (false, (0, 0))
released_of false zero (suc n) = None
released_of false (suc n) serial = None

abbrev pub released_at : List ℕ → Parsed Released
released_at = seen_at (λ p. released_of p.0 p.1.0 p.1.1) (both_at flag_at (both_at n8_at n4_at))

abbrev pub clock_of : Seen × (Released × ℕ) → Clock
clock_of p = record { seen = p.0.0; greatest = p.0.1; released = p.1.0.0; released_ms = p.1.0.1.0; released_serial = p.1.0.1.1; effective = p.1.1 }

abbrev pub clock_at : List ℕ → Parsed Clock
clock_at = seen_at (λ p. Some (clock_of p)) (both_at seen_flag_at (both_at released_at n8_at))

-- ---- the tail: long flag and tail text, empty if long is 1; then the listed malformed lines: line n8, fault byte

abbrev pub bad : Bad → List ℕ
bad b = n8 b.line ++ b.fault ∷ []

abbrev pub FitsBad : Bad → Type 0
FitsBad b = (b.line < 2 ^ 64) × (b.fault < 256)

abbrev pub bad_of : ℕ × ℕ → Bad
bad_of p = record { line = p.0; fault = p.1 }

abbrev pub bad_at : List ℕ → Parsed Bad
bad_at = seen_at (λ p. Some (bad_of p)) (both_at n8_at byte_at)

abbrev pub IsTail : Bool → List ℕ → Type 0
IsTail true bytes = bytes ≡ []
IsTail false bytes = ⊤

abbrev pub tail : Lines → List ℕ
tail t = (flag t.long ++ text t.tail) ++ list bad t.bad

pub record FitsTail (t : Lines) : Type 0 where
  pub tail : length t.tail < 2 ^ 32
  pub none : IsTail t.long t.tail
  pub bad : (length t.bad < 2 ^ 32) × AllByRecursion FitsBad t.bad

abbrev pub tail_of : Bool → List ℕ → Option (Bool × List ℕ)
tail_of false bytes = Some (false, bytes)
tail_of true [] = Some (true, [])
tail_of true (b ∷ bytes) = None

abbrev pub tail_bytes_at : List ℕ → Parsed (Bool × List ℕ)
tail_bytes_at = seen_at (λ p. tail_of p.0 p.1) (both_at flag_at text_at)

abbrev pub lines_of : (Bool × List ℕ) × List Bad → Lines
lines_of p = record { long = p.0.0; tail = p.0.1; bad = p.1 }

abbrev pub tail_at : List ℕ → Parsed Lines
tail_at = seen_at (λ p. Some (lines_of p)) (both_at tail_bytes_at (list_at bad_at))

-- ---- the state: counts, clock, tail

abbrev pub counts_in : StateRow → Counts
counts_in s = record {
  taken = s.taken;
  part = s.part;
  lines = s.lines;
  used = s.used;
  other = s.other;
  blank = s.blank;
  malformed = s.malformed;
  excess = s.excess;
  events = s.events;
  late = s.late;
  unmapped = s.unmapped;
  flows = s.flows;
  acts = s.acts;
}

abbrev pub clock_in : StateRow → Clock
clock_in s = record { seen = s.seen; greatest = s.greatest; released = s.released; released_ms = s.released_ms; released_serial = s.released_serial; effective = s.effective }

abbrev pub tail_in : StateRow → Lines
tail_in s = record { long = s.long; tail = s.tail; bad = s.bad }

abbrev pub state : StateRow → List ℕ
state s = counts (counts_in s) ++ (clock (clock_in s) ++ tail (tail_in s))

pub record FitsState (s : StateRow) : Type 0 where
  pub counts : FitsCounts (counts_in s)
  pub clock : FitsClock (clock_in s)
  pub tail : FitsTail (tail_in s)

abbrev pub state_of : Counts × (Clock × Lines) → StateRow
state_of p = record {
  taken = p.0.taken;
  part = p.0.part;
  lines = p.0.lines;
  used = p.0.used;
  other = p.0.other;
  blank = p.0.blank;
  malformed = p.0.malformed;
  excess = p.0.excess;
  events = p.0.events;
  late = p.0.late;
  unmapped = p.0.unmapped;
  flows = p.0.flows;
  acts = p.0.acts;
  seen = p.1.0.seen;
  greatest = p.1.0.greatest;
  released = p.1.0.released;
  released_ms = p.1.0.released_ms;
  released_serial = p.1.0.released_serial;
  effective = p.1.0.effective;
  long = p.1.1.long;
  tail = p.1.1.tail;
  bad = p.1.1.bad;
}

abbrev pub state_at : List ℕ → Parsed StateRow
state_at = seen_at (λ p. Some (state_of p)) (both_at counts_at (both_at clock_at tail_at))

-- ---- the counts by parts, as they are written

abbrev pub class_counts : Counts → List ℕ
class_counts c = n8 c.lines ++ (n8 c.used ++ (n8 c.other ++ (n8 c.blank ++ n8 c.malformed)))

abbrev pub event_counts : Counts → List ℕ
event_counts c = n8 c.excess ++ (n8 c.events ++ (n8 c.late ++ (n8 c.unmapped ++ (n8 c.flows ++ n8 c.acts))))
