-- Where the parts of a line stand.
use Rattle.std.specs.Prelude.{◌≡◌, ◌+◌, ◌<◌, ℕ, List, Option, None, Some, length, take, drop}
use Rattle.order_text.specs.Stamp.{Stamp, stamp_of}
use Rattle.order_queue.specs.declared.marks.Marks.{Marks}

-- what stands after the byte after this many
abbrev pub past : ℕ → List ℕ → List ℕ
past count text = drop (count + 1) text

-- the parts of a line by their lengths, with a byte between two of them
abbrev pub parts_at : List ℕ → Marks → Stamp
parts_at line m = record {
  front = take m.front line;
  time = take m.time (past m.front line);
  serial = take m.serial (past m.time (past m.front line));
  rest = past m.serial (past m.time (past m.front line));
  ms = m.ms;
  number = m.number;
}

-- a line is long enough for parts of these lengths
pub record FitsLine (m : Marks) (line : List ℕ) : Type 0 where
  pub front : m.front < length line
  pub time : m.time < length (past m.front line)
  pub serial : m.serial < length (past m.time (past m.front line))

-- the parts of a line stand there; without a stamp it has none
abbrev pub AreMarks : Option Marks → List ℕ → Type 0
AreMarks None line = stamp_of line ≡ None
AreMarks (Some m) line = FitsLine m line × (stamp_of line ≡ Some (parts_at line m))
