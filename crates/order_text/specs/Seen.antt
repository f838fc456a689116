-- A stamp that is borrowed, and what a mark keeps.
use Rattle.std.specs.Prelude.{ℕ, List, option_map}
use Rattle.std.specs.Borrow.{Bor}
use Rattle.order_text.specs.Stamp as text
use Rattle.order_text.specs.Undo as mark
use Rattle.order_text.specs.declared.stamp.Stamp.{Stamp}
use Rattle.order_text.specs.declared.mark.Kept.{Kept}

-- the parts that a stamp lends
abbrev pub stamp_seen : Stamp → text.Stamp
stamp_seen s = record { front = s.front.now; time = s.time.now; serial = s.serial.now; rest = s.rest.now; ms = s.ms; number = s.number }

-- a count and a part that a mark lends
abbrev pub part_seen : ℕ × Bor (List ℕ) → ℕ × List ℕ
part_seen p = (p.0, p.1.now)

-- what a mark lends
abbrev pub kept_seen : Kept → mark.Kept
kept_seen k = record { time = k.time.now; part = option_map part_seen k.part }
