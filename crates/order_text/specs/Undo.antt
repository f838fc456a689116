-- What is written in place of lines, and how it is undone.
--
-- A line that was changed ends with the byte 0x1D and a mark that keeps what stood there before: the time, and if a part of
-- it was rewritten too, how many bytes stand in place of that part, and the part.
--
--     WAS={ audit(SECS.MMM:SERIAL) }
--     WAS={ audit(SECS.MMM:SERIAL) COUNT PART }
use Rattle.std.specs.Prelude.{ℕ, ◌-◌, ◌^◌, ◌==◌, ◌&&◌, Bool, false, List, ◌∷◌, ◌++◌, Option, None, Some, length, take, drop, not, option_map, is_some, nat_lt, nat_le, codes, decimal, if◌then◌else◌}
use Rattle.std.specs.List.{list_all}
use Rattle.std.specs.Option.{option_and_then}
use Rattle.std.specs.Str.{bytes_eq}
use Rattle.audit_lex.specs.Header.{behind}
use Rattle.audit_lex.specs.Values.{dec32_of}
use Rattle.order_text.specs.Cut.{first_cut, last_cut}
use Rattle.order_text.specs.Stamp.{Stamp, line_of, stamp_of}
use Rattle.order_text.specs.Laws.{is_one_line}
use Rattle.order_text.specs.declared.rewrite.Rewrite.{Rewrite}

-- ---- marks

-- a stamp and the end of the mark that keeps it alone
abbrev pub kept_stamp : List ℕ → List ℕ → List ℕ
kept_stamp time serial = time ++ 58 ∷ (serial ++ codes ") }")

-- the mark that keeps a stamp, after the byte 0x1D
abbrev pub mark_of : List ℕ → List ℕ → List ℕ
mark_of time serial = codes "WAS={ audit(" ++ kept_stamp time serial

-- a count of bytes, the part that they stand for, and the end of the mark that keeps it
abbrev pub kept_part : ℕ → List ℕ → List ℕ
kept_part count part = decimal count ++ 32 ∷ (part ++ codes " }")

-- the mark that keeps a stamp and a part, after the byte 0x1D
abbrev pub change_mark : List ℕ → List ℕ → ℕ → List ℕ → List ℕ
change_mark time serial count part = codes "WAS={ audit(" ++ (time ++ 58 ∷ (serial ++ 41 ∷ (32 ∷ kept_part count part)))

-- what a mark keeps: the text of a time, and if a part was rewritten, the count of the bytes in its place and the part
pub record Kept : Type 0 where
  pub time : List ℕ
  pub part : Option (ℕ × List ℕ)

-- the text before an ending, if it ends so
abbrev pub before_end : List ℕ → List ℕ → Option (List ℕ)
before_end ending text =
    if bytes_eq (drop (length text - length ending) text) ending then Some (take (length text - length ending) text) else None

-- a count and a part, if the count is spelled and the part ends as one in a mark
abbrev pub part_from : Option ℕ → Option (List ℕ) → Option (ℕ × List ℕ)
part_from (Some count) (Some part) = Some (count, part)
part_from _ _ = None

abbrev pub part_in : List ℕ × List ℕ → Option (ℕ × List ℕ)
part_in parts = part_from (dec32_of parts.0) (before_end (codes " }") parts.1)

-- the part that is kept after the stamp in a mark, if one is
abbrev pub part_after : List ℕ × List ℕ → Option (ℕ × List ℕ)
part_after parts = option_and_then part_in (option_and_then (first_cut 32) (behind (codes " ") parts.1))

-- what a mark keeps, by the text of its time and what stands after that
abbrev pub kept_with : List ℕ × List ℕ → Kept
kept_with parts = record { time = parts.0; part = option_and_then part_after (first_cut 41 parts.1) }

-- what a mark keeps
abbrev pub kept_in : List ℕ → Option Kept
kept_in mark = option_map kept_with (option_and_then (first_cut 58) (behind (codes "WAS={ audit(") mark))

-- what stands before a mark, and what it keeps
abbrev pub marked_by : List ℕ × List ℕ → Option (List ℕ × Kept)
marked_by parts = option_map (λ kept. (parts.0, kept)) (kept_in parts.1)

-- what stands before the last mark, and what it keeps
abbrev pub last_mark : List ℕ → Option (List ℕ × Kept)
last_mark rest = option_and_then marked_by (last_cut 29 rest)

-- whether the text after a stamp ends with a mark
abbrev pub is_marked : Stamp → Bool
is_marked s = is_some (last_mark s.rest)

-- ---- lines as they were

-- a text with the part in it again that was rewritten
abbrev pub restored : List ℕ → Option (ℕ × List ℕ) → List ℕ
restored text None = text
restored text (Some (count, part)) = part ++ drop count text

-- a line without its last mark, and with what that keeps
abbrev pub undone_by : Stamp → List ℕ → Option (List ℕ × Kept) → List ℕ
undone_by s line None = line
undone_by s line (Some (rest, kept)) = line_of (record s { time = kept.time; rest = restored rest kept.part })

abbrev pub undone_of : List ℕ → Option Stamp → List ℕ
undone_of line None = line
undone_of line (Some s) = undone_by s line (last_mark s.rest)

-- a line as it was before it was changed; a line that was not changed stays
abbrev pub undone : List ℕ → List ℕ
undone line = undone_of line (stamp_of line)

-- ---- lines as they are written

-- the same parts with this time, and a mark that keeps the one before
abbrev pub raised : Stamp → List ℕ → ℕ → Stamp
raised s time ms = record s { time = time; ms = ms; rest = s.rest ++ 29 ∷ mark_of s.time s.serial }

-- the same parts with this time, if theirs is less
abbrev pub risen : Stamp → List ℕ → ℕ → Stamp
risen s time ms = if nat_lt s.ms ms then record s { time = time; ms = ms } else s

-- A rewrite can be kept: what it replaces is there, without the byte 0x1D, and what it puts there is a text of fewer than
-- 2^32 bytes on one line.
abbrev pub fits : Rewrite → List ℕ → Bool
fits r rest =
    nat_le r.len (length rest) && (list_all (λ byte. not (byte == 29)) (take r.len rest)
    && (nat_lt (length r.text) (2 ^ 32) && is_one_line r.text))

-- a rewrite of this text, if it can be kept
abbrev pub fitting : Option Rewrite → List ℕ → Option Rewrite
fitting None rest = None
fitting (Some r) rest = if fits r rest then Some r else None

-- the text after a stamp with a rewrite in it, and the mark that keeps the stamp and what was replaced
abbrev pub changed : Stamp → Rewrite → List ℕ
changed s r = (r.text ++ drop r.len s.rest) ++ 29 ∷ change_mark s.time s.serial (length r.text) (take r.len s.rest)

-- the same parts with a rewrite, and with this time if theirs is less
abbrev pub rewritten : Stamp → List ℕ → ℕ → Rewrite → Stamp
rewritten s time ms r = record (risen s time ms) { rest = changed s r }

-- A line as it is written after times up to this one: a lesser time is raised to it, and a part is rewritten, if that is
-- asked for. A line with a mark gets one more, so that undoing takes this one away.
abbrev pub written_by : List ℕ → ℕ → List ℕ → Stamp → Option Rewrite → List ℕ
written_by time ms line s (Some r) = line_of (rewritten s time ms r)
written_by time ms line s None =
    if nat_lt s.ms ms then line_of (raised s time ms) else if is_marked s then line_of (raised s s.time s.ms) else line

-- a line without a stamp stays
abbrev pub written_of : List ℕ → ℕ → List ℕ → Option Stamp → Option Rewrite → List ℕ
written_of time ms line None change = line
written_of time ms line (Some s) change = written_by time ms line s (fitting change s.rest)

abbrev pub written_after : List ℕ → ℕ → List ℕ → Option Rewrite → List ℕ
written_after time ms line change = written_of time ms line (stamp_of line) change

-- ---- lines that were rewritten

-- whether a mark keeps a part
abbrev pub keeps_part : Option (List ℕ × Kept) → Bool
keeps_part None = false
keeps_part (Some (rest, kept)) = is_some kept.part

abbrev pub keeps_part_of : Option Stamp → Bool
keeps_part_of None = false
keeps_part_of (Some s) = keeps_part (last_mark s.rest)

-- whether a part of a line is rewritten, as its last mark says
abbrev pub is_rewritten : List ℕ → Bool
is_rewritten line = keeps_part_of (stamp_of line)

-- whether a rewrite of a line can be kept
abbrev pub takes_rewrite : Option Rewrite → Option Stamp → Bool
takes_rewrite change None = false
takes_rewrite change (Some s) = is_some (fitting change s.rest)
