-- The time and the serial number that a line bears.
--
-- They stand in the first brackets of the line, as `msg=audit(SECS.MMM:SERIAL)`.
use Rattle.std.specs.Prelude.{ℕ, ◌+◌, ◌-◌, ◌*◌, ◌^◌, ◌==◌, ◌&&◌, ◌||◌, Bool, List, ◌∷◌, ◌++◌, length, drop, Option, None, Some, nat_lt, nat_le, codes, if◌then◌else◌}
use Rattle.std.specs.List.{list_all}
use Rattle.std.specs.Char.{is_ascii_digit}
use Rattle.std.specs.Option.{option_and_then}
use Rattle.std.specs.Str.{bytes_eq}
use Rattle.audit_lex.specs.Values.{dec32_of, dec64_of}
use Rattle.order_text.specs.Cut.{first_cut}

-- a line in parts: what stands before its first bracket, the text of its time, that of its serial number, what stands
-- after them; and the time in milliseconds and the number that the texts spell
pub record Stamp : Type 0 where
  pub front : List ℕ
  pub time : List ℕ
  pub serial : List ℕ
  pub rest : List ℕ
  pub ms : ℕ
  pub number : ℕ

-- the line that has these parts
abbrev pub line_of : Stamp → List ℕ
line_of s = s.front ++ 40 ∷ (s.time ++ 58 ∷ (s.serial ++ 41 ∷ s.rest))

-- a digit or a dot
abbrev pub is_stamp_byte : ℕ → Bool
is_stamp_byte b = is_ascii_digit b || b == 46

-- milliseconds, where seconds and milliseconds are there and the seconds are below 10^15
abbrev pub ms_from : Option ℕ → Option ℕ → Option ℕ
ms_from (Some seconds) (Some millis) = if nat_lt seconds (10 ^ 15) then Some (seconds * 1000 + millis) else None
ms_from _ _ = None

-- milliseconds by a text of at most 15 digits and one of three
abbrev pub ms_of : List ℕ × List ℕ → Option ℕ
ms_of parts =
    if nat_le (length parts.0) 15 && length parts.1 == 3 then ms_from (dec64_of parts.0) (dec32_of parts.1) else None

-- the milliseconds that a text of seconds, a dot and milliseconds spells
abbrev pub time_of : List ℕ → Option ℕ
time_of text = if list_all is_stamp_byte text then option_and_then ms_of (first_cut 46 text) else None

-- the serial number that a text spells
abbrev pub number_of : List ℕ → Option ℕ
number_of text = if list_all is_stamp_byte text then dec32_of text else None

-- whether a text ends with `msg=audit`
abbrev pub ends_as_header : List ℕ → Bool
ends_as_header front = nat_le 9 (length front) && bytes_eq (drop (length front - 9) front) (codes "msg=audit")

-- the parts of a line, if the texts spell a time and a number
abbrev pub stamp_from : List ℕ → List ℕ → List ℕ → List ℕ → Option ℕ → Option ℕ → Option Stamp
stamp_from front time serial rest (Some ms) (Some number) =
    Some (record { front = front; time = time; serial = serial; rest = rest; ms = ms; number = number })
stamp_from front time serial rest _ _ = None

-- the parts of a line whose first bracket stands after a header's words
abbrev pub stamp_after : List ℕ → List ℕ → List ℕ × List ℕ → Option Stamp
stamp_after front time parts =
    if ends_as_header front then stamp_from front time parts.0 parts.1 (time_of time) (number_of parts.0) else None

abbrev pub stamp_timed : List ℕ → List ℕ × List ℕ → Option Stamp
stamp_timed front parts = option_and_then (stamp_after front parts.0) (first_cut 41 parts.1)

abbrev pub stamp_fronted : List ℕ × List ℕ → Option Stamp
stamp_fronted parts = option_and_then (stamp_timed parts.0) (first_cut 58 parts.1)

-- the parts of a line that bears a time and a serial number
abbrev pub stamp_of : List ℕ → Option Stamp
stamp_of line = option_and_then stamp_fronted (first_cut 40 line)
