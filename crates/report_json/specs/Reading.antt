-- What is found in a line that is cut at its spaces; by the contract of `read_question` it is the grammar of Asks.
use Rattle.std.specs.Prelude.{ℕ, ◌+◌, ◌*◌, ◌^◌, ◌==◌, ◌&&◌, List, [], ◌∷◌, length, Option, None, Some, nat_lt, nat_le, if◌then◌else◌, codes, option_map}
use Rattle.std.specs.List.{list_all, position_or_len, before_first, after_first}
use Rattle.std.specs.Option.{option_and_then}
use Rattle.std.specs.Char.{is_ascii_digit}
use Rattle.std.specs.Str.{bytes_eq}
use Rattle.std.specs.Str.Parse.{digits_value}
use Rattle.memchr.specs.Find.{is_byte}
use Rattle.flow_base.specs.declared.types.EntityId.{EntityId}
use Rattle.report_json.specs.declared.ask.Ask.{Ask}
use Rattle.report_json.specs.declared.ask.Ask.TheVariants as ask
use Rattle.reach_rows.specs.declared.questions.Question.TheVariants as question

-- what stands before the first such byte and after it, if there is one
abbrev pub cut_at : ℕ → List ℕ → Option (List ℕ × List ℕ)
cut_at byte text =
    if nat_lt (position_or_len (is_byte byte) text) (length text)
    then Some (before_first (is_byte byte) text, after_first (is_byte byte) text) else None

-- from one to `most` decimal digits
abbrev pub number_of : ℕ → List ℕ → Option ℕ
number_of most text =
    if nat_lt 0 (length text) && (nat_le (length text) most && list_all is_ascii_digit text)
    then Some (digits_value 10 text) else None

-- the object of a number of 32 bits
abbrev pub id_from : Option ℕ → Option EntityId
id_from None = None
id_from (Some value) = if nat_lt value (2 ^ 32) then Some (record { 0 = value }) else None

-- the object that 1 to 10 digits spell
abbrev pub id_of : List ℕ → Option EntityId
id_of text = id_from (number_of 10 text)

-- both parts of a time as milliseconds
abbrev pub time_from : Option ℕ → Option ℕ → Option ℕ
time_from (Some seconds) (Some millis) = Some (seconds * 1000 + millis)
time_from _ _ = None

-- the time of what stands before the point and after it
abbrev pub time_in : List ℕ × List ℕ → Option ℕ
time_in parts =
    if length parts.1 == 3 then time_from (number_of 15 parts.0) (number_of 3 parts.1) else None

-- the time that seconds, a point and 3 digits spell
abbrev pub time_of : List ℕ → Option ℕ
time_of text = option_and_then time_in (cut_at 46 text)

-- an object and a time, if both are there
abbrev pub bounded_from : Option EntityId → Option ℕ → Option (EntityId × Option ℕ)
bounded_from (Some of) (Some ms) = Some (of, Some ms)
bounded_from _ _ = None

-- what a text asks by its parts around the first space
abbrev pub bounded_in : List ℕ → Option (List ℕ × List ℕ) → Option (EntityId × Option ℕ)
bounded_in text None = option_map (λ of. (of, None)) (id_of text)
bounded_in text (Some parts) = bounded_from (id_of parts.0) (time_of parts.1)

-- the object, and after one space the time if there is one
abbrev pub bounded_of : List ℕ → Option (EntityId × Option ℕ)
bounded_of text = bounded_in text (cut_at 32 text)

-- what a line of one word asks
abbrev pub word_of : List ℕ → Option Ask
word_of word =
    if bytes_eq word (codes "settle") then Some ask.Settle else
    if bytes_eq word (codes "stat") then Some ask.Stat else
    if bytes_eq word (codes "end") then Some ask.End else None

-- the question for what reaches an object by a time
abbrev pub back_from : EntityId × Option ℕ → Ask
back_from asked = ask.Question (question.Back asked.0 asked.1)

-- the question for what an object reaches from a time on
abbrev pub fore_from : EntityId × Option ℕ → Ask
fore_from asked = ask.Question (question.Fore asked.0 asked.1)

-- the question why one object reaches another
abbrev pub why_from : Option EntityId → Option (EntityId × Option ℕ) → Option Ask
why_from (Some from) (Some bounded) = Some (ask.Why from bounded.0 bounded.1)
why_from _ _ = None

-- what is asked by the first object's text and by the rest
abbrev pub why_in : List ℕ × List ℕ → Option Ask
why_in parts = why_from (id_of parts.0) (bounded_of parts.1)

-- two objects, and after one space the time if there is one
abbrev pub why_of : List ℕ → Option Ask
why_of text = option_and_then why_in (cut_at 32 text)

-- the objects with a text of at least one byte
abbrev pub find_of : List ℕ → Option Ask
find_of [] = None
find_of (byte ∷ text) = Some (ask.Find (byte ∷ text))

-- what an object is
abbrev pub show_of : List ℕ → Option Ask
show_of text = option_map ask.Show (id_of text)

-- what a line asks with more after its first word
abbrev pub words_of : List ℕ → List ℕ → Option Ask
words_of word rest =
    if bytes_eq word (codes "take") then option_map ask.Take (number_of 15 rest) else
    if bytes_eq word (codes "back") then option_map back_from (bounded_of rest) else
    if bytes_eq word (codes "fore") then option_map fore_from (bounded_of rest) else
    if bytes_eq word (codes "why") then why_of rest else
    if bytes_eq word (codes "find") then find_of rest else
    if bytes_eq word (codes "show") then show_of rest else None

-- what a line asks by its parts around the first space
abbrev pub ask_in : List ℕ → Option (List ℕ × List ℕ) → Option Ask
ask_in line None = word_of line
ask_in line (Some parts) = words_of parts.0 parts.1

-- what a line asks, if anything
abbrev pub ask_of : List ℕ → Option Ask
ask_of line = ask_in line (cut_at 32 line)
