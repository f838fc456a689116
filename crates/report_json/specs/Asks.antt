-- The grammar of question lines, as relations between texts and what they ask.
use Rattle.std.specs.Prelude.{◌≡◌, ◌≢◌, ◌<◌, ◌≤◌, ℕ, ◌+◌, ◌*◌, ◌^◌, List, [], ◌++◌, length, Option, None, Some, codes}
use Rattle.std.specs.Str.Parse.{IsNumeral, digits_value}
use Rattle.flow_base.specs.declared.types.EntityId.{EntityId}
use Rattle.report_json.specs.declared.ask.Ask.{Ask}
use Rattle.report_json.specs.declared.ask.Ask.TheVariants as ask
use Rattle.reach_rows.specs.declared.questions.Question.{Question}
use Rattle.reach_rows.specs.declared.questions.Question.TheVariants as question

-- from one to `most` decimal digits that spell the number, with or without leading zeros
pub record Spells (most : ℕ) (text : List ℕ) (number : ℕ) : Type 0 where
  pub digits : IsNumeral 10 text
  pub short : length text ≤ most
  pub value : number ≡ digits_value 10 text

-- 1 to 10 digits that spell the object's number, which has 32 bits
abbrev pub IsId : List ℕ → EntityId → Type 0
IsId text id = Spells 10 text id.0 × (id.0 < 2 ^ 32)

-- seconds of 1 to 15 digits, a point and 3 digits, as milliseconds
pub record IsTime (text : List ℕ) (ms : ℕ) : Type 0 where
  pub seconds : List ℕ
  pub millis : List ℕ
  pub written : text ≡ seconds ++ (codes "." ++ millis)
  pub whole : IsNumeral 10 seconds
  pub short : length seconds ≤ 15
  pub part : IsNumeral 10 millis
  pub three : length millis ≡ 3
  pub value : ms ≡ digits_value 10 seconds * 1000 + digits_value 10 millis

-- the object, and after one space the time if there is one
abbrev pub IsBounded : List ℕ → EntityId → Option ℕ → Type 0
IsBounded text of None = IsId text of
IsBounded text of (Some ms) = (id time : List ℕ) × (text ≡ id ++ (codes " " ++ time)) × IsId id of × IsTime time ms

-- the line asks this question
abbrev pub IsQuestion : List ℕ → Question → Type 0
IsQuestion line (question.Back of until) = (rest : List ℕ) × (line ≡ codes "back " ++ rest) × IsBounded rest of until
IsQuestion line (question.Fore of since) = (rest : List ℕ) × (line ≡ codes "fore " ++ rest) × IsBounded rest of since

-- the line asks why one object reaches another, by a time if there is one
abbrev pub IsWhy : List ℕ → EntityId → EntityId → Option ℕ → Type 0
IsWhy line from to until = (first rest : List ℕ) × (line ≡ codes "why " ++ (first ++ (codes " " ++ rest))) × IsId first from × IsBounded rest to until

-- the line asks for this text
abbrev pub IsFind : List ℕ → List ℕ → Type 0
IsFind line text = (line ≡ codes "find " ++ text) × (text ≢ [])

-- the line asks this
abbrev pub IsAsk : List ℕ → Ask → Type 0
IsAsk line (ask.Take count) = (digits : List ℕ) × (line ≡ codes "take " ++ digits) × Spells 15 digits count
IsAsk line ask.Settle = line ≡ codes "settle"
IsAsk line (ask.Question asked) = IsQuestion line asked
IsAsk line (ask.Why from to until) = IsWhy line from to until
IsAsk line (ask.Find text) = IsFind line text
IsAsk line (ask.Show id) = (digits : List ℕ) × (line ≡ codes "show " ++ digits) × IsId digits id
IsAsk line ask.Stat = line ≡ codes "stat"
IsAsk line ask.End = line ≡ codes "end"
