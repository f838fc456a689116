-- What a read of the questions brought.
use Rattle.std.specs.Prelude.{◌≡◌, ⊤, ℕ, ◌+◌, ◌<◌, ◌≤◌, ◌⊎◌, ◌++◌, List, [], take, drop, length, Option, Some, Result, Ok, Err}
use Rattle.flow_base.specs.declared.limits.Limits.{Limits}
use Rattle.flow_base.specs.declared.limits.Full.{Full}
use Rattle.audit_lex.specs.History.{History, with_bytes, lines_of}
use Rattle.report_json.specs.declared.ask.Ask.{Ask}
use Rattle.report_json.specs.declared.reply.Reply.{Reply}
use Rattle.dialogue.specs.Dialogue.{Moment, Closes, QuestionsStop, ReadsNoFurther, StopsAfter, asks, input_full, lines_in}
use Rattle.dialogue.specs.declared.halt.Halt.{Halt}
use Rattle.dialogue.specs.declared.halt.Heed.{Heed}
use Rattle.dialogue.specs.declared.halt.Heed.TheVariants as heed
use Rattle.dialogue.specs.declared.halt.Turn.{Turn}
use Rattle.dialogue.specs.declared.halt.Turn.TheVariants as turn

-- whether the dialogue goes on
abbrev pub turn_heeded : Result Heed Halt → Result Turn Halt
turn_heeded (Ok (heed.Piece n)) = Ok turn.More
turn_heeded (Ok heed.Ended) = Ok turn.Ended
turn_heeded (Ok heed.Silence) = Ok turn.More
turn_heeded (Err why) = Err why

-- the bytes that were heard, and all that are left if the dialogue doesn't go on
abbrev pub heeded : Result Heed Halt → List ℕ → List ℕ
heeded (Ok (heed.Piece n)) q = take n q
heeded (Ok heed.Ended) q = q
heeded (Ok heed.Silence) q = []
heeded (Err why) q = q

-- what is left of the questions
abbrev pub LeftAfter : List ℕ → Option (List ℕ) → Heed → Type 0
LeftAfter q left (heed.Piece n) = (left ≡ Some (drop n q)) × (n ≤ length q)
LeftAfter q left heed.Ended = (count : ℕ) × (count ≤ 65536) × (left ≡ Some (drop count q))
LeftAfter q left heed.Silence = (q ≡ []) × (left ≡ Some q)

-- a piece has a byte, and fits
abbrev pub IsProgress : ℕ → Heed → Type 0
IsProgress room (heed.Piece n) = (0 < n) × (n ≤ room)
IsProgress room heed.Ended = ⊤
IsProgress room heed.Silence = ⊤

-- no more lines than bytes
abbrev pub AreFew : (lines heard : ℕ) → Heed → Type 0
AreFew lines heard (heed.Piece n) = lines ≤ heard + n
AreFew lines heard heed.Ended = ⊤
AreFew lines heard heed.Silence = lines ≤ heard

-- all lines that end within `room` bytes were answered, and a byte more is there
pub record PassesRoom (limits : Limits) (room : ℕ) (history : History) (q : List ℕ)
    (answered : List (Option Ask)) (full : Full) : Type 0 where
  pub ended : List (List ℕ)
  pub lines : lines_of (with_bytes history (take room q)) ≡ lines_of history ++ ended
  pub all : answered ≡ asks limits ended
  pub past : room < length q
  pub is : full ≡ input_full limits

-- `end` is among the lines that end within `room` bytes
pub record EndsWithin (limits : Limits) (room : ℕ) (from : Moment) (history : History) (q : List ℕ) : Type 0 where
  pub answered : List (List ℕ)
  pub unheard : List (List ℕ)
  pub lines : lines_of (with_bytes history (take room q)) ≡ lines_of history ++ (answered ++ unheard)
  pub said : List Reply
  pub to : Moment
  pub closes : Closes limits from (asks limits answered) said to

-- at an end of the dialogue, `end` came within the room
abbrev pub ClosesWithin : Limits → ℕ → Moment → History → List ℕ → Heed → Type 0
ClosesWithin limits room from history q (heed.Piece n) = ⊤
ClosesWithin limits room from history q heed.Ended = EndsWithin limits room from history q
ClosesWithin limits room from history q heed.Silence = ⊤

-- the questions end within the limit, or `end` comes within it
abbrev pub KeepsWithin : Limits → Moment → List ℕ → Type 0
KeepsWithin limits from q = (length q ≤ limits.input) ⊎ EndsWithin limits limits.input from [] q

-- The questions of a dialogue that is done: at most 65,536 bytes of them were read after a prefix that doesn't end the dialogue, and
-- no limit would be passed
pub record AreHeardOut (limits : Limits) (from : Moment) (text : List ℕ) (left : Option (List ℕ)) : Type 0 where
  pub no_further : ReadsNoFurther limits from text left
  pub within : KeepsWithin limits from text
  pub fits : (said : List Reply) (to : Moment) (full : Full) → ¬ StopsAfter limits (QuestionsStop limits text) from (asks limits (lines_in text)) said to full
