-- What is answered to a list of questions over a log.
use Rattle.std.specs.Prelude.{Bool, true, ◌≡◌, ◌<◌, ◌≤◌, ◌+◌, ◌⊎◌, ℕ, nat_lt, List, [], ◌∷◌, ◌++◌, map, take, drop, length, flat_map, Option, None, Some, if◌then◌else◌}
use Rattle.flow_base.specs.declared.limits.Limits.{Limits}
use Rattle.flow_base.specs.declared.limits.Full.{Full}
use Rattle.flow_base.specs.declared.limits.Limit.TheVariants as limit
use Rattle.audit_lex.specs.History.{History, Settle, with_bytes, lines_of}
use Rattle.reach_model.specs.declared.modes.Mode.{Mode}
use Rattle.report_json.specs.declared.ask.Ask.{Ask}
use Rattle.report_json.specs.declared.ask.Ask.TheVariants as ask
use Rattle.report_json.specs.declared.reply.Reply.{Reply}
use Rattle.report_json.specs.declared.reply.Reply.TheVariants as reply
use Rattle.report_json.specs.Reading.{ask_of}
use Rattle.report_json.specs.Replies.{text_of}
use Rattle.ingest.specs.Events.{events_of}
use Rattle.ingest.specs.Replies.{IsReply}
use Rattle.ingest.specs.Stops.{Stops}
use Rattle.dialogue.specs.declared.halt.Turn.{Turn}
use Rattle.dialogue.specs.declared.halt.Turn.TheVariants as turn

-- the mode of a run, whether it takes a log, what it has taken of it so far, and the bytes that are left of it
pub record Moment : Type 0 where
  pub mode : Mode
  pub takes : Bool
  pub history : History
  pub log : List ℕ

-- nothing is taken
abbrev pub begin : Mode → List ℕ → Moment
begin mode log = record { mode = mode; takes = true; history = []; log = log }

-- this many further bytes of the log are taken
abbrev pub taken_on : ℕ → Moment → Moment
taken_on count m = record m { history = with_bytes m.history (take count m.log); log = drop count m.log }

-- what was taken is settled
abbrev pub settled_on : Moment → Moment
settled_on m = record m { history = m.history ++ Settle ∷ [] }

-- The moment after a question. Only `take` and `settle` change it, if the run takes a log, and no question changes the kind of
-- the run
abbrev pub after : Option Ask → Moment → Moment
after None m = m
after (Some (ask.Take count)) m = if m.takes then taken_on count m else m
after (Some ask.Settle) m = if m.takes then settled_on m else m
after (Some _) m = m

-- The reply answers the question at this moment, as the mode of the run does. If the run takes no log, `take` and `settle` are
-- bad questions
abbrev pub Answers : Limits → Option Ask → Moment → Reply → Type 0
Answers limits None m r = r ≡ reply.BadQuestion
Answers limits (Some (ask.Take count)) m r = r ≡ (if m.takes then reply.Take (length (take count m.log)) else reply.BadQuestion)
Answers limits (Some ask.Settle) m r =
    r ≡ (if m.takes then reply.Settle (length (events_of limits (m.history ++ Settle ∷ []))) else reply.BadQuestion)
Answers limits (Some ask.End) m r = r ≡ reply.End
Answers limits (Some asked) m r = IsReply m.mode limits m.history asked r

-- `end` ends the dialogue
abbrev pub turn_of : Option Ask → Turn
turn_of (Some ask.End) = turn.Ended
turn_of _ = turn.More

-- the first if the dialogue has ended, else the second
abbrev pub AfterTurn : Turn → Type 0 → Type 0 → Type 0
AfterTurn turn.Ended closed later = closed
AfterTurn turn.More closed later = later

-- the questions are answered in order up to the first `end`, each by a reply at its moment
abbrev pub Dialogue : Limits → Moment → List (Option Ask) → List Reply → Moment → Type 0
Dialogue limits from [] [] to = to ≡ from
Dialogue limits from [] (r ∷ replies) to = ⊥
Dialogue limits from (question ∷ questions) [] to = ⊥
Dialogue limits from (question ∷ questions) (r ∷ replies) to =
    Answers limits question from r
    × AfterTurn (turn_of question) ((replies ≡ []) × (to ≡ after question from)) (Dialogue limits (after question from) questions replies to)

-- what a line asks, if it isn't longer than a question may be
abbrev pub asked : ℕ → List ℕ → Option Ask
asked most line = if nat_lt most (length line) then None else ask_of line

-- what lines ask
abbrev pub asks : Limits → List (List ℕ) → List (Option Ask)
asks limits lines = map (asked limits.question) lines

-- the lines of a text, whose end ends its last line
abbrev pub lines_in : List ℕ → List (List ℕ)
lines_in text = lines_of (with_bytes [] text ++ Settle ∷ [])

-- the lines of replies
abbrev pub texts : List Reply → List ℕ
texts replies = flat_map text_of replies

-- the questions were answered so, and whatever is answered to further ones goes on from there
abbrev pub Leads : Limits → Moment → List (Option Ask) → List Reply → Moment → Type 0
Leads limits from front said to = (questions : List (Option Ask)) (replies : List Reply) (end : Moment) →
    Dialogue limits to questions replies end → Dialogue limits from (front ++ questions) (said ++ replies) end

-- the questions were answered so, and `end` is among them
abbrev pub Closes : Limits → Moment → List (Option Ask) → List Reply → Moment → Type 0
Closes limits from front said to = (questions : List (Option Ask)) → Dialogue limits from (front ++ questions) said to

-- the bytes are a prefix of what is answered to a prefix of the questions
pub record IsFront (limits : Limits) (from : Moment) (questions : List (Option Ask)) (bytes : List ℕ) : Type 0 where
  pub front : List (Option Ask)
  pub rest : List (Option Ask)
  pub said : List Reply
  pub to : Moment
  pub more : List ℕ
  pub parts : questions ≡ front ++ rest
  pub dialogue : Dialogue limits from front said to
  pub bytes_are : bytes ++ more ≡ texts said

-- a cause to stop beyond the questions, after these were answered
abbrev pub Beyond : Type 1
Beyond = List (Option Ask) → Full → Type 0

-- nothing but the questions stops a run
abbrev pub nothing_beyond : Beyond
nothing_beyond = λ answered full. ⊥

-- the first of these questions would take the history past this limit
abbrev pub NextStops : Limits → Moment → List (Option Ask) → Full → Type 0
NextStops limits to [] full = ⊥
NextStops limits to (next ∷ later) full = Stops limits (after next to).history full

-- After these replies, at this moment, a limit stops a run: some of the questions were answered so,
-- none of them `end`, and then the next question would take the history past the limit, or there is a
-- cause beyond the questions that were answered
pub record StopsAfter (limits : Limits) (beyond : Beyond) (from : Moment)
    (questions : List (Option Ask)) (said : List Reply) (to : Moment) (full : Full) : Type 0 where
  pub answered : List (Option Ask)
  pub later : List (Option Ask)
  pub parts : questions ≡ answered ++ later
  pub leads : Leads limits from answered said to
  pub cause : NextStops limits to later full ⊎ beyond answered full

-- the refusal of a byte past the limit on input
abbrev pub input_full : Limits → Full
input_full limits = record { limit = limit.Input; number = limits.input }

-- all lines that end within the limit on input were answered, and the text has a byte more
pub record QuestionsStop (limits : Limits) (text : List ℕ) (answered : List (Option Ask))
    (full : Full) : Type 0 where
  pub all : answered ≡ asks limits (lines_of (with_bytes [] (take limits.input text)))
  pub past : limits.input < length text
  pub is : full ≡ input_full limits

-- what was read of the questions is a prefix whose lines leave the dialogue going on, and at most 65,536
-- bytes after it
pub record ReadsNoFurther (limits : Limits) (from : Moment) (text : List ℕ) (left : Option (List ℕ)) : Type 0 where
  pub before : ℕ
  pub count : ℕ
  pub said : List Reply
  pub to : Moment
  pub leads : Leads limits from (asks limits (lines_of (with_bytes [] (take before text)))) said to
  pub short : count ≤ 65536
  pub told : left ≡ Some (drop (before + count) text)
