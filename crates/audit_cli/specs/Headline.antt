-- What a run writes, and how it ends.
use Rattle.std.specs.Prelude.{◌≡◌, ◌⊎◌, ⊤, ℕ, List, [], ◌∷◌, ◌++◌, length, Option, None, Some}
use Rattle.std.specs.Io.KnownBytes.{Appends}
use Rattle.flow_base.specs.declared.limits.Limits.{Limits}
use Rattle.flow_base.specs.declared.limits.Full.{Full}
use Rattle.reach_model.specs.declared.modes.Mode.{Mode}
use Rattle.reach_model.specs.declared.modes.Mode.TheVariants.{Plain}
use Rattle.report_json.specs.declared.ask.Ask.{Ask}
use Rattle.report_json.specs.declared.ask.Ask.TheVariants as ask
use Rattle.reach_rows.specs.declared.questions.Question.TheVariants as question
use Rattle.report_json.specs.declared.reply.Reply.{Reply}
use Rattle.report_json.specs.Replies.{text_of}
use Rattle.ingest.specs.Stops.{Fits, Stops}
use Rattle.audit_cli.specs.declared.words.Job.{Job}
use Rattle.audit_cli.specs.declared.words.Job.TheVariants as job
use Rattle.dialogue.specs.Dialogue.{Moment, Dialogue, Beyond, IsFront, StopsAfter, QuestionsStop, ReadsNoFurther, nothing_beyond, begin, asks, lines_in, texts}
use Rattle.audit_cli.specs.Trials.{AreModeLines, AreCutLines, all_modes, trial_history}

-- what `back` asks: to take all of the log, to settle, and what the object can have come from
abbrev pub back_questions : ℕ → List ℕ → List (Option Ask)
back_questions of log =
    Some (ask.Take (length log)) ∷ Some ask.Settle ∷ Some (ask.Question (question.Back (record { 0 = of }) None)) ∷ []

-- what a job asks that keeps its rows in memory, over a log and a text of questions. `trial` has neither
abbrev pub questions_of : Limits → Job → (log asked : List ℕ) → List (Option Ask)
questions_of limits (job.Back of) log asked = back_questions of log
questions_of limits (job.Watch mode name) log asked = asks limits (lines_in asked)
questions_of limits (job.Trial seed events) log asked = []
questions_of limits (job.Reduce kept name store resume) log asked = []
questions_of limits (job.WatchStore kept name store) log asked = []
questions_of limits (job.Query store) log asked = []

-- the source of the questions is observable, if the job has questions
abbrev pub Tells : Job → Option (List ℕ) → List ℕ → Type 0
Tells (job.Back of) left asked = ⊤
Tells (job.Watch mode name) left asked = left ≡ Some asked
Tells (job.Trial seed events) left asked = ⊤
Tells (job.Reduce kept name store resume) left asked = ⊤
Tells (job.WatchStore kept name store) left asked = ⊤
Tells (job.Query store) left asked = ⊤

-- The source of the log is observable, if the job has a log. A job over a store has claims of its own
abbrev pub TellsLog : Job → Option (List ℕ) → List ℕ → Type 0
TellsLog (job.Back of) left log = left ≡ Some log
TellsLog (job.Watch mode name) left log = left ≡ Some log
TellsLog (job.Trial seed events) left log = ⊤
TellsLog (job.Reduce kept name store resume) left log = ⊥
TellsLog (job.WatchStore kept name store) left log = ⊥
TellsLog (job.Query store) left log = ⊥

-- the bytes are the text of the last reply alone
pub record IsLast (limits : Limits) (from : Moment) (questions : List (Option Ask)) (bytes : List ℕ) (to : Moment) : Type 0 where
  pub said : List Reply
  pub last : Reply
  pub dialogue : Dialogue limits from questions (said ++ last ∷ []) to
  pub bytes_are : bytes ≡ text_of last

-- the bytes are the texts of all replies
pub record AreAll (limits : Limits) (from : Moment) (questions : List (Option Ask)) (bytes : List ℕ) (to : Moment) : Type 0 where
  pub said : List Reply
  pub dialogue : Dialogue limits from questions said to
  pub bytes_are : bytes ≡ texts said

-- the bytes are a prefix of the last reply's text
pub record IsLastFront (limits : Limits) (from : Moment) (questions : List (Option Ask)) (bytes : List ℕ) : Type 0 where
  pub to : Moment
  pub more : List ℕ
  pub last : IsLast limits from questions (bytes ++ more) to

-- the bytes are the line of each mode after the log of the seed and a settle, and the moment has this history
pub record AreTrialLines (limits : Limits) (seed events : ℕ) (bytes : List ℕ) (to : Moment) : Type 0 where
  pub lines : AreModeLines limits (trial_history seed events) all_modes bytes
  pub history : to.history ≡ trial_history seed events

-- the bytes are what the job writes, and this moment is its end: `back` writes the last reply, `watch` all of them, and
-- `trial` a line for each mode
abbrev pub Writes : Limits → Job → (log asked bytes : List ℕ) → Moment → Type 0
Writes limits (job.Back of) log asked bytes to = IsLast limits (begin Plain log) (questions_of limits (job.Back of) log asked) bytes to
Writes limits (job.Watch mode name) log asked bytes to = AreAll limits (begin mode log) (questions_of limits (job.Watch mode name) log asked) bytes to
Writes limits (job.Trial seed events) log asked bytes to = AreTrialLines limits seed events bytes to
Writes limits (job.Reduce kept name store resume) log asked bytes to = ⊥
Writes limits (job.WatchStore kept name store) log asked bytes to = ⊥
Writes limits (job.Query store) log asked bytes to = ⊥

-- the bytes are a prefix of what the job would write
abbrev pub WritesFront : Limits → Job → (log asked bytes : List ℕ) → Type 0
WritesFront limits (job.Back of) log asked bytes = (bytes ≡ []) ⊎ IsLastFront limits (begin Plain log) (questions_of limits (job.Back of) log asked) bytes
WritesFront limits (job.Watch mode name) log asked bytes = IsFront limits (begin mode log) (questions_of limits (job.Watch mode name) log asked) bytes
WritesFront limits (job.Trial seed events) log asked bytes = AreCutLines limits (trial_history seed events) all_modes bytes
WritesFront limits (job.Reduce kept name store resume) log asked bytes = bytes ≡ []
WritesFront limits (job.WatchStore kept name store) log asked bytes = bytes ≡ []
WritesFront limits (job.Query store) log asked bytes = bytes ≡ []

-- the questions of `watch` may have bytes past the limit on input
abbrev pub beyond_questions : Limits → Job → List ℕ → Beyond
beyond_questions limits (job.Back of) asked = nothing_beyond
beyond_questions limits (job.Watch mode name) asked = QuestionsStop limits asked
beyond_questions limits (job.Trial seed events) asked = nothing_beyond
beyond_questions limits (job.Reduce kept name store resume) asked = nothing_beyond
beyond_questions limits (job.WatchStore kept name store) asked = nothing_beyond
beyond_questions limits (job.Query store) asked = nothing_beyond

-- the same over a log in one mode
abbrev pub StopsIn : Limits → Mode → Job → (log asked : List ℕ) → List Reply → Moment → Full → Type 0
StopsIn limits mode done log asked said to full =
    StopsAfter limits (beyond_questions limits done asked) (begin mode log)
    (questions_of limits done log asked) said to full

-- the limit stops the log of the seed, or the settle after it, at the moment before the step that passes it. So it stops
-- the first mode, before any reply
pub record TrialStops (limits : Limits) (seed events : ℕ) (said : List Reply) (to : Moment) (full : Full) : Type 0 where
  pub nothing : said ≡ []
  pub stops : Stops limits (trial_history seed events) full
  pub moment : to.history ≡ stops.front

-- after these replies, at this moment, the limit stops the job
abbrev pub JobStops : Limits → Job → (log asked : List ℕ) → List Reply → Moment → Full → Type 0
JobStops limits (job.Back of) log asked said to full = StopsIn limits Plain (job.Back of) log asked said to full
JobStops limits (job.Watch mode name) log asked said to full = StopsIn limits mode (job.Watch mode name) log asked said to full
JobStops limits (job.Trial seed events) log asked said to full = TrialStops limits seed events said to full
JobStops limits (job.Reduce kept name store resume) log asked said to full = ⊥
JobStops limits (job.WatchStore kept name store) log asked said to full = ⊥
JobStops limits (job.Query store) log asked said to full = ⊥

-- the limit would stop the job, after some replies
abbrev pub PassesLimit : Limits → Job → (log asked : List ℕ) → Full → Type 0
PassesLimit limits done log asked full =
    (said : List Reply) × (to : Moment) × JobStops limits done log asked said to full

-- no limit would be passed
abbrev pub PassesNone : Limits → Job → (log asked : List ℕ) → Type 0
PassesNone limits done log asked = (full : Full) → ¬ PassesLimit limits done log asked full

-- the history is within the limits, and the log, if the job has one, is left as the dialogue left it
pub record Ends (limits : Limits) (done : Job) (left : Option (List ℕ)) (to : Moment) : Type 0 where
  pub within : Fits limits to.history
  pub told : TellsLog done left to.log

-- the bytes that were written are what the job writes, up to this end
pub record Finished (limits : Limits) (job : Job) (log asked : List ℕ) (left old new : Option (List ℕ)) : Type 0 where
  pub to : Moment
  pub bytes : List ℕ
  pub wrote : Appends old new bytes
  pub writes : Writes limits job log asked bytes to
  pub ends : Ends limits job left to

-- the bytes that were written are a prefix of what the job would write
pub record Written (limits : Limits) (job : Job) (log asked : List ℕ) (old new : Option (List ℕ)) : Type 0 where
  pub bytes : List ℕ
  pub wrote : Appends old new bytes
  pub front : WritesFront limits job log asked bytes

-- replies before the last one write nothing
abbrev pub unsaid : List Reply → List ℕ
unsaid said = []

-- what replies have written before the job is done: `watch` writes each at once, `back` the last one
-- alone, and `trial` none of them
abbrev pub written_by : Job → List Reply → List ℕ
written_by (job.Back of) = unsaid
written_by (job.Watch mode name) = texts
written_by (job.Trial seed events) = unsaid
written_by (job.Reduce kept name store resume) = unsaid
written_by (job.WatchStore kept name store) = unsaid
written_by (job.Query store) = unsaid

-- The limit stopped the job at one moment, and no limit was passed before. What was written is exactly
-- what the replies up to there have written
pub record StoppedAt (limits : Limits) (job : Job) (log asked : List ℕ)
    (old new : Option (List ℕ)) (full : Full) : Type 0 where
  pub said : List Reply
  pub to : Moment
  pub stops : JobStops limits job log asked said to full
  pub fits : Fits limits to.history
  pub wrote : Appends old new (written_by job said)

-- if the job has questions, at most 65,536 bytes are read after a prefix that doesn't end them
abbrev pub LeavesQuestions : Limits → Job → (log asked : List ℕ) → Option (List ℕ) → Type 0
LeavesQuestions limits (job.Back of) log asked left = ⊤
LeavesQuestions limits (job.Watch mode name) log asked left = ReadsNoFurther limits (begin mode log) asked left
LeavesQuestions limits (job.Trial seed events) log asked left = ⊤
LeavesQuestions limits (job.Reduce kept name store resume) log asked left = ⊤
LeavesQuestions limits (job.WatchStore kept name store) log asked left = ⊤
LeavesQuestions limits (job.Query store) log asked left = ⊤
