-- How a job ends, whatever its outcome.
use Rattle.std.specs.Prelude.{◌≡◌, ◌⊎◌, ⊤, ℕ, List, [], Option, Result, Ok, Err, OnOk}
use Rattle.std.specs.Io.KnownBytes.{Appends}
use Rattle.flow_base.specs.declared.limits.Limits.{Limits}
use Rattle.flow_base.specs.declared.limits.Full.{Full}
use Rattle.report_json.specs.declared.ask.Ask.{Ask}
use Rattle.ingest.specs.Parts.{Engine}
use Rattle.dialogue.specs.declared.halt.Halt.{Halt}
use Rattle.dialogue.specs.declared.halt.Halt.TheVariants as halt
use Rattle.audit_cli.specs.declared.words.Job.{Job}
use Rattle.audit_cli.specs.declared.words.Job.TheVariants as job
use Rattle.reach_model.specs.declared.modes.Mode.TheVariants.{Plain}
use Rattle.ingest.specs.Stops.{Stops}
use Rattle.dialogue.specs.Dialogue.{Moment, QuestionsStop, nothing_beyond, begin, asks, lines_in, texts}
use Rattle.dialogue.specs.Course.{Kind, At, Stopped}
use Rattle.audit_cli.specs.Trials.{trial_history}
use Rattle.audit_cli.specs.Headline.{IsLast, IsLastFront, Writes, WritesFront, Ends, back_questions, unsaid}
use Rattle.dialogue.specs.Listening.{KeepsWithin}

-- the bytes are the last reply's text; nothing if a limit stopped the run; after another halt nothing,
-- or a prefix of that text
abbrev pub LastCourse : Limits → Result Unit Halt → Moment → List (Option Ask) → List ℕ → Moment → Type 0
LastCourse limits (Ok done) from questions bytes to = IsLast limits from questions bytes to
LastCourse limits (Err (halt.Full full)) from questions bytes to =
    Stopped limits nothing_beyond unsaid from questions bytes full
LastCourse limits (Err _) from questions bytes to = (bytes ≡ []) ⊎ IsLastFront limits from questions bytes

-- a run of which the last reply alone is written
pub record LastTalked {K : Type 0} (kind : Kind K) (limits : Limits) (engine : Engine K) (left old new : Option (List ℕ)) (result : Result Unit Halt) (from : Moment) (questions : List (Option Ask)) : Type 0 where
  pub to : Moment
  pub bytes : List ℕ
  pub wrote : Appends old new bytes
  pub course : LastCourse limits result from questions bytes to
  pub at : OnOk result (At kind limits engine left to)

-- the questions kept within their limit, if the job has questions
abbrev pub KeepsLimit : Limits → Job → (log asked : List ℕ) → Type 0
KeepsLimit limits (job.Back of) log asked = ⊤
KeepsLimit limits (job.Watch mode name) log asked = KeepsWithin limits (begin mode log) asked
KeepsLimit limits (job.Trial seed events) log asked = ⊤
KeepsLimit limits (job.Reduce kept name store resume) log asked = ⊤
KeepsLimit limits (job.WatchStore kept name store) log asked = ⊤
KeepsLimit limits (job.Query store) log asked = ⊤

-- a limit stopped the job, after which these bytes were written
abbrev pub JobStopped : Limits → Job → (log asked bytes : List ℕ) → Full → Type 0
JobStopped limits (job.Back of) log asked bytes full =
    Stopped limits nothing_beyond unsaid (begin Plain log) (back_questions of log) bytes full
JobStopped limits (job.Watch mode name) log asked bytes full =
    Stopped limits (QuestionsStop limits asked) texts (begin mode log) (asks limits (lines_in asked)) bytes full
JobStopped limits (job.Trial seed events) log asked bytes full =
    (bytes ≡ []) × Stops limits (trial_history seed events) full
JobStopped limits (job.Reduce kept name store resume) log asked bytes full = ⊥
JobStopped limits (job.WatchStore kept name store) log asked bytes full = ⊥
JobStopped limits (job.Query store) log asked bytes full = ⊥

-- what a job wrote, by how it ended
abbrev pub JobCourse : Limits → Job → Result Unit Halt → (log asked bytes : List ℕ) → Moment → Type 0
JobCourse limits done (Ok all) log asked bytes to = Writes limits done log asked bytes to
JobCourse limits done (Err (halt.Full full)) log asked bytes to =
    JobStopped limits done log asked bytes full
JobCourse limits done (Err _) log asked bytes to = WritesFront limits done log asked bytes

-- a job, from its begin to its end
pub record JobTalked (limits : Limits) (job : Job) (log asked : List ℕ) (left old new : Option (List ℕ)) (result : Result Unit Halt) : Type 0 where
  pub to : Moment
  pub bytes : List ℕ
  pub wrote : Appends old new bytes
  pub course : JobCourse limits job result log asked bytes to
  pub ends : OnOk result (Ends limits job left to)
