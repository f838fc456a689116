-- What `trial` writes: a line for each mode.
use Rattle.std.specs.Prelude.{◌≡◌, ℕ, zero, suc, List, [], ◌∷◌, ◌++◌, length, Option, None, Result, Ok, Err, codes}
use Rattle.std.specs.Io.KnownBytes.{Appends}
use Rattle.flow_base.specs.declared.limits.Limits.{Limits}
use Rattle.audit_lex.specs.History.{History, Settle, with_bytes}
use Rattle.audit_gen.specs.Logs.{generated}
use Rattle.reach_model.specs.declared.modes.Mode.{Mode}
use Rattle.reach_model.specs.declared.modes.Mode.TheVariants as mode
use Rattle.reach_rows.specs.declared.questions.Question.TheVariants as question
use Rattle.serde_json.specs.Data.{Data, string, object, member, no_members}
use Rattle.report_json.specs.declared.ask.Ask.{Ask}
use Rattle.report_json.specs.declared.ask.Ask.TheVariants as ask
use Rattle.report_json.specs.declared.reply.Reply.{Reply}
use Rattle.report_json.specs.declared.reply.Reply.TheVariants as reply
use Rattle.report_json.specs.Replies.{count_data, line_of}
use Rattle.ingest.specs.Parts.{Engine}
use Rattle.ingest.specs.Replies.{IsReply}
use Rattle.ingest.specs.StandsFor.{StandsFor}
use Rattle.ingest.specs.Stops.{Fits, Stops}
use Rattle.dialogue.specs.declared.halt.Halt.{Halt}
use Rattle.dialogue.specs.declared.halt.Halt.TheVariants as halt
use Rattle.store_runs.specs.Statuses.{mode_name}
use Rattle.audit_cli.specs.declared.trial_line.Totals.{Totals}

-- all of a log, and then a settle
abbrev pub settled : List ℕ → History
settled log = with_bytes [] log ++ Settle ∷ []

-- what is asked of the engine of each mode: the log of this seed with this many events, and then a settle
abbrev pub trial_history : (seed events : ℕ) → History
trial_history seed events = settled (generated seed events)

-- the modes in the order in which they are tried
abbrev pub all_modes : List Mode
all_modes = mode.Plain ∷ mode.Continuous ∷ mode.Full ∷ mode.Source ∷ []

-- the flows, the kept rows and the known objects that a reply to `stat` counts. No other reply answers `stat`
abbrev pub totals_in : Reply → Totals
totals_in (reply.Stat counts) = record { flows = counts.flows; kept = counts.kept; known = counts.known }
totals_in _ = record { flows = 0; kept = 0; known = 0 }

-- these are the totals that a reply to `stat` counts
pub record AreTotals (kind : Mode) (limits : Limits) (h : History) (totals : Totals) : Type 0 where
  pub stat : Reply
  pub counts : IsReply kind limits h ask.Stat stat
  pub totals_are : totals ≡ totals_in stat

-- the engine stands for some history within some limits
pub record HasHistory {K : Type 0} (engine : Engine K) : Type 0 where
  pub limits : Limits
  pub h : History
  pub stands : StandsFor limits engine h

-- the engine has taken nothing, within some limits
abbrev pub IsNew : {K : Type 0} → Engine K → Type 0
IsNew engine = (limits : Limits) × StandsFor limits engine []

-- how many objects or sources a reply to `back` has
abbrev pub size_of : Reply → ℕ
size_of (reply.Back of ids) = length ids
size_of (reply.Sources of ids) = length ids
size_of _ = 0

-- the question what the object of this number can have come from
abbrev pub back_from : ℕ → Ask
back_from of = ask.Question (question.Back (record { 0 = of }) None)

-- From how many objects or sources the last of this many known objects can have come. If none is known the number is 0
abbrev pub CountsBack : Mode → Limits → History → (known back : ℕ) → Type 0
CountsBack kind limits h zero back = back ≡ 0
CountsBack kind limits h (suc last) back =
    (said : Reply) × IsReply kind limits h (back_from last) said × (back ≡ size_of said)

-- the line of a mode as JSON
abbrev pub trial_data : Mode → Totals → ℕ → Data
trial_data kind totals back = object (
    member (codes "back") (count_data back) (
    member (codes "flows") (count_data totals.flows) (
    member (codes "kept") (count_data totals.kept) (
    member (codes "known") (count_data totals.known) (
    member (codes "mode") (string (mode_name kind)) no_members)))))

-- the line of a mode after a history: the counts of the reply to `stat`, and the number of ids or sources in the reply
-- to `back` on the last known object
pub record IsModeLine (kind : Mode) (limits : Limits) (h : History) (line : List ℕ) : Type 0 where
  pub stat : Reply
  pub back : ℕ
  pub counts : IsReply kind limits h ask.Stat stat
  pub reached : CountsBack kind limits h (totals_in stat).known back
  pub line_is : line ≡ line_of (trial_data kind (totals_in stat) back)

-- the bytes are the lines of these modes in order
abbrev pub AreModeLines : Limits → History → List Mode → List ℕ → Type 0
AreModeLines limits h [] bytes = bytes ≡ []
AreModeLines limits h (kind ∷ later) bytes =
    (line : List ℕ) × (rest : List ℕ) × IsModeLine kind limits h line × AreModeLines limits h later rest × (bytes ≡ line ++ rest)

-- the bytes are a prefix of the lines of some of these modes, from the first on
pub record AreCutLines (limits : Limits) (h : History) (modes : List Mode) (bytes : List ℕ) : Type 0 where
  pub tried : List Mode
  pub untried : List Mode
  pub more : List ℕ
  pub parts : modes ≡ tried ++ untried
  pub lines : AreModeLines limits h tried (bytes ++ more)

-- what was written of the lines of these modes, by how their trial ended. A limit stops the history in every mode or in
-- none, and so it stops the first mode before anything is written
abbrev pub TrialCourse : Limits → History → List Mode → Result Unit Halt → List ℕ → Type 0
TrialCourse limits h modes (Ok done) bytes = AreModeLines limits h modes bytes × Fits limits h
TrialCourse limits h modes (Err (halt.Full full)) bytes = (bytes ≡ []) × Stops limits h full
TrialCourse limits h modes (Err _) bytes = AreCutLines limits h modes bytes

-- a trial of these modes over a history
pub record Tried (limits : Limits) (h : History) (modes : List Mode) (old new : Option (List ℕ)) (result : Result Unit Halt) : Type 0 where
  pub bytes : List ℕ
  pub wrote : Appends old new bytes
  pub course : TrialCourse limits h modes result bytes
