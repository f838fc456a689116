-- Which reply answers what is asked after a history.
use Rattle.std.specs.Prelude.{◌≡◌, ◌≢◌, ◌≤◌, ◌<◌, ◌⊎◌, ⊤, ℕ, List, length, Option, None, Some}
use Rattle.flow_base.specs.declared.limits.Limits.{Limits}
use Rattle.flow_base.specs.declared.types.EntityId.{EntityId}
use Rattle.flow_base.specs.declared.types.Flow.{Flow}
use Rattle.audit_lex.specs.History.{History, lines_of}
use Rattle.record_join.specs.Events.{count_keys}
use Rattle.record_join.specs.declared.event.Event.{Event}
use Rattle.reach_model.specs.declared.modes.Mode.{Mode}
use Rattle.reach_model.specs.declared.modes.Mode.TheVariants as mode
use Rattle.reach_model.specs.Rows.{Row, Keeps}
use Rattle.reach_rows.specs.Asked.{IsAnswerable, subject}
use Rattle.reach_rows.specs.declared.questions.Question.{Question}
use Rattle.reach_rows.specs.declared.questions.Question.TheVariants as question
use Rattle.kept_flows.specs.Answering.{AreAnswers, ShowsFor}
use Rattle.kept_flows.specs.declared.one_path.Way.{Way}
use Rattle.kept_flows.specs.declared.one_path.Way.TheVariants as way
use Rattle.report_json.specs.declared.ask.Ask.{Ask}
use Rattle.report_json.specs.declared.ask.Ask.TheVariants as ask
use Rattle.report_json.specs.declared.counts.Counts.{Counts}
use Rattle.report_json.specs.declared.reply.Reply.{Reply}
use Rattle.report_json.specs.declared.reply.Reply.TheVariants as reply
use Rattle.ingest.specs.Counting.{bytes_in, tally_in, counts_in}
use Rattle.ingest.specs.Events.{state_of, events_of, flows_of, objects_of, objects_in}
use Rattle.ingest.specs.Naming.{named_in, IsCalled}

-- a question, about an object or for the counts, which the engine answers
abbrev pub IsQuestion : Ask → Type 0
IsQuestion (ask.Question asked) = ⊤
IsQuestion (ask.Why from to until) = ⊤
IsQuestion (ask.Find text) = ⊤
IsQuestion (ask.Show id) = ⊤
IsQuestion ask.Stat = ⊤
IsQuestion _ = ⊥

-- the counts after a history, of whose flows this many rows are kept
abbrev pub counts_of : Limits → History → ℕ → Counts
counts_of limits h kept = record {
  blank = (tally_in limits h).blank;
  bytes = bytes_in h;
  events = length (events_of limits h);
  excess = (state_of limits h).excess;
  flows = length (flows_of limits h);
  kept = kept;
  known = length (objects_of limits h);
  late = (counts_in (events_of limits h)).late;
  lines = length (lines_of h);
  malformed = (tally_in limits h).malformed;
  malformed_lines = (tally_in limits h).bad;
  other = (tally_in limits h).other;
  unmapped = (counts_in (events_of limits h)).unmapped;
  used = (tally_in limits h).used;
  waiting = count_keys (state_of limits h).waiting;
}

-- this many rows are those that the mode keeps of the flows
abbrev pub KeepsSoMany : Mode → List Flow → ℕ → Type 0
KeepsSoMany kind flows n = (rows : List Row) × Keeps kind flows rows × (n ≡ length rows)

-- the reply has the counts
abbrev pub SaysCounts : Mode → Limits → History → Reply → Type 0
SaysCounts kind limits h said = (kept : ℕ) × KeepsSoMany kind (flows_of limits h) kept × (said ≡ reply.Stat (counts_of limits h kept))

-- The reply has the answers by the flows, and names the object of the question. Backward they are sources in source mode, and
-- all objects in the other modes.
abbrev pub SaysAnswers : Mode → List Flow → Question → Reply → Type 0
SaysAnswers kind flows (question.Back of until) (reply.Back named ids) = (kind ≢ mode.Source) × (named ≡ of) × AreAnswers kind flows (question.Back of until) ids
SaysAnswers kind flows (question.Back of until) (reply.Sources named ids) = (kind ≡ mode.Source) × (named ≡ of) × AreAnswers kind flows (question.Back of until) ids
SaysAnswers kind flows (question.Fore of since) (reply.Fore named ids) = (named ≡ of) × AreAnswers kind flows (question.Fore of since) ids
SaysAnswers kind flows asked _ = ⊥

-- Of the objects this many are known. A question about another one is refused, and then one that the mode doesn't answer.
abbrev pub AnswersQuestion : Mode → (known : ℕ) → List Flow → Question → Reply → Type 0
AnswersQuestion kind known flows asked reply.Unknown = known ≤ subject asked
AnswersQuestion kind known flows asked reply.NotKept = (subject asked < known) × ¬ IsAnswerable kind flows asked
AnswersQuestion kind known flows asked said = (subject asked < known) × IsAnswerable kind flows asked × SaysAnswers kind flows asked said

-- a path, or that there is none
abbrev pub way_by : Option (List Flow) → Way
way_by None = way.Nowhere
way_by (Some path) = way.Along path

-- Of the objects this many are known. A question why about another one is refused, and then one that the mode doesn't answer. Else
-- the reply names both objects in their order, and has a path from the first to the second, or says that there is none.
abbrev pub AnswersWhy : Mode → (known : ℕ) → List Flow → (from to : EntityId) → Option ℕ → Reply → Type 0
AnswersWhy kind known flows from to until reply.Unknown = (known ≤ from.0) ⊎ (known ≤ to.0)
AnswersWhy kind known flows from to until reply.NotKept = (from.0 < known) × (to.0 < known) × ShowsFor kind flows from.0 to.0 until way.NotKept
AnswersWhy kind known flows from to until (reply.Why first second path) =
    (from.0 < known) × (to.0 < known) × (first ≡ from) × (second ≡ to) × ShowsFor kind flows from.0 to.0 until (way_by path)
AnswersWhy kind known flows from to until _ = ⊥

-- the reply has the text, and the known objects with exactly this name
abbrev pub AnswersFind : Limits → List Event → List ℕ → Reply → Type 0
AnswersFind limits events text (reply.Find said ids) = (said ≡ text) × (ids ≡ named_in limits events text)
AnswersFind limits events text _ = ⊥

-- a number of no object is refused, and else the reply has the object with the text of its key and with its names
abbrev pub AnswersShow : Limits → List Event → EntityId → Reply → Type 0
AnswersShow limits events id reply.Unknown = length (objects_in limits events) ≤ id.0
AnswersShow limits events id (reply.Show said text names) = (said ≡ id) × IsCalled limits events id text names
AnswersShow limits events id _ = ⊥

-- the reply answers what is asked
abbrev pub IsReply : Mode → Limits → History → Ask → Reply → Type 0
IsReply kind limits h (ask.Question asked) said = AnswersQuestion kind (length (objects_of limits h)) (flows_of limits h) asked said
IsReply kind limits h (ask.Why from to until) said = AnswersWhy kind (length (objects_of limits h)) (flows_of limits h) from to until said
IsReply kind limits h (ask.Find text) said = AnswersFind limits (events_of limits h) text said
IsReply kind limits h (ask.Show id) said = AnswersShow limits (events_of limits h) id said
IsReply kind limits h ask.Stat said = SaysCounts kind limits h said
IsReply kind limits h _ said = ⊥
