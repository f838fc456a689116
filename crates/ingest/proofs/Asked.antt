-- Facts on replies.
use Rattle.std.proofs.Common.{◌≡◌, ◌<◌, ◌≤◌, subst, ap, ℕ, List, length, None, Some}
use Rattle.flow_base.specs.declared.limits.Limits.{Limits}
use Rattle.flow_base.specs.declared.types.EntityId.{EntityId}
use Rattle.flow_base.specs.declared.types.Flow.{Flow}
use Rattle.record_join.specs.Events.{Joining}
use Rattle.record_join.specs.declared.event.Event.{Event}
use Rattle.reach_model.specs.declared.modes.Mode.{Mode}
use Rattle.reach_model.specs.Rows.{Keeps}
use Rattle.reach_rows.specs.Asked.{IsAnswerable, subject}
use Rattle.reach_rows.specs.declared.questions.Question.{Question}
use Rattle.reach_rows.specs.declared.questions.Question.TheVariants as question
use Rattle.kept_flows.specs.Answering.{AreAnswers, AnswersFor}
use Rattle.kept_flows.specs.KeptFlows.{KeptFlows, StandsFor as KeptStandsFor}
use Rattle.report_json.specs.declared.reply.Reply.{Reply}
use Rattle.report_json.specs.declared.reply.Reply.TheVariants as reply
use Rattle.ingest.specs.Events.{flows_in, objects_in}
use Rattle.ingest.specs.Parts.{Joined}
use Rattle.ingest.specs.Replies.{AnswersQuestion, SaysAnswers, KeepsSoMany}
use Rattle.ingest.specs.StandsFor.{JoinedStandsFor}

-- a reply that has the answers answers the question
pub says_so : (kind : Mode) (known : ℕ) (flows : List Flow) (asked : Question) (said : Reply) → subject asked < known → IsAnswerable kind flows asked → SaysAnswers kind flows asked said
    → AnswersQuestion kind known flows asked said
says_so kind known flows (question.Back of until) (reply.Back named ids) below may says = (below, may, says)
says_so kind known flows (question.Back of until) (reply.Sources named ids) below may says = (below, may, says)
says_so kind known flows (question.Back of until) (reply.Fore named ids) below may says = absurd says
says_so kind known flows (question.Back of until) (reply.Take count) below may says = absurd says
says_so kind known flows (question.Back of until) (reply.Settle count) below may says = absurd says
says_so kind known flows (question.Back of until) (reply.Why from to path) below may says = absurd says
says_so kind known flows (question.Back of until) (reply.Find text ids) below may says = absurd says
says_so kind known flows (question.Back of until) (reply.Show id key names) below may says = absurd says
says_so kind known flows (question.Back of until) (reply.Stat counts) below may says = absurd says
says_so kind known flows (question.Back of until) reply.End below may says = absurd says
says_so kind known flows (question.Back of until) reply.BadQuestion below may says = absurd says
says_so kind known flows (question.Back of until) reply.Unknown below may says = absurd says
says_so kind known flows (question.Back of until) reply.NotKept below may says = absurd says
says_so kind known flows (question.Fore of since) (reply.Back named ids) below may says = absurd says
says_so kind known flows (question.Fore of since) (reply.Sources named ids) below may says = absurd says
says_so kind known flows (question.Fore of since) (reply.Fore named ids) below may says = (below, may, says)
says_so kind known flows (question.Fore of since) (reply.Take count) below may says = absurd says
says_so kind known flows (question.Fore of since) (reply.Settle count) below may says = absurd says
says_so kind known flows (question.Fore of since) (reply.Why from to path) below may says = absurd says
says_so kind known flows (question.Fore of since) (reply.Find text ids) below may says = absurd says
says_so kind known flows (question.Fore of since) (reply.Show id key names) below may says = absurd says
says_so kind known flows (question.Fore of since) (reply.Stat counts) below may says = absurd says
says_so kind known flows (question.Fore of since) reply.End below may says = absurd says
says_so kind known flows (question.Fore of since) reply.BadQuestion below may says = absurd says
says_so kind known flows (question.Fore of since) reply.Unknown below may says = absurd says
says_so kind known flows (question.Fore of since) reply.NotKept below may says = absurd says

-- so many rows are kept
pub so_many : (kept : KeptFlows) (kind : Mode) (flows : List Flow) (n : ℕ) → kept.mode ≡ kind → n ≡ kept.count → KeptStandsFor kept flows → KeepsSoMany kind flows n
so_many kept kind flows n mode count stands =
    (stands.rows, subst (λ (m : Mode). Keeps m flows stands.rows) mode stands.keeps, cc (count, stands.counted))

-- ---- a question after the events that were released

-- the reply answers the question by the flows of these events
abbrev pub AnswersIn : Mode → Limits → List Event → Question → Reply → Type 0
AnswersIn kind limits released asked said = AnswersQuestion kind (length (objects_in limits released)) (flows_in limits released) asked said

module _ {K : Type 0} (kind : Mode) (limits : Limits) (joined : Joined K) (s : Joining) (released : List Event) (asked : Question) (stands : JoinedStandsFor limits joined s released) where
  count_is : length joined.tables.entities.keys ≡ length (objects_in limits released)
  count_is = ap length stands.tables.objects_are

  pub unknown_so : length joined.tables.entities.keys ≤ subject asked → AnswersIn kind limits released asked reply.Unknown
  unknown_so beyond = subst (λ n. n ≤ subject asked) count_is beyond

  pub not_kept_so : subject asked < length joined.tables.entities.keys → AnswersFor kind (flows_in limits released) asked None → AnswersIn kind limits released asked reply.NotKept
  not_kept_so below none = (subst (λ n. subject asked < n) count_is below, none)

  pub answered_so : (own : Mode) (ids : List EntityId) (said : Reply) → own ≡ kind → ((flows : List Flow) → AreAnswers own flows asked ids → SaysAnswers own flows asked said)
      → subject asked < length joined.tables.entities.keys → AnswersFor kind (flows_in limits released) asked (Some ids) → AnswersIn kind limits released asked said
  answered_so own ids said is says below found =
      let so = subst (λ (m : Mode). (flows : List Flow) → AreAnswers m flows asked ids → SaysAnswers m flows asked said) is says in
      says_so kind (length (objects_in limits released)) (flows_in limits released) asked said (subst (λ n. subject asked < n) count_is below) found.0 (so (flows_in limits released) found.1)
