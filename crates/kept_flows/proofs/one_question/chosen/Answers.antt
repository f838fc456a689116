use Rattle.std.proofs.Common.{sym, ◌∙◌, List}
use Rattle.std.specs.Option.{IfSome}
use Rattle.std.proofs.lemmas.Result.{IfOk-weaker}
use Rattle.flow_base.specs.declared.types.EntityId.{EntityId}
use Rattle.reach_model.specs.Ids.{numbers}
use Rattle.reach_model.specs.Rows.{firsts}
use Rattle.reach_model.specs.Sources.{IsSource}
use Rattle.reach_rows.specs.Asked.{IsAnsweredFor}
use Rattle.kept_flows.specs.Answering.{AreThose}
use Rattle.kept_flows.proofs.Answered.{for_sources}
use Rattle.kept_flows.proofs.Those.{told, if_told, those_same}
use Rattle.kept_flows.proofs.one_question.chosen.Goals as goal

pub returns-then-asks_for_sources : goal.returns-then-asks_for_sources
returns-then-asks_for_sources g c =
    let rows = g.W.Rows.rows c.args.rows.now in
    let mode = c.args.mode in
    let question = c.args.question.now in
    let ids = numbers c.args.ids in
    IfOk-weaker c.sources.result
    (λ (those : List EntityId). IfSome rows (λ R. AreThose (IsSource (firsts R)) ids (numbers those)))
    (λ (those : List EntityId). IfSome rows (λ R. AreThose (IsAnsweredFor mode (firsts R) question) ids (numbers those)))
    (λ those found. if_told (λ R. AreThose (IsAnsweredFor mode (firsts R) question) ids (numbers those)) rows (λ R e.
    those_same (IsSource (firsts R)) (IsAnsweredFor mode (firsts R) question) ids (numbers those)
    (for_sources mode question (sym c.asks_for_sources.ensures ∙ c.if-asks_for_sources.true) (firsts R))
    (told (λ R. AreThose (IsSource (firsts R)) ids (numbers those)) rows found R e)))
    c.sources.ensures
