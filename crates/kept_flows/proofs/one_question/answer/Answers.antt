use Rattle.std.proofs.Common.{subst}
use Rattle.reach_model.specs.Rows.{firsts}
use Rattle.reach_rows.specs.Asked.{subject}
use Rattle.reach_rows.specs.Kept.{IsFirstOf}
use Rattle.kept_flows.specs.Answering.{AreFound}
use Rattle.kept_flows.proofs.Answered.{answers_of}
use Rattle.kept_flows.proofs.Those.{told}
use Rattle.kept_flows.proofs.one_question.answer.Goals as goal

pub returns-clause-exact : goal.returns-clause-exact
returns-clause-exact g c = λ F R e lawful keeps.
    let mode = g.M.Reducer.mode in
    let rows = g.W.Rows.rows c.args.rows.now in
    let q = c.args.question.now in
    let ids = c.in_ok-ids.ids in
    let first = c.first-first.result in
    let is = subst (λ x. IsFirstOf (firsts R) x first) c.subject.ensures
    (told (λ R. IsFirstOf (firsts R) c.subject.result.0 first) rows c.first-first.ensures R e) in
    let allowed = c.allowed-allowed.ensures.0 c.if-not-allowed.false in
    let whole = (c.first_flows_are_told.ensures mode F R lawful keeps (subject q) first).0 is in
    let found = subst (λ m. AreFound m R q ids) c.mode.ensures (told (λ R. AreFound c.mode.result R q ids) rows c.in_ok-ids.ensures.exact R e) in (
      (c.what_is_allowed_is_answerable.ensures.exact mode F q first whole).0 allowed,
      answers_of mode F R q ids (c.first_flows_are_kept.ensures.first mode F R lawful keeps)
          (c.what_is_allowed_is_answered.ensures.exact mode F R q first lawful keeps is allowed) found,
    )
