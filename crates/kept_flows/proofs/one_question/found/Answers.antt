use Rattle.std.proofs.Common.{ℕ, ◌↔◌, ◌∙◌}
use Rattle.std.specs.List.{Contains}
use Rattle.reach_model.specs.Ids.{numbers}
use Rattle.reach_model.specs.Rows.{firsts}
use Rattle.reach_rows.specs.Asked.{IsAnswer, IsAnsweredFor, counted}
use Rattle.kept_flows.specs.Answering.{AreFound, AreThose}
use Rattle.kept_flows.proofs.Those.{told, if_told}
use Rattle.kept_flows.proofs.one_question.found.Goals as goal

pub returns-clause-exact : goal.returns-clause-exact
returns-clause-exact g c =
    let rows = g.W.Rows.rows c.args.rows.now in
    let after = g.W.Rows.rows c.walk.new.rows in
    let mode = c.args.mode in
    let q = c.args.question.now in
    let all = numbers c.in_ok-ids.ids in
    let those = c.in_ok-those.those in
    if_told (λ R. AreFound mode R q those) rows (λ R e.
    let chosen = told (λ R. AreThose (IsAnsweredFor mode (firsts R) q) all (numbers those)) after c.in_ok-those.ensures R (c.walk.ensures.same.0 ∙ e) in
    let walked = told (λ R. (x : ℕ) → Contains all x ↔ IsAnswer q (counted q R) x) rows c.in_ok-ids.ensures.exact R e in
    record {
      ascend = chosen.ascend c.in_ok-ids.ensures.ascending;
      exact = λ x. (
        λ there. let b = (chosen.exact x).0 there in (b.0, (walked x).0 b.1),
        λ both. (chosen.exact x).1 (both.0, (walked x).1 both.1),
      );
    })
