use Rattle.std.proofs.Common.{◌≡◌, ◌≤◌, ◌↔◌, IsTrue, false, arith}
use Rattle.std.proofs.lemmas.Bool.{false≢true}
use Rattle.reach_model.specs.Numbers.{known}
use Rattle.reach_model.specs.Rows.{firsts}
use Rattle.reach_model.specs.Sources.{IsSource}
use Rattle.kept_flows.proofs.Answered.{no_source}
use Rattle.kept_flows.proofs.Those.{told, if_told}
use Rattle.kept_flows.proofs.one_question.is_source.Goals as goal

pub returns-then-id-known : goal.returns-then-id-known
returns-then-id-known g c =
    let rows = g.W.Rows.rows c.args.rows.now in
    if_told (λ R. IsTrue false ↔ IsSource (firsts R) c.args.id.0) rows (λ R e.
    let all = told (λ R. known (firsts R) ≡ g.W.Rows.known c.args.rows.now) rows c.known.ensures.told R e in
    let past : known (firsts R) ≤ c.args.id.0 = omega (arith, all, c.known.ensures.known, c.if-id-known.true) in
    (λ t. absurd (false≢true t), λ s. absurd (no_source (firsts R) c.args.id.0 past s)))
